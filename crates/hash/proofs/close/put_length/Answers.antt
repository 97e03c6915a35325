use Rattle.std.proofs.Common.{◌∙◌}
use Rattle.hash.proofs.Closed.{measured}
use Rattle.hash.proofs.close.put_length.Goals as goal

pub returns : goal.returns
returns c = measured c.args.tail.now c.copy_from_slice.new.self c.args.count c.told-tail (c.copy_from_slice.ensures.after ∙ c.to_be_bytes.ensures)
