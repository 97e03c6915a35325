use Rattle.std.proofs.Common.{◌^◌}
use Rattle.words.proofs.Bytes.{below_from}
use Rattle.hash.proofs.message.Message.add.Goals as goal

pub returns-then-data-self-clause-bytes : goal.returns-then-data-self-clause-bytes
returns-then-data-self-clause-bytes g c = below_from (2 ^ 8) c.args.«data».now (λ k. (c.type_inv.«data» k).fits)

pub returns-clause-bytes : goal.returns-clause-bytes
returns-clause-bytes g c = below_from (2 ^ 8) c.args.«data».now (λ k. (c.type_inv.«data» k).fits)
