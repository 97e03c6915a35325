use Rattle.std.proofs.Common.{[], ◌∷◌, append-nil}
use Rattle.sha.specs.Sha.{sha1}
use Rattle.perf_hash.proofs.Left.{five, left}
use Rattle.perf_hash.proofs.rattle_sha1.Goals as goal

pub returns : goal.returns
returns c = left sha1 5 (c.args.message ∷ []) c.args.message.now c.args.digest.now c.handed_out.new.digest c.handed_out.result c.sha1.result five (append-nil c.args.message.now) c.sha1.ensures.answer c.handed_out.ensures
