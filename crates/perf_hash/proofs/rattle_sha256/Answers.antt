use Rattle.std.proofs.Common.{[], ◌∷◌, append-nil}
use Rattle.sha.specs.Sha.{sha256}
use Rattle.perf_hash.proofs.Left.{eight, left}
use Rattle.perf_hash.proofs.rattle_sha256.Goals as goal

pub returns : goal.returns
returns c = left sha256 8 (c.args.message ∷ []) c.args.message.now c.args.digest.now c.handed_out.new.digest c.handed_out.result c.sha256.result eight (append-nil c.args.message.now) c.sha256.ensures.answer c.handed_out.ensures
