use Rattle.std.proofs.Common.{ap, arith}
use Rattle.trace.proofs.Walked.{ends_at}
use Rattle.trace.proofs.walk.in_step.Goals as goal

pub returns-clause-x_digest : goal.returns-clause-x_digest
returns-clause-x_digest g c =
    let here = c.loop-k.invariant in
    ends_at _ _ _ _ _ _ (ap g.C.Cipher.meaning here.x_cipher) here.x_message (omega arith) c.loop-k.x.before

pub returns-clause-y_digest : goal.returns-clause-y_digest
returns-clause-y_digest g c =
    let here = c.loop-k.invariant in
    ends_at _ _ _ _ _ _ (ap g.C.Cipher.meaning here.y_cipher) here.y_message (omega arith) c.loop-k.y.before
