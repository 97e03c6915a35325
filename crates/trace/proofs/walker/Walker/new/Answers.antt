use Rattle.std.proofs.Common.{arith}
use Rattle.trace.proofs.Walked.{before_none}
use Rattle.trace.proofs.walker.Walker.new.Goals as goal

pub invariant_of-result : goal.invariant_of-result
invariant_of-result g c = record {
  inside = omega arith;
  before = before_none (g.C.Cipher.meaning c.new.result.cipher.now) c.args.message.message.now _ (rw c.new.ensures.same c.new.ensures.begun);
}
