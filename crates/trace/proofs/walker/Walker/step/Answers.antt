use Rattle.std.proofs.Common.{arith}
use Rattle.trace.proofs.Walked.{before_more}
use Rattle.trace.proofs.walker.Walker.step.Goals as goal

pub invariant_of-self : goal.invariant_of-self
invariant_of-self g c =
    let s = c.args.self.now in
    record {
      inside = omega arith;
      before = rw c.step.ensures.same
          (before_more (g.C.Cipher.meaning s.chain.cipher.now) s.message.message.now _ c.block-block.result _ s.at c.requires s.before c.block-block.ensures c.step.ensures.stepped);
    }
