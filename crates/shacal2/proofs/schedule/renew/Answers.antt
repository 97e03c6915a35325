use Rattle.std.proofs.Common.{◌∙◌, arith}
use Rattle.std.proofs.lemmas.List.{take-set-le}
use Rattle.words.proofs.Schedule.{rolled_more}
use Rattle.shacal2.specs.Shacal2.{fresh}
use Rattle.shacal2.proofs.Window.{fresh_from}
use Rattle.shacal2.proofs.schedule.renew.Goals as goal

pub loop-i-preserved : goal.loop-i-preserved
loop-i-preserved c = (
  λ k l r.
      let inv = c.loop-i.invariant.0 k l r in
      rolled_more fresh k c.loop-i.r c.loop-i.i c.word.result l (omega arith) inv
      (c.word.ensures ∙ fresh_from k c.loop-i.r c.loop-i.i (omega arith) inv),
  take-set-le c.args.from c.loop-i.r c.loop-i.i c.word.result (omega arith) ∙ c.loop-i.invariant.1,
)
