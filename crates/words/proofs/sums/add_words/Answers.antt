use Rattle.std.proofs.Common.{cond, length, sym, refl, ap, ◌∙◌, arith, eq-eqb}
use Rattle.words.specs.Steps.{added}
use Rattle.words.proofs.Summed.{summed_more, summed_all}
use Rattle.words.proofs.sums.add_words.Goals as goal

pub loop-i-preserved : goal.loop-i-preserved
loop-i-preserved c = summed_more c.args.onto.now c.args.more.now c.loop-i.onto c.loop-i.i _ (omega arith) (omega arith) (omega arith) c.loop-i.invariant refl

pub returns-clause-onto : goal.returns-clause-onto
returns-clause-onto c =
    let xs = c.args.onto.now in
    let ys = c.args.more.now in
    let t = eq-eqb (length xs) (length ys) (omega arith) in
    summed_all xs ys c.loop-i.onto c.loop-i.i (omega arith) (omega arith) (omega arith) c.loop-i.invariant ∙ sym (ap (λ z. cond z (added xs ys) xs) t)
