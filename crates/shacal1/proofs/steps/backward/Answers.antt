use Rattle.std.proofs.Common.{◌≡◌, reverse, sym, refl, ap, ◌∙◌, rules}
use Rattle.std.proofs.lemmas.Fn.{fold_over}
use Rattle.std.proofs.lemmas.Iterator.Adapters.{YieldsList-from_rev_slice}
use Rattle.std.proofs.lemmas.List.{reverse-reverse}
use Rattle.std.specs.Iterator.Adapters.{rev_steps}
use Rattle.std.specs.Slice.Iter.{iter_steps_back}
use Rattle.shacal1.specs.Shacal1.{unturn}
use Rattle.shacal1.specs.Phases.{row, unphase}
use Rattle.shacal1.proofs.Phased.{unphase_push}
use Rattle.shacal1.proofs.steps.backward.Goals as goal

pub returns : goal.returns
unfolding unphase
returns g c =
    let f = g.P.Phase.mixes in
    let k = g.P.Phase.K in
    let road = YieldsList-from_rev_slice {s = c.rev.result} c.args.w.now (cc) in
    fold_over (rev_steps iter_steps_back) (λ y. y.now) _ (λ ys s. row s ≡ unphase f k (reverse ys) (row c.args.block)) _
    (λ ys a x b f' e q.
    let t : row b ≡ unturn f k x.now (row a) = search rules in
    (t ∙ ap (unturn f k x.now) e ∙ sym (unphase_push f k ys x.now (row c.args.block)), search rules))
    c.rev.result (reverse c.args.w.now) _ _ road.runs refl c.fold.ensures.ran
    ∙ ap (λ ws. unphase f k ws (row c.args.block)) (reverse-reverse c.args.w.now)
