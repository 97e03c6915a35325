use Rattle.std.proofs.Common.{◌≡◌, sym, refl, ap, ◌∙◌, rules}
use Rattle.std.proofs.lemmas.Fn.{fold_over, fronts}
use Rattle.std.proofs.lemmas.Iterator.{YieldsList-from_slice}
use Rattle.shacal1.specs.Shacal1.{turn}
use Rattle.shacal1.specs.Phases.{row, phase}
use Rattle.shacal1.proofs.Phased.{phase_push}
use Rattle.shacal1.proofs.steps.forward.Goals as goal

pub returns : goal.returns
unfolding phase
returns g c =
    let f = g.P.Phase.mixes in
    let k = g.P.Phase.K in
    let road = YieldsList-from_slice {s = c.iter.result} c.args.w.now c.iter.ensures.rest in
    fold_over fronts (λ y. y.now) _ (λ ys s. row s ≡ phase f k ys (row c.args.block)) _
    (λ ys a x b f' e q.
    let t : row b ≡ turn f k x.now (row a) = search rules in
    (t ∙ ap (turn f k x.now) e ∙ sym (phase_push f k ys x.now (row c.args.block)), search rules))
    c.iter.result c.args.w.now _ _ road.runs refl c.fold.ensures.ran
