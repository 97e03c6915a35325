use Rattle.std.proofs.Common.{◌≡◌, fold, sym, refl, ap, ◌∙◌, rules}
use Rattle.std.proofs.lemmas.Fn.{fold_over, fronts}
use Rattle.std.proofs.lemmas.Iterator.{YieldsList-from_slice, YieldsList-from_zip, zips}
use Rattle.std.proofs.lemmas.List.Sums.{fold_push}
use Rattle.std.specs.Iterator.Adapters.{zip_first, zip_second}
use Rattle.std.specs.List.{zip}
use Rattle.shacal2.specs.Shacal2.{turn}
use Rattle.shacal2.specs.Phases.{row}
use Rattle.shacal2.proofs.Phased.{on, phase_fold}
use Rattle.shacal2.proofs.steps.forward.Goals as goal

pub returns : goal.returns
returns c =
    let ks = c.args.k.now in
    let ws = c.args.w.now in
    let s0 = row c.args.block in
    let z = c.zip.result in
    let road = YieldsList-from_zip {s = z} (YieldsList-from_slice {s = zip_first z} ks (cc)) (YieldsList-from_slice {s = zip_second z} ws (cc)) in
    fold_over (zips fronts fronts) (λ p. (p.0.now, p.1.now)) _ (λ ys s. row s ≡ fold on s0 ys) _
    (λ ys a x b f' e q.
    let t : row b ≡ turn x.0.now x.1.now (row a) = search rules in
    (t ∙ ap (turn x.0.now x.1.now) e ∙ sym (fold_push on s0 ys (x.0.now, x.1.now)), search rules))
    z (zip ks ws) _ _ road.runs refl c.fold.ensures.ran
    ∙ phase_fold ks ws s0
