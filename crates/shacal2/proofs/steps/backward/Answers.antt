use Rattle.std.proofs.Common.{◌≡◌, fold, reverse, sym, refl, ap, ◌∙◌, rules}
use Rattle.std.proofs.lemmas.Fn.{fold_over}
use Rattle.std.proofs.lemmas.Iterator.{YieldsList-from_zip, zips}
use Rattle.std.proofs.lemmas.Iterator.Adapters.{YieldsList-from_rev_slice}
use Rattle.std.proofs.lemmas.List.Sums.{fold_push}
use Rattle.std.specs.Iterator.Adapters.{rev_steps, zip_first, zip_second}
use Rattle.std.specs.List.{zip}
use Rattle.std.specs.Slice.Iter.{iter_steps_back}
use Rattle.shacal2.specs.Shacal2.{unturn}
use Rattle.shacal2.specs.Phases.{row}
use Rattle.shacal2.proofs.Phased.{off, unphase_back}
use Rattle.shacal2.proofs.steps.backward.Goals as goal

pub returns : goal.returns
returns c =
    let ks = c.args.k.now in
    let ws = c.args.w.now in
    let s0 = row c.args.block in
    let z = c.zip-back.result in
    let road = YieldsList-from_zip {s = z} (YieldsList-from_rev_slice {s = zip_first z} ks (cc)) (YieldsList-from_rev_slice {s = zip_second z} ws (cc)) in
    fold_over (zips (rev_steps iter_steps_back) (rev_steps iter_steps_back)) (λ p. (p.0.now, p.1.now)) _ (λ ys s. row s ≡ fold off s0 ys) _
    (λ ys a x b f' e q.
    let t : row b ≡ unturn x.0.now x.1.now (row a) = search rules in
    (t ∙ ap (unturn x.0.now x.1.now) e ∙ sym (fold_push off s0 ys (x.0.now, x.1.now)), search rules))
    z (zip (reverse ks) (reverse ws)) _ _ road.runs refl c.fold.ensures.ran
    ∙ unphase_back ks ws s0 c.requires
