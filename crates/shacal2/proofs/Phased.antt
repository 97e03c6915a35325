-- Parts as folds over pairs of a constant and a word. Assumes nothing.
use Rattle.std.proofs.Common.{◌≡◌, ℕ, List, [], ◌∷◌, ◌++◌, length, reverse, fold, refl, sym, ap, ◌∙◌, arith}
use Rattle.std.proofs.lemmas.Grind.{reverse_onto}
use Rattle.std.proofs.lemmas.List.{length-reverse}
use Rattle.std.proofs.lemmas.List.Sums.{fold_push}
use Rattle.std.specs.List.{zip}
use Rattle.shacal2.specs.Shacal2.{turn, unturn}
use Rattle.shacal2.specs.Phases.{phase, unphase}

abbrev pub on : List ℕ → ℕ × ℕ → List ℕ
on s p = turn p.0 p.1 s

abbrev pub off : List ℕ → ℕ × ℕ → List ℕ
off s p = unturn p.0 p.1 s

pub phase_fold : (ks ws s : List ℕ) → fold on s (zip ks ws) ≡ phase ks ws s
unfolding phase
phase_fold [] ws s = refl
phase_fold (k ∷ ks) [] s = refl
phase_fold (k ∷ ks) (w ∷ ws) s = phase_fold ks ws (turn k w s)

unphase_fold : (ks ws s : List ℕ) → fold off s (reverse (zip ks ws)) ≡ unphase ks ws s
unfolding unphase
unphase_fold [] ws s = refl
unphase_fold (k ∷ ks) [] s = refl
unphase_fold (k ∷ ks) (w ∷ ws) s = ap (fold off s) (reverse_onto (zip ks ws) (k, w) []) ∙ fold_push off s (reverse (zip ks ws)) (k, w) ∙ ap (unturn k w) (unphase_fold ks ws s)

zip_push : (xs ys : List ℕ) (x y : ℕ) → length xs ≡ length ys → zip (xs ++ x ∷ []) (ys ++ y ∷ []) ≡ zip xs ys ++ (x, y) ∷ []
zip_push [] [] x y e = refl
zip_push [] (b ∷ ys) x y e = absurd (omega arith)
zip_push (a ∷ xs) [] x y e = absurd (omega arith)
zip_push (a ∷ xs) (b ∷ ys) x y e = ap (λ zs. (a, b) ∷ zs) (zip_push xs ys x y (omega arith))

-- pairs taken from both ends
zip_back : (ks ws : List ℕ) → length ks ≡ length ws → zip (reverse ks) (reverse ws) ≡ reverse (zip ks ws)
zip_back [] [] e = refl
zip_back [] (w ∷ ws) e = absurd (omega arith)
zip_back (k ∷ ks) [] e = absurd (omega arith)
zip_back (k ∷ ks) (w ∷ ws) e =
    (λ i. zip (reverse_onto ks k [] i) (reverse_onto ws w [] i))
    ∙ zip_push (reverse ks) (reverse ws) k w (length-reverse ks ∙ omega (arith, length-reverse ws))
    ∙ ap (λ zs. zs ++ (k, w) ∷ []) (zip_back ks ws (omega arith))
    ∙ sym (reverse_onto (zip ks ws) (k, w) [])

pub unphase_back : (ks ws s : List ℕ) → length ks ≡ length ws → fold off s (zip (reverse ks) (reverse ws)) ≡ unphase ks ws s
unphase_back ks ws s e = ap (fold off s) (zip_back ks ws e) ∙ unphase_fold ks ws s
