-- Rows added word by word. Assumes nothing.
use Rattle.std.proofs.Common.{◌≡◌, ℕ, zero, suc, ◌+◌, ◌<◌, ◌≤◌, ◌≢◌, List, [], ◌∷◌, length, get_or, take, set, sym, refl, ap, ◌∙◌, arith}
use Rattle.std.proofs.lemmas.List.{take_all, take-set, take_more_same, get_or-set_same, get_or-set_other, length-set}
use Rattle.words.specs.Words.{add}
use Rattle.words.specs.Steps.{added}

pub length_added : (xs ys : List ℕ) → length xs ≡ length ys → length (added xs ys) ≡ length xs
length_added [] ys e = refl
length_added (x ∷ xs) [] e = absurd (omega arith)
length_added (x ∷ xs) (y ∷ ys) e = ap suc (length_added xs ys (omega arith))

pub added_at : (xs ys : List ℕ) (i : ℕ) → length xs ≡ length ys → i < length xs → get_or (added xs ys) i 0 ≡ add (get_or xs i 0) (get_or ys i 0)
added_at [] ys i e h = absurd (omega arith)
added_at (x ∷ xs) [] i e h = absurd (omega arith)
added_at (x ∷ xs) (y ∷ ys) zero e h = refl
added_at (x ∷ xs) (y ∷ ys) (suc i) e h = added_at xs ys i (omega arith) (omega arith)

-- the first i are added, and the others are as they were
abbrev pub Summed : List ℕ → List ℕ → List ℕ → ℕ → Type 0
Summed xs ys zs i = (take i zs ≡ take i (added xs ys)) × ((j : ℕ) → i ≤ j → get_or zs j 0 ≡ get_or xs j 0)

pub summed_more : (xs ys zs : List ℕ) (i v : ℕ) → length xs ≡ length ys → length zs ≡ length xs → i < length xs → Summed xs ys zs i → v ≡ add (get_or zs i 0) (get_or ys i 0) → Summed xs ys (set zs i v) (i + 1)
summed_more xs ys zs i v e l h (front, rest) q =
    let n : length (added xs ys) ≡ length xs = length_added xs ys e in
    let p : i < length zs = omega arith in
    let w : v ≡ get_or (added xs ys) i 0 = q ∙ ap (λ z. add z (get_or ys i 0)) (rest i (omega arith)) ∙ sym (added_at xs ys i e h) in (
      take_more_same (set zs i v) (added xs ys) i 0 (rw length-set p) (omega arith) (take-set zs i v ∙ front) (get_or-set_same zs i v 0 p ∙ w),
      λ j g. let ne : j ≢ i = omega arith in get_or-set_other zs i j v 0 ne ∙ rest j (omega arith),
    )

pub summed_all : (xs ys zs : List ℕ) (i : ℕ) → length xs ≡ length ys → length zs ≡ length xs → length xs ≤ i → Summed xs ys zs i → zs ≡ added xs ys
summed_all xs ys zs i e l h (front, rest) =
    let n : length (added xs ys) ≡ length xs = length_added xs ys e in
    sym (take_all i zs (omega arith)) ∙ front ∙ take_all i (added xs ys) (omega arith)
