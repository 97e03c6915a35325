-- The steps of a cipher, over its schedule, are the rounds of a standard, over its own. Assumes nothing.
use Rattle.std.proofs.Common.{◌≡◌, ℕ, zero, suc, ◌+◌, ◌%◌, ◌^◌, ◌<◌, ◌≤◌, List, [], ◌∷◌, ◌++◌, length, get_or, take, sym, refl, ap, ◌∙◌, subst, inl, inr, arith, length-append, length-take, take-suc}
use lib.ListN.{get_or-append}
use lib.Seq.{take-length, get_or_at}
use Rattle.std.proofs.lemmas.Bool.{cases_lt}
use Rattle.words.specs.Words.{Row}
use Rattle.words.specs.Steps.{Step, at, grown, forth}
use Rattle.sha.specs.Standards.{Next, so_far, W, loop}
use Rattle.words.proofs.Undone.{Undoes, forth_row}

-- sums that wrap wrap once
pub flat : (x y : ℕ) → (x % 2 ^ 32 + y) % 2 ^ 32 ≡ (x + y) % 2 ^ 32
flat x y = omega arith

pub flat_r : (x y : ℕ) → (x + y % 2 ^ 32) % 2 ^ 32 ≡ (x + y) % 2 ^ 32
flat_r x y = omega arith

-- ---- the standard's schedule: word n is at d, of the words up to n + d
pub ago : (next : Next) (m : ℕ → ℕ) (t d n : ℕ) → n + d + 1 ≡ t → get_or (so_far next m t) d 0 ≡ W next m n
unfolding so_far W
ago next m zero d n e = absurd (omega arith)
ago next m (suc t) zero n e = let q : t ≡ n = omega arith in ap (λ (i : ℕ). W next m i) q
ago next m (suc t) (suc d) n e = ago next m t d n (omega arith)

-- a word from those so far
pub W_next : (next : Next) (m : ℕ → ℕ) (t : ℕ) → W next m t ≡ next m t (so_far next m t)
unfolding so_far W
W_next next m t = refl

-- ---- the cipher's schedule
module _ (fresh : ℕ → List ℕ → ℕ) (k : List ℕ) (l : length k ≡ 16) where
  -- as long as the key and what was added
  pub length_grown : (n : ℕ) → length (grown fresh k n) ≡ n + 16
  unfolding grown
  length_grown zero = omega arith
  length_grown (suc n) = length-append (grown fresh k n) (fresh n (grown fresh k n) ∷ []) ∙ omega (arith, length_grown n)

  -- it is any w with the same first sixteen and the same rule
  pub grown_is : (w : ℕ → ℕ) → ((j : ℕ) → j < 16 → at k j ≡ w j)
      → ((n : ℕ) (ws : List ℕ) → ((i j : ℕ) → i ≡ j → j < n + 16 → at ws i ≡ w j) → fresh n ws ≡ w (n + 16))
      → (n j : ℕ) → j < n + 16 → at (grown fresh k n) j ≡ w j
  unfolding grown
  grown_is w first rule zero j h = first j (omega arith)
  grown_is w first rule (suc n) j h =
      let ws = grown fresh k n in
      let ih : (i : ℕ) → i < n + 16 → at ws i ≡ w i = λ i. grown_is w first rule n i in
      let long = length_grown n in
      elim (cases_lt j (n + 16)) [
        | inl old ↦ get_or-append ws (fresh n ws ∷ []) 0 j (omega arith) ∙ ih j old
        | inr new ↦ get_or_at ws (fresh n ws) [] 0 j (omega arith) ∙ rule n ws (λ i k e lt. ap (at ws) e ∙ ih k lt) ∙ ap w (omega arith)
      ]

-- ---- one word more is one step more
pub forth_push : (step : Step) (i j : ℕ) (ws : List ℕ) (w : ℕ) (s : List ℕ) → i + length ws ≡ j → forth step i (ws ++ w ∷ []) s ≡ step j w (forth step i ws s)
unfolding forth
forth_push step i j [] w s e = let q : i ≡ j = omega arith in ap (λ (n : ℕ). step n w s) q
forth_push step i j (x ∷ ws) w s e = forth_push step (i + 1) j ws w (step i x s) (omega arith)

-- steps that do, row by row, what the rounds do
module _ (V : Type 0) (row : V → List ℕ) (round : ℕ → ℕ → V → V) (n rounds : ℕ) (step unstep : Step) (u : Undoes n step unstep)
    (agree : (t w : ℕ) (v : V) → t < rounds → Row n (row v) → step t w (row v) ≡ row (round t w v)) where
  -- t steps are t rounds
  pub forth_loop : (w : ℕ → ℕ) (ws : List ℕ) (v : V) → Row n (row v) → length ws ≡ rounds → ((j : ℕ) → j < rounds → at ws j ≡ w j)
      → (t : ℕ) → t ≤ rounds → forth step 0 (take t ws) (row v) ≡ row (loop round w t v)
  unfolding forth loop
  forth_loop w ws v r l same zero h = refl
  forth_loop w ws v r l same (suc t) h =
      let ih : forth step 0 (take t ws) (row v) ≡ row (loop round w t v) = forth_loop w ws v r l same t (omega arith) in
      let rt : Row n (row (loop round w t v)) = subst (Row n) ih (forth_row n step unstep u 0 (take t ws) (row v) r) in
      ap (λ (z : List ℕ). forth step 0 z (row v)) (take-suc ws t 0 (omega arith))
      ∙ forth_push step 0 t (take t ws) (at ws t) (row v) (omega (arith, length-take t ws))
      ∙ (λ i. step t (same t h i) (ih i))
      ∙ agree t (w t) (loop round w t v) h rt

  -- all steps are all rounds
  pub forth_all : (w : ℕ → ℕ) (ws : List ℕ) (v : V) → Row n (row v) → length ws ≡ rounds → ((j : ℕ) → j < rounds → at ws j ≡ w j)
      → forth step 0 ws (row v) ≡ row (loop round w rounds v)
  forth_all w ws v r l same =
      ap (λ (z : List ℕ). forth step 0 z (row v)) (sym (take-length ws) ∙ ap (λ (j : ℕ). take j ws) l)
      ∙ forth_loop w ws v r l same rounds (omega arith)
