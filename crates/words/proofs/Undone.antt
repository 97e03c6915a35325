-- Steps that undo one another, one by one, do so in a row; and facts on words. Assumes nothing.
use Rattle.std.proofs.Common.{◌≡◌, ℕ, zero, suc, ◌+◌, ◌^◌, ◌<◌, List, [], ◌∷◌, ◌++◌, length, refl, ap, ◌∙◌, arith}
use Rattle.words.specs.Words.{Below, Row, add}
use Rattle.words.specs.Steps.{Step, sub, at, forth, undo}

-- a word put on a sum, before it or behind, and taken off again
pub sub_add : (t x : ℕ) → t < 2 ^ 32 → x < 2 ^ 32 → sub (add t x) t ≡ x
sub_add t x p q = omega arith

pub add_sub : (t x : ℕ) → t < 2 ^ 32 → x < 2 ^ 32 → add t (sub x t) ≡ x
add_sub t x p q = omega arith

pub sub_add_r : (t x : ℕ) → t < 2 ^ 32 → x < 2 ^ 32 → sub (add x t) t ≡ x
sub_add_r t x p q = omega arith

pub add_sub_r : (t x : ℕ) → t < 2 ^ 32 → x < 2 ^ 32 → add (sub x t) t ≡ x
add_sub_r t x p q = omega arith

-- a word of a row is a word
pub at_lt : (xs : List ℕ) (i : ℕ) → Below (2 ^ 32) xs → at xs i < 2 ^ 32
at_lt [] i h = omega arith
at_lt (x ∷ xs) zero h = h.0
at_lt (x ∷ xs) (suc i) h = at_lt xs i h.1

-- steps that keep rows of n words, and undo one another
pub record Undoes (n : ℕ) (step unstep : Step) : Type 0 where
  pub step_row : (i w : ℕ) (s : List ℕ) → Row n s → Row n (step i w s)
  pub unstep_row : (i w : ℕ) (s : List ℕ) → Row n s → Row n (unstep i w s)
  pub unstep_step : (i w : ℕ) (s : List ℕ) → Row n s → unstep i w (step i w s) ≡ s
  pub step_unstep : (i w : ℕ) (s : List ℕ) → Row n s → step i w (unstep i w s) ≡ s

module _ (n : ℕ) (step unstep : Step) (u : Undoes n step unstep) where
  -- steps keep rows
  pub forth_row : (i : ℕ) (ws s : List ℕ) → Row n s → Row n (forth step i ws s)
  unfolding forth
  forth_row i [] s r = r
  forth_row i (w ∷ ws) s r = forth_row (i + 1) ws (step i w s) (u.step_row i w s r)

  -- steps undone keep rows
  pub undo_row : (i : ℕ) (ws s : List ℕ) → Row n s → Row n (undo unstep i ws s)
  unfolding undo
  undo_row i [] s r = r
  undo_row i (w ∷ ws) s r = u.unstep_row i w (undo unstep (i + 1) ws s) (undo_row (i + 1) ws s r)

  -- steps are undone
  pub undo_forth : (i : ℕ) (ws s : List ℕ) → Row n s → undo unstep i ws (forth step i ws s) ≡ s
  unfolding forth undo
  undo_forth i [] s r = refl
  undo_forth i (w ∷ ws) s r = ap (unstep i w) (undo_forth (i + 1) ws (step i w s) (u.step_row i w s r)) ∙ u.unstep_step i w s r

  -- steps undone are done again
  pub forth_undo : (i : ℕ) (ws s : List ℕ) → Row n s → forth step i ws (undo unstep i ws s) ≡ s
  unfolding forth undo
  forth_undo i [] s r = refl
  forth_undo i (w ∷ ws) s r = ap (forth step (i + 1) ws) (u.step_unstep i w (undo unstep (i + 1) ws s) (undo_row (i + 1) ws s r)) ∙ forth_undo (i + 1) ws s r

-- ---- steps over two lists of words, one behind the other

pub forth_append : (step : Step) (i j : ℕ) (xs ys s : List ℕ) → i + length xs ≡ j → forth step i (xs ++ ys) s ≡ forth step j ys (forth step i xs s)
unfolding forth
forth_append step i j [] ys s e = let q : i ≡ j = omega arith in ap (λ n. forth step n ys s) q
forth_append step i j (x ∷ xs) ys s e = forth_append step (i + 1) j xs ys (step i x s) (omega arith)

pub undo_append : (unstep : Step) (i j : ℕ) (xs ys s : List ℕ) → i + length xs ≡ j → undo unstep i (xs ++ ys) s ≡ undo unstep i xs (undo unstep j ys s)
unfolding undo
undo_append unstep i j [] ys s e = let q : i ≡ j = omega arith in ap (λ n. undo unstep n ys s) q
undo_append unstep i j (x ∷ xs) ys s e = ap (unstep i x) (undo_append unstep (i + 1) j xs ys s (omega arith))
