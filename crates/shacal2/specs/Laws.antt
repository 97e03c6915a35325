-- The laws of SHACAL-2. Assumes nothing.
use Rattle.std.specs.Prelude.{◌≡◌, ℕ, ◌^◌, ◌<◌, List, [], ◌∷◌, length, refl}
use native.Mathlib.Omega.{arith}
use Rattle.words.specs.Words.{Row, add}
use Rattle.cipher.specs.Meaning.{Lawful}
use Rattle.words.specs.Steps.{at, sub}
use Rattle.shacal2.specs.Shacal2.{shacal2, front, sum, turn, unturn, constants, step, unstep, words, run, back, Enc, Dec}
use Rattle.words.proofs.Undone.{sub_add, add_sub, sub_add_r, add_sub_r, at_lt, Undoes, forth_row, undo_row, undo_forth, forth_undo}

-- what goes onto the first word is a word
front_lt : (a b c : ℕ) → front a b c < 2 ^ 32
unfolding front
front_lt a b c = omega arith

-- the sum is a word
sum_lt : (k w e f g : ℕ) → sum k w e f g < 2 ^ 32
unfolding sum
sum_lt k w e f g = omega arith

-- eight words, one by one
pub eight : (s : List ℕ) → length s ≡ 8 → at s 0 ∷ at s 1 ∷ at s 2 ∷ at s 3 ∷ at s 4 ∷ at s 5 ∷ at s 6 ∷ at s 7 ∷ [] ≡ s
eight [] e = absurd (omega arith)
eight (a ∷ []) e = absurd (omega arith)
eight (a ∷ b ∷ []) e = absurd (omega arith)
eight (a ∷ b ∷ c ∷ []) e = absurd (omega arith)
eight (a ∷ b ∷ c ∷ d ∷ []) e = absurd (omega arith)
eight (a ∷ b ∷ c ∷ d ∷ f ∷ []) e = absurd (omega arith)
eight (a ∷ b ∷ c ∷ d ∷ f ∷ g ∷ []) e = absurd (omega arith)
eight (a ∷ b ∷ c ∷ d ∷ f ∷ g ∷ h ∷ []) e = absurd (omega arith)
eight (a ∷ b ∷ c ∷ d ∷ f ∷ g ∷ h ∷ i ∷ []) e = refl
eight (a ∷ b ∷ c ∷ d ∷ f ∷ g ∷ h ∷ i ∷ j ∷ s) e = absurd (omega arith)

-- ---- one step

module _ (k w : ℕ) (s : List ℕ) (r : Row 8 s) where
  -- each of the eight is a word
  word : (i : ℕ) → at s i < 2 ^ 32
  word i = at_lt s i r.words

  -- a step and its inverse keep rows
  turn_row : Row 8 (turn k w s)
  unfolding turn
  turn_row = record { long = refl; words = (omega arith, (word 0, (word 1, (word 2, (omega arith, (word 4, (word 5, (word 6, tt)))))))) }

  unturn_row : Row 8 (unturn k w s)
  unfolding unturn
  unturn_row = record { long = refl; words = (word 1, (word 2, (word 3, (omega arith, (word 5, (word 6, (word 7, (omega arith, tt)))))))) }

  -- a step is undone
  unturn_turn : unturn k w (turn k w s) ≡ s
  unfolding turn unturn
  unturn_turn =
      let n = sum k w (at s 4) (at s 5) (at s 6) in
      let f = front (at s 0) (at s 1) (at s 2) in
      let t = add (at s 7) n in
      let a : sub (add f t) f ≡ t = sub_add f t (front_lt (at s 0) (at s 1) (at s 2)) (omega arith) in
      let b : sub (add (at s 3) t) t ≡ at s 3 = sub_add_r t (at s 3) (omega arith) (word 3) in
      let c : sub t n ≡ at s 7 = sub_add_r n (at s 7) (sum_lt k w (at s 4) (at s 5) (at s 6)) (word 7) in
      rw (a, b, c) (eight s r.long)

  -- a step undone is done again
  turn_unturn : turn k w (unturn k w s) ≡ s
  unfolding turn unturn
  turn_unturn =
      let n = sum k w (at s 5) (at s 6) (at s 7) in
      let f = front (at s 1) (at s 2) (at s 3) in
      let t = sub (at s 0) f in
      let a : add (sub t n) n ≡ t = add_sub_r n t (sum_lt k w (at s 5) (at s 6) (at s 7)) (omega arith) in
      let b : add f t ≡ at s 0 = add_sub f (at s 0) (front_lt (at s 1) (at s 2) (at s 3)) (word 0) in
      let c : add (sub (at s 4) t) t ≡ at s 4 = add_sub_r t (at s 4) (omega arith) (word 4) in
      rw (a, b, c) (eight s r.long)

-- ---- all steps

-- the steps undo one another
pub undoes : Undoes 8 step unstep
unfolding step unstep
undoes = record {
  step_row = λ i w s r. turn_row (at constants i) w s r;
  unstep_row = λ i w s r. unturn_row (at constants i) w s r;
  unstep_step = λ i w s r. unturn_turn (at constants i) w s r;
  step_unstep = λ i w s r. turn_unturn (at constants i) w s r;
}

-- SHACAL-2 is lawful
pub lawful : Lawful shacal2
unfolding Enc Dec run back
lawful = record {
  least = omega arith;
  most = omega arith;
  starts = record { long = refl; words = (omega arith, (omega arith, (omega arith, (omega arith, (omega arith, (omega arith, (omega arith, (omega arith, tt)))))))) };
  enc_row = λ k b p r. forth_row 8 step unstep undoes 0 (words k 48) b r;
  dec_row = λ k b p r. undo_row 8 step unstep undoes 0 (words k 48) b r;
  dec_enc = λ k b p r. undo_forth 8 step unstep undoes 0 (words k 48) b r;
  enc_dec = λ k b p r. forth_undo 8 step unstep undoes 0 (words k 48) b r;
}
