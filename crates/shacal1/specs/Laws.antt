-- The laws of SHACAL-1. Assumes nothing.
use Rattle.std.specs.Prelude.{◌≡◌, ℕ, ◌+◌, ◌*◌, ◌/◌, ◌%◌, ◌^◌, ◌<◌, List, [], ◌∷◌, length, bit_or, refl}
use Rattle.std.proofs.Common.{ap, ◌∙◌}
use native.Mathlib.Omega.{arith}
use Rattle.std.proofs.lemmas.Nat.{or_shifted}
use Rattle.words.specs.Words.{Row}
use Rattle.cipher.specs.Meaning.{Lawful}
use Rattle.words.specs.Steps.{Mix, at, rotl}
use Rattle.shacal1.specs.Shacal1.{shacal1, sum, turn, unturn, mix, constant, step, unstep, words, run, back, Enc, Dec}
use Rattle.words.proofs.Undone.{sub_add, add_sub, at_lt, Undoes, forth_row, undo_row, undo_forth, forth_undo}

-- ---- words

-- a turn by 30 in numbers
rotl_30 : (x : ℕ) → x < 2 ^ 32 → rotl 30 x ≡ x % 4 * 2 ^ 30 + x / 4
rotl_30 x h =
    let e : (x * 2 ^ 30) % 2 ^ 32 ≡ x % 4 * 2 ^ 30 = omega arith in
    ap (λ y. bit_or y (x / 4)) e ∙ or_shifted (x % 4) 30 (x / 4) (omega arith)

-- a turn by 2 in numbers
rotl_2 : (x : ℕ) → x < 2 ^ 32 → rotl 2 x ≡ x % 2 ^ 30 * 4 + x / 2 ^ 30
rotl_2 x h =
    let e : (x * 4) % 2 ^ 32 ≡ x % 2 ^ 30 * 4 = omega arith in
    ap (λ y. bit_or y (x / 2 ^ 30)) e ∙ or_shifted (x % 2 ^ 30) 2 (x / 2 ^ 30) (omega arith)

-- a word turned is a word
rotl_30_lt : (x : ℕ) → x < 2 ^ 32 → rotl 30 x < 2 ^ 32
rotl_30_lt x h = rw (rotl_30 x h) (omega arith)

rotl_2_lt : (x : ℕ) → x < 2 ^ 32 → rotl 2 x < 2 ^ 32
rotl_2_lt x h = rw (rotl_2 x h) (omega arith)

-- the two turns undo one another
rotl_2_30 : (x : ℕ) → x < 2 ^ 32 → rotl 2 (rotl 30 x) ≡ x
rotl_2_30 x h = rotl_2 (rotl 30 x) (rotl_30_lt x h) ∙ rw (rotl_30 x h) (omega arith)

rotl_30_2 : (x : ℕ) → x < 2 ^ 32 → rotl 30 (rotl 2 x) ≡ x
rotl_30_2 x h = rotl_30 (rotl 2 x) (rotl_2_lt x h) ∙ rw (rotl_2 x h) (omega arith)

-- the sum is a word
sum_lt : (f : Mix) (k w a b c d : ℕ) → sum f k w a b c d < 2 ^ 32
unfolding sum
sum_lt f k w a b c d = omega arith

-- five words, one by one
pub five : (s : List ℕ) → length s ≡ 5 → at s 0 ∷ at s 1 ∷ at s 2 ∷ at s 3 ∷ at s 4 ∷ [] ≡ s
five [] e = absurd (omega arith)
five (a ∷ []) e = absurd (omega arith)
five (a ∷ b ∷ []) e = absurd (omega arith)
five (a ∷ b ∷ c ∷ []) e = absurd (omega arith)
five (a ∷ b ∷ c ∷ d ∷ []) e = absurd (omega arith)
five (a ∷ b ∷ c ∷ d ∷ f ∷ []) e = refl
five (a ∷ b ∷ c ∷ d ∷ f ∷ g ∷ s) e = absurd (omega arith)

-- ---- one step

module _ (f : Mix) (k w : ℕ) (s : List ℕ) (r : Row 5 s) where
  -- each of the five is a word
  word : (i : ℕ) → at s i < 2 ^ 32
  word i = at_lt s i r.words

  -- a step and its inverse keep rows
  turn_row : Row 5 (turn f k w s)
  unfolding turn
  turn_row = record { long = refl; words = (omega arith, (word 0, (rotl_30_lt (at s 1) (word 1), (word 2, (word 3, tt))))) }

  unturn_row : Row 5 (unturn f k w s)
  unfolding unturn
  unturn_row = record { long = refl; words = (word 1, (rotl_2_lt (at s 2) (word 2), (word 3, (word 4, (omega arith, tt))))) }

  -- a step is undone
  unturn_turn : unturn f k w (turn f k w s) ≡ s
  unfolding turn unturn
  unturn_turn =
      let a = rotl_2_30 (at s 1) (word 1) in
      let b = sub_add (sum f k w (at s 0) (at s 1) (at s 2) (at s 3)) (at s 4) (sum_lt f k w (at s 0) (at s 1) (at s 2) (at s 3)) (word 4) in
      rw (a, b) (five s r.long)

  -- a step undone is done again
  turn_unturn : turn f k w (unturn f k w s) ≡ s
  unfolding turn unturn
  turn_unturn =
      let a = rotl_30_2 (at s 2) (word 2) in
      let b = add_sub (sum f k w (at s 1) (rotl 2 (at s 2)) (at s 3) (at s 4)) (at s 0) (sum_lt f k w (at s 1) (rotl 2 (at s 2)) (at s 3) (at s 4)) (word 0) in
      rw (a, b) (five s r.long)

-- ---- all steps

-- the steps undo one another
pub undoes : Undoes 5 step unstep
unfolding step unstep
undoes = record {
  step_row = λ i w s r. turn_row (mix (i / 20)) (constant (i / 20)) w s r;
  unstep_row = λ i w s r. unturn_row (mix (i / 20)) (constant (i / 20)) w s r;
  unstep_step = λ i w s r. unturn_turn (mix (i / 20)) (constant (i / 20)) w s r;
  step_unstep = λ i w s r. turn_unturn (mix (i / 20)) (constant (i / 20)) w s r;
}

-- SHACAL-1 is lawful
pub lawful : Lawful shacal1
unfolding Enc Dec run back
lawful = record {
  least = omega arith;
  most = omega arith;
  starts = record { long = refl; words = (omega arith, (omega arith, (omega arith, (omega arith, (omega arith, tt))))) };
  enc_row = λ k b p r. forth_row 5 step unstep undoes 0 (words k 64) b r;
  dec_row = λ k b p r. undo_row 5 step unstep undoes 0 (words k 64) b r;
  dec_enc = λ k b p r. undo_forth 5 step unstep undoes 0 (words k 64) b r;
  enc_dec = λ k b p r. forth_undo 5 step unstep undoes 0 (words k 64) b r;
}
