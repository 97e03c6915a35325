-- The bytes and words of a padded message, by place. Assumes nothing.
use Rattle.std.proofs.Common.{◌≡◌, ℕ, zero, suc, ◌+◌, ◌-◌, ◌*◌, ◌/◌, ◌%◌, ◌^◌, ◌<◌, ◌≤◌, cond, eqb, List, [], ◌∷◌, ◌++◌, length, get_or, take, drop, replicate, sym, refl, ap, ◌∙◌, subst, append_assoc, arith, length-append, length-drop, take-append-drop, length-take}
use lib.ListN.{length-replicate}
use denote.Param.Members.{Mut, Called}
use Rattle.std.specs.Array.{IsFromFnResultFrom}
use Rattle.std.proofs.lemmas.Bool.{cond-true, eq-eqb}
use Rattle.std.proofs.lemmas.List.{get_or_append_left, get_or-append_right, get_or_at, get_or-replicate, get_or-take, get_or-drop, ext_get_or, take_at, drop_at, take-append-le, drop-append-le, replicate-append-replicate}
use Rattle.words.specs.Words.{word_bytes, words}
use Rattle.words.proofs.Bytes.{length_words, words_append}
use Rattle.hash.specs.Digests.{field, mark, zeros, padded, cut, block_count}
use Rattle.hash.specs.Messages.{limit}
use Rattle.trace.specs.Walk.{block}
use Rattle.hash.proofs.Rows.{getD_cut, front, padded_whole, length_front}
use Rattle.trace.proofs.Cuts.{padded_split, front_ends, counted}

-- within the limit the number of bits fits four bytes
field_low : (n : ℕ) → n ≤ limit → field n ≡ replicate 4 0 ++ word_bytes (8 * n)
field_low n h =
    let hi : 8 * n / 2 ^ 32 ≡ 0 = omega arith in
    let lo : 8 * n % 2 ^ 32 ≡ 8 * n = omega arith in
    λ i. word_bytes (hi i) ++ word_bytes (lo i)

-- all of a padded message but those four
abbrev upper : List ℕ → List ℕ
upper msg = msg ++ (0x80 ∷ replicate (zeros (length msg) + 4) 0)

upper_padded : (msg : List ℕ) → length msg ≤ limit → padded msg ≡ upper msg ++ word_bytes (8 * length msg)
upper_padded msg h =
    let z = zeros (length msg) in
    let w = word_bytes (8 * length msg) in
    padded_split msg
    ∙ ap (λ (r : List ℕ). front msg ++ r) (field_low (length msg) h)
    ∙ sym (append_assoc (front msg) (replicate 4 0) w)
    ∙ ap (λ (r : List ℕ). r ++ w) (append_assoc msg (mark z) (replicate 4 0) ∙ ap (λ (r : List ℕ). msg ++ 0x80 ∷ r) (replicate-append-replicate z 4 0))

upper_long : (msg : List ℕ) → length (upper msg) + 4 ≡ 64 * block_count msg
upper_long msg =
    let z = zeros (length msg) in
    let a : length (upper msg) ≡ length msg + (z + 4 + 1) = simp (length-append, length-replicate) (omega arith) in
    omega (arith, front_ends msg, length_front msg)

module _ (msg : List ℕ) (at : ℕ) (few : length msg ≤ limit) where
  pub byte_in : at < length msg → get_or msg at 0 ≡ get_or (padded msg) at 0
  unfolding padded
  byte_in h =
      let g = length-append msg (mark (zeros (length msg))) in
      sym (get_or_append_left msg (mark (zeros (length msg))) 0 at h)
      ∙ sym (get_or_append_left (front msg) (field (length msg)) 0 at (omega (arith, length_front msg)))

  upper_at : at < length (upper msg) → get_or (padded msg) at 0 ≡ get_or (upper msg) at 0
  upper_at h = ap (λ (r : List ℕ). get_or r at 0) (upper_padded msg few) ∙ get_or_append_left (upper msg) (word_bytes (8 * length msg)) 0 at h

  pub byte_mark : at ≡ length msg → 0x80 ≡ get_or (padded msg) at 0
  byte_mark e =
      let l = upper_long msg in
      let n = counted msg in
      sym (upper_at (omega arith) ∙ get_or_at msg 0x80 (replicate (zeros (length msg) + 4) 0) 0 at (sym e))

  pub byte_zero : length msg < at → at < 64 * block_count msg - 4 → 0 ≡ get_or (padded msg) at 0
  byte_zero h k =
      let z = zeros (length msg) + 4 in
      let l = upper_long msg in
      let a : length (upper msg) ≡ length msg + (z + 1) = simp (length-append, length-replicate) (omega arith) in
      let s : at - length msg ≡ suc (at - length msg - 1) = omega arith in
      sym
      (upper_at (omega arith)
      ∙ get_or-append_right msg (0x80 ∷ replicate z 0) (length msg) at 0 refl (omega arith)
      ∙ ap (λ (j : ℕ). get_or (0x80 ∷ replicate z 0) j 0) s
      ∙ get_or-replicate z (at - length msg - 1) 0 0 (omega arith))

  pub byte_length : 64 * block_count msg - 4 ≤ at → get_or (word_bytes (8 * length msg)) (at - (64 * block_count msg - 4)) 0 ≡ get_or (padded msg) at 0
  byte_length h =
      sym
      (ap (λ (r : List ℕ). get_or r at 0) (upper_padded msg few)
      ∙ get_or-append_right (upper msg) (word_bytes (8 * length msg)) (64 * block_count msg - 4) at 0 (omega (arith, upper_long msg)) h)

-- a part of a list by its elements
pub part_read : (r P : List ℕ) (o : ℕ) → length r ≡ 64 → o + 64 ≤ length P → ((q : ℕ) → q < 64 → get_or r q 0 ≡ get_or P (o + q) 0) → r ≡ take 64 (drop o P)
part_read r P o l h f =
    let t : length (take 64 (drop o P)) ≡ 64 = simp (length-take, length-drop) (omega arith) in
    ext_get_or 0 r (take 64 (drop o P)) (l ∙ sym t)
    (λ q k. f q (omega arith) ∙ sym (get_or-take 64 (drop o P) q 0 (omega arith) ∙ get_or-drop o P q 0))

-- what calls at the numbers from i on made, each of its number
module _ {F : Type 0} (g : Mut F (ℕ × Unit {0}) ℕ) (J : F → Type 0) (h : ℕ → ℕ) (call : (i y : ℕ) (p q : F) → J p → Called g p (i, tt) y q → J q × (y ≡ h i)) where
  pub made : (f : F) (ys : List ℕ) (i n k : ℕ) → J f → IsFromFnResultFrom g f ys i n → k < n → get_or ys (i + k) 0 ≡ h (i + k)
  made f ys i zero k held r b = absurd (omega arith)
  made f ys i (suc n) zero held (q, y, at, is, rest) b = let s : i + 0 ≡ i = omega arith in ap (λ z. get_or ys z 0) s ∙ at.1 0 ∙ (call i y f q held is).1 ∙ ap h (sym s)
  made f ys i (suc n) (suc k) held (q, y, at, is, rest) b =
      let s : i + 1 + k ≡ i + suc k = omega arith in
      subst (λ z. get_or ys z 0 ≡ h z) s (made q ys (i + 1) n k (call i y f q held is).0 rest (omega arith))

-- block i of whole blocks
words_cut : (P : List ℕ) (n i : ℕ) → length P ≡ 64 * n → i < n → words (take 64 (drop (64 * i) P)) ≡ get_or (cut n (words P)) i []
words_cut P n i l h =
    let a = take (64 * i) P in
    let r = drop (64 * i) P in
    let b = take 64 r in
    let c = drop 64 r in
    let la : length a ≡ 4 * (16 * i) = simp length-take (omega arith) in
    let lb : length b ≡ 4 * 16 = simp (length-take, length-drop) (omega arith) in
    let split : words P ≡ words a ++ (words b ++ words c) =
    ap words (sym (take-append-drop (64 * i) P)) ∙ words_append (16 * i) a r la
    ∙ ap (λ (x : List ℕ). words a ++ x) (ap words (sym (take-append-drop 64 r)) ∙ words_append 16 b c lb) in
    let rest : drop (16 * i) (words P) ≡ words b ++ words c = ap (drop (16 * i)) split ∙ drop_at (words a) (words b ++ words c) (16 * i) (length_words (16 * i) a la) in
    sym (getD_cut n i (words P) h ∙ ap (take 16) rest ∙ take_at (words b) (words c) 16 (length_words 16 b lb))

-- the words that a call read out of block i
pub block_read : (msg bs out old : List ℕ) (i : ℕ) → i < block_count msg → length old ≡ 16 → bs ≡ take 64 (drop (64 * i) (padded msg))
    → out ≡ cond (eqb (length bs) (4 * length old)) (words bs) old → out ≡ block msg i
block_read msg bs out old i h l e r =
    let P = padded msg in
    let w = padded_whole msg in
    let lb : length bs ≡ 64 = ap length e ∙ simp (length-take, length-drop) (omega arith) in
    r ∙ cond-true (eqb (length bs) (4 * length old)) (words bs) old (eq-eqb (length bs) (4 * length old) (omega arith))
    ∙ ap words e ∙ words_cut P (block_count msg) i w h

-- a block that the message fills
pub part_in : (msg : List ℕ) (o : ℕ) → o + 64 ≤ length msg → take 64 (drop o msg) ≡ take 64 (drop o (padded msg))
unfolding padded
part_in msg o h =
    let z = mark (zeros (length msg)) in
    let f = field (length msg) in
    sym
    (ap (λ (r : List ℕ). take 64 (drop o r)) (append_assoc msg z f)
    ∙ ap (take 64) (drop-append-le o msg (z ++ f) (omega arith))
    ∙ take-append-le 64 (drop o msg) (z ++ f) (simp length-drop (omega arith)))
