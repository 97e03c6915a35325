-- The standard's padding and the words of its blocks are the hash's. Assumes nothing.
use Rattle.std.proofs.Common.{◌≡◌, ℕ, zero, suc, ◌+◌, ◌*◌, ◌/◌, ◌%◌, ◌^◌, ◌<◌, ◌≤◌, List, [], ◌∷◌, ◌++◌, length, get_or, drop, replicate, refl, ap, ◌∙◌, subst, arith, get_or-drop, get_or-take}
use Rattle.std.proofs.lemmas.Nat.{shr-shr}
use Rattle.words.specs.Words.{words, word_bytes}
use Rattle.hash.specs.Digests.{zeros, padded, cut}
use Rattle.words.specs.Steps.{at}
use Rattle.sha.specs.Standards.{gap, length64, pad, M}
use Rattle.hash.proofs.Rows.{getD_cut, padded_whole}

-- a word of four bytes, wherever it stands
pub at_words : (bs : List ℕ) (q : ℕ) → 4 * q + 4 ≤ length bs
    → at (words bs) q ≡ get_or bs (4 * q) 0 * 2 ^ 24 + get_or bs (4 * q + 1) 0 * 2 ^ 16 + get_or bs (4 * q + 2) 0 * 2 ^ 8 + get_or bs (4 * q + 3) 0
at_words [] q h = absurd (omega arith)
at_words (a ∷ []) q h = absurd (omega arith)
at_words (a ∷ b ∷ []) q h = absurd (omega arith)
at_words (a ∷ b ∷ c ∷ []) q h = absurd (omega arith)
at_words (a ∷ b ∷ c ∷ d ∷ bs) zero h = refl
at_words (a ∷ b ∷ c ∷ d ∷ bs) (suc q) h =
    let xs = a ∷ b ∷ c ∷ d ∷ bs in
    let e0 : suc (suc (suc (suc (4 * q)))) ≡ 4 * suc q = omega arith in
    let e1 : suc (suc (suc (suc (4 * q + 1)))) ≡ 4 * suc q + 1 = omega arith in
    let e2 : suc (suc (suc (suc (4 * q + 2)))) ≡ 4 * suc q + 2 = omega arith in
    let e3 : suc (suc (suc (suc (4 * q + 3)))) ≡ 4 * suc q + 3 = omega arith in
    at_words bs q (omega arith) ∙ (λ i. get_or xs (e0 i) 0 * 2 ^ 24 + get_or xs (e1 i) 0 * 2 ^ 16 + get_or xs (e2 i) 0 * 2 ^ 8 + get_or xs (e3 i) 0)

-- word j of block i
pub M_is : (bytes : List ℕ) (n i j : ℕ) → length bytes ≡ 64 * n → i < n → j < 16 → at (get_or (cut n (words bytes)) i []) j ≡ M bytes i j
unfolding M
M_is bytes n i j l h k =
    let e : 4 * (16 * i + j) ≡ 64 * i + 4 * j = omega arith in
    ap (λ (b : List ℕ). at b j) (getD_cut n i (words bytes) h)
    ∙ get_or-take 16 (drop (16 * i) (words bytes)) j 0 k
    ∙ get_or-drop (16 * i) (words bytes) j 0
    ∙ at_words bytes (16 * i + j) (omega arith)
    ∙ ap (λ (o : ℕ). get_or bytes o 0 * 2 ^ 24 + get_or bytes (o + 1) 0 * 2 ^ 16 + get_or bytes (o + 2) 0 * 2 ^ 8 + get_or bytes (o + 3) 0) e

-- the gap is the least that the standard asks for
pub gap_fits : (l : ℕ) → (l + 1 + gap l) % 512 ≡ 448
unfolding gap
gap_fits l = omega arith

-- and no less does
pub gap_least : (l k : ℕ) → (l + 1 + k) % 512 ≡ 448 → gap l ≤ k
unfolding gap
gap_least l k h = omega arith

-- seven bits and whole bytes
pub gap_bytes : (n : ℕ) → gap (8 * n) ≡ 7 + 8 * zeros n
unfolding gap
gap_bytes n = omega arith

-- the seven bits that 0x80 holds
pub gap_last : (n : ℕ) → gap (8 * n) % 8 ≡ 7
gap_last n = omega (arith, gap_bytes n)

-- the length field
pub field_is : (l : ℕ) → word_bytes (l / 2 ^ 32) ++ word_bytes (l % 2 ^ 32) ≡ length64 l
unfolding length64
field_is l =
    let a = shr-shr l 32 24 in
    let b = shr-shr l 32 16 in
    let c = shr-shr l 32 8 in
    let d : l % 2 ^ 32 / 2 ^ 24 % 2 ^ 8 ≡ l / 2 ^ 24 % 256 = omega arith in
    let e : l % 2 ^ 32 / 2 ^ 16 % 2 ^ 8 ≡ l / 2 ^ 16 % 256 = omega arith in
    let f : l % 2 ^ 32 / 2 ^ 8 % 2 ^ 8 ≡ l / 2 ^ 8 % 256 = omega arith in
    let g : l % 2 ^ 32 % 2 ^ 8 ≡ l % 256 = omega arith in
    λ i. a i % 256 ∷ b i % 256 ∷ c i % 256 ∷ l / 2 ^ 32 % 256 ∷ d i ∷ e i ∷ f i ∷ g i ∷ []

-- the padding
pub pad_is : (msg : List ℕ) → padded msg ≡ pad msg
unfolding pad padded
pad_is msg =
    let l = 8 * length msg in
    let z : zeros (length msg) ≡ gap l / 8 = omega (arith, gap_bytes (length msg)) in
    λ i. msg ++ 0x80 ∷ replicate (z i) 0 ++ field_is l i

-- it makes whole blocks
pub pad_whole : (msg : List ℕ) → length (pad msg) ≡ 64 * (length (pad msg) / 64)
pad_whole msg = subst (λ (p : List ℕ). length p ≡ 64 * (length p / 64)) (pad_is msg) (padded_whole msg)
