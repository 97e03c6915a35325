-- The end of a message: mark, length, and the last block or two. Assumes nothing.
use Rattle.std.proofs.Common.{◌≡◌, ℕ, ◌+◌, ◌-◌, ◌*◌, ◌/◌, ◌%◌, ◌^◌, ◌<◌, ◌≤◌, List, [], ◌∷◌, ◌++◌, length, take, drop, set, replicate, w64, sym, ap, ◌∙◌, append_assoc, append-nil, add-one, arith, length-append}
use lib.ListN.{length-replicate}
use borrow.Rule.Slice.PartMut.{put_mid}
use Rattle.std.proofs.lemmas.List.{set_split, length-take-le, length_push, take-append-drop, drop_all, take_at, replicate-append-replicate}
use Rattle.std.specs.Int.{to_be_bytes}
use Rattle.words.specs.Words.{words, word_bytes}
use Rattle.words.proofs.Puts.{put_next}
use Rattle.cipher.specs.Meaning.{Meaning}
use Rattle.hash.specs.Digests.{forward, field, mark, digest, Stands}
use Rattle.hash.proofs.Ends.{ends_one, ends_two}

pub marked : (tail zs : List ℕ) (used k : ℕ) → length tail ≡ 64 → used < 64 → k ≡ 64 - (used + 1) → zs ≡ replicate k 0
    → put_mid (used + 1) k (set tail used 0x80) zs ≡ take used tail ++ mark (63 - used)
marked tail zs used k long short size is =
    let front = take used tail ++ 0x80 ∷ [] in
    let lf : length front ≡ used + 1 = length_push (take used tail) 0x80 ∙ ap (λ (n : ℕ). n + 1) (length-take-le used tail (omega arith)) in
    let out : set tail used 0x80 ≡ front ++ drop (used + 1) tail =
    set_split tail used 0x80 (omega arith)
    ∙ ap (λ (n : ℕ). take used tail ++ 0x80 ∷ drop n tail) (sym (add-one used))
    ∙ sym (append_assoc (take used tail) (0x80 ∷ []) (drop (used + 1) tail)) in
    let none : drop (used + 1 + k) tail ≡ [] = drop_all (used + 1 + k) tail (omega arith) in
    let n : k ≡ 63 - used = omega arith in
    put_next front zs tail (set tail used 0x80) (used + 1) k lf out
    ∙ (λ i. front ++ is i ++ none i)
    ∙ append-nil (front ++ replicate k 0)
    ∙ append_assoc (take used tail) (0x80 ∷ []) (replicate k 0)
    ∙ ap (λ (j : ℕ). take used tail ++ 0x80 ∷ replicate j 0) n

-- the bytes of a word hang on its 32 bits alone
word_bytes_mod : (x y : ℕ) → y % 2 ^ 32 ≡ x % 2 ^ 32 → word_bytes y ≡ word_bytes x
word_bytes_mod x y e =
    let a : y / 2 ^ 24 % 2 ^ 8 ≡ x / 2 ^ 24 % 2 ^ 8 = omega arith in
    let b : y / 2 ^ 16 % 2 ^ 8 ≡ x / 2 ^ 16 % 2 ^ 8 = omega arith in
    let c : y / 2 ^ 8 % 2 ^ 8 ≡ x / 2 ^ 8 % 2 ^ 8 = omega arith in
    let d : y % 2 ^ 8 ≡ x % 2 ^ 8 = omega arith in
    λ i. a i ∷ b i ∷ c i ∷ d i ∷ []

-- eight bytes are those of two words
two_words : (n : ℕ) → to_be_bytes w64 n ≡ word_bytes (n / 2 ^ 32) ++ word_bytes (n % 2 ^ 32)
two_words n =
    let a : n / 2 ^ 56 % 2 ^ 8 ≡ n / 2 ^ 32 / 2 ^ 24 % 2 ^ 8 = omega arith in
    let b : n / 2 ^ 48 % 2 ^ 8 ≡ n / 2 ^ 32 / 2 ^ 16 % 2 ^ 8 = omega arith in
    let c : n / 2 ^ 40 % 2 ^ 8 ≡ n / 2 ^ 32 / 2 ^ 8 % 2 ^ 8 = omega arith in
    λ i. a i ∷ b i ∷ c i ∷ n / 2 ^ 32 % 2 ^ 8 ∷ word_bytes_mod (n % 2 ^ 32) n (omega arith) i

-- the number of bits, behind what stands in front of it
pub measured : (tail part : List ℕ) (count : ℕ) → length tail ≡ 64 → part ≡ to_be_bytes w64 (count * 8 % 2 ^ 64) → put_mid 56 8 tail part ≡ take 56 tail ++ field count
measured tail part count long is =
    let front = take 56 tail in
    let bits = count * 8 % 2 ^ 64 in
    let none : drop 64 tail ≡ [] = drop_all 64 tail (omega arith) in
    let upper = word_bytes_mod (8 * count / 2 ^ 32) (bits / 2 ^ 32) (omega arith) in
    let lower = word_bytes_mod (8 * count % 2 ^ 32) (bits % 2 ^ 32) (omega arith) in
    put_next front part tail tail 56 8 (length-take-le 56 tail (omega arith)) (sym (take-append-drop 56 tail))
    ∙ (λ i. front ++ (is ∙ two_words bits) i ++ none i)
    ∙ append-nil (front ++ (word_bytes (bits / 2 ^ 32) ++ word_bytes (bits % 2 ^ 32)))
    ∙ (λ i. front ++ (upper i ++ lower i))

module _ (m : Meaning) (count : ℕ) (tail h bs : List ℕ) (long : length tail ≡ 64) (stands : Stands m count (take (count % 64) tail) h bs) where
  -- one block
  pub closed_one : (marked ended all : List ℕ) → count % 64 ≤ 55 → marked ≡ take (count % 64) tail ++ mark (63 - count % 64) → ended ≡ take 56 marked ++ field count
      → all ≡ forward m h (words ended) → all ≡ digest m bs
  closed_one marked ended all few is e a =
      let u = count % 64 in
      let t = take u tail in
      let lt : length t ≡ u = length-take-le u tail (omega arith) in
      let z : replicate {A = ℕ} (63 - u) 0 ≡ replicate (55 - u) 0 ++ replicate 8 0 = ap (λ (n : ℕ). replicate n 0) (omega arith) ∙ sym (replicate-append-replicate (55 - u) 8 0) in
      let split : marked ≡ t ++ mark (55 - u) ++ replicate 8 0 =
      is ∙ ap (λ (x : List ℕ). t ++ 0x80 ∷ x) z ∙ sym (append_assoc t (mark (55 - u)) (replicate 8 0)) in
      let ln : length (t ++ mark (55 - u)) ≡ 56 = length-append t (mark (55 - u)) ∙ omega (arith, length-replicate {A = ℕ} (55 - u) 0) in
      let n : 55 - u ≡ 55 - length t = omega arith in
      let short : length t ≤ 55 = omega arith in
      let front : take 56 marked ≡ t ++ mark (55 - u) = ap (take 56) split ∙ take_at (t ++ mark (55 - u)) (replicate 8 0) 56 ln in
      a ∙ ap (λ (x : List ℕ). forward m h (words x)) (e ∙ (λ i. front i ++ field count) ∙ ap (λ (j : ℕ). t ++ mark j ++ field count) n) ∙ sym (ends_one m count t h bs stands short)

  -- two blocks
  pub closed_two : (marked zeros ended one all : List ℕ) → 55 < count % 64 → marked ≡ take (count % 64) tail ++ mark (63 - count % 64) → one ≡ forward m h (words marked)
      → zeros ≡ replicate (length marked) 0 → ended ≡ take 56 zeros ++ field count → all ≡ forward m one (words ended) → all ≡ digest m bs
  closed_two marked zeros ended one all many is o z e a =
      let u = count % 64 in
      let t = take u tail in
      let lt : length t ≡ u = length-take-le u tail (omega arith) in
      let n : 63 - u ≡ 63 - length t = omega arith in
      let whole : length marked ≡ 64 = ap length is ∙ length-append t (mark (63 - u)) ∙ omega (arith, length-replicate {A = ℕ} (63 - u) 0) in
      let front : take 56 zeros ≡ replicate 56 0 = ap (take 56) (z ∙ ap (λ (k : ℕ). replicate k 0) whole) in
      a
      ∙ (λ i. forward m (o i) (words ((e ∙ (λ j. front j ++ field count)) i)))
      ∙ ap (λ (x : List ℕ). forward m (forward m h (words x)) (words (replicate 56 0 ++ field count))) (is ∙ ap (λ (j : ℕ). t ++ mark j) n)
      ∙ sym (ends_two m count t h bs stands (omega arith))
