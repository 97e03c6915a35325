-- Bytes added to an open message, and its end. Assumes nothing.
use Rattle.std.proofs.Common.{◌≡◌, ℕ, zero, suc, ◌+◌, ◌-◌, ◌*◌, ◌/◌, ◌%◌, ◌<◌, ◌≤◌, List, [], ◌∷◌, ◌++◌, length, take, drop, sym, refl, ap, ◌∙◌, subst, append_assoc, append-nil, add-zero, suc-add, zero-add, arith, length-append, length-drop, take-append-drop, drop_of_length-le, length-take, take_all}
use lib.Seq.{take-append-le, drop-append-le, drop-append-add}
use Rattle.words.specs.Words.{words}
use Rattle.cipher.specs.Meaning.{Meaning}
use Rattle.hash.specs.Digests.{forward, cut, chain, Stands}
use Rattle.words.proofs.Bytes.{length_words, words_append}

-- blocks of words that follow one another
pub cut_append : (n k : ℕ) (vs ws : List ℕ) → length vs ≡ 16 * n → cut (n + k) (vs ++ ws) ≡ cut n vs ++ cut k ws
unfolding cut
cut_append zero k [] ws e = ap (λ (j : ℕ). cut j ws) (zero-add k)
cut_append zero k (v ∷ vs) ws e = absurd (omega arith)
cut_append (suc n) k vs ws e =
    let l : 16 ≤ length vs = omega arith in
    ap (λ (j : ℕ). cut j (vs ++ ws)) (suc-add n k)
    ∙ (λ i. take-append-le 16 vs ws l i ∷ cut (n + k) (drop-append-le 16 vs ws l i))
    ∙ ap (λ (r : List (List ℕ)). take 16 vs ∷ r) (cut_append n k (drop 16 vs) ws (simp length-drop (omega arith)))

-- the same of bytes
pub cut_bytes : (n k : ℕ) (xs ys : List ℕ) → length xs ≡ 64 * n → cut (n + k) (words (xs ++ ys)) ≡ cut n (words xs) ++ cut k (words ys)
cut_bytes n k xs ys e =
    ap (cut (n + k)) (words_append (16 * n) xs ys (omega arith))
    ∙ cut_append n k (words xs) (words ys) (length_words (16 * n) xs (omega arith))

-- one block is its words
pub cut_one : (xs : List ℕ) → length xs ≡ 64 → cut 1 (words xs) ≡ words xs ∷ []
unfolding cut
cut_one xs e = ap (λ (b : List ℕ). b ∷ []) (take_all 16 (words xs) (omega (arith, length_words 16 xs e)))

-- blocks that follow one another, hashed
pub chain_append : (m : Meaning) (h : List ℕ) (bs cs : List (List ℕ)) → chain m h (bs ++ cs) ≡ chain m (chain m h bs) cs
unfolding chain
chain_append m h [] cs = refl
chain_append m h (b ∷ bs) cs = chain_append m (forward m h b) bs cs

module _ (m : Meaning) (count : ℕ) (t h bs : List ℕ) (s : Stands m count t h bs) where
  -- how long the tail is
  pub tail_long : length t ≡ length bs - 64 * (length bs / 64)
  tail_long = ap length s.tails ∙ length-drop (64 * (length bs / 64)) bs

  -- the bytes of the whole blocks
  whole : List ℕ
  whole = take (64 * (length bs / 64)) bs

  -- the message is those and the tail
  split : bs ≡ whole ++ t
  unfolding whole
  split = sym (take-append-drop (64 * (length bs / 64)) bs) ∙ ap (λ (r : List ℕ). take (64 * (length bs / 64)) bs ++ r) (sym s.tails)

  -- as long as its blocks
  length_whole : length whole ≡ 64 * (length bs / 64)
  unfolding whole
  length_whole = simp length-take (omega arith)

  -- the value is the chain over them
  chain_whole : h ≡ chain m m.initial (cut (length bs / 64) (words whole))
  unfolding cut
  chain_whole =
      let q = length bs / 64 in
      s.chains
      ∙ ap (λ (r : List ℕ). chain m m.initial (cut q (words r))) split
      ∙ ap (λ (k : ℕ). chain m m.initial (cut k (words (whole ++ t)))) (sym (add-zero q))
      ∙ ap (chain m m.initial) (cut_bytes q 0 whole t length_whole ∙ append-nil (cut q (words whole)))

  -- any bytes: n whole blocks are hashed, and what is left is the tail
  pub more : (n : ℕ) (ds : List ℕ) → 64 * n ≤ length t + length ds → length t + length ds < 64 * n + 64
      → Stands m (count + length ds) (drop (64 * n) (t ++ ds)) (chain m h (cut n (words (t ++ ds)))) (bs ++ ds)
  more n ds lo hi =
      let q = length bs / 64 in
      let e : bs ++ ds ≡ whole ++ (t ++ ds) = ap (λ (r : List ℕ). r ++ ds) split ∙ append_assoc whole t ds in
      let l = length-append bs ds in
      let k : length (bs ++ ds) / 64 ≡ q + n = omega (arith, tail_long) in
      let d : length whole + 64 * n ≡ 64 * (length (bs ++ ds) / 64) = omega (arith, length_whole) in
      record {
        counts = omega arith;
        tails = sym (drop-append-add whole (t ++ ds) (64 * n)) ∙ (λ i. drop (d i) (sym e i));
        chains =
            ap (λ (r : List ℕ). chain m r (cut n (words (t ++ ds)))) chain_whole
            ∙ sym (chain_append m m.initial (cut q (words whole)) (cut n (words (t ++ ds))))
            ∙ ap (chain m m.initial) (sym (cut_bytes q n whole (t ++ ds) length_whole) ∙ (λ i. cut (sym k i) (words (sym e i))));
      }

  -- less than a block is left
  pub tail_short : length t < 64
  tail_short = omega (arith, tail_long)

  -- the count tells how long the tail is
  pub tail_counts : length t ≡ count % 64
  tail_counts = omega (arith, tail_long, s.counts)

  -- bytes that do not fill the tail
  pub less : (ds : List ℕ) → length t + length ds < 64 → Stands m (count + length ds) (t ++ ds) h (bs ++ ds)
  unfolding chain cut
  less ds l = more 0 ds (omega arith) (omega arith)

  -- bytes that fill the tail: its block is hashed
  pub full : (ds : List ℕ) → length t + length ds ≡ 64 → Stands m (count + length ds) [] (forward m h (words (t ++ ds))) (bs ++ ds)
  unfolding chain cut
  full ds l =
      let e : length (t ++ ds) ≡ 64 = length-append t ds ∙ l in
      let d : drop 64 (t ++ ds) ≡ [] = drop_of_length-le (t ++ ds) {i = 64} (omega arith) in
      let c : chain m h (cut 1 (words (t ++ ds))) ≡ forward m h (words (t ++ ds)) = ap (chain m h) (cut_one (t ++ ds) e) in
      let P : List ℕ → List ℕ → Type 0 = λ u v. Stands m (count + length ds) u v (bs ++ ds) in
      subst (λ (u : List ℕ). P u (forward m h (words (t ++ ds)))) d
      (subst (λ (v : List ℕ). P (drop 64 (t ++ ds)) v) c (more 1 ds (omega arith) (omega arith)))
