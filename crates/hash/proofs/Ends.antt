-- The steps of a program that adds bytes, and the end of a message. Assumes nothing.
use Rattle.std.proofs.Common.{◌≡◌, ℕ, ◌+◌, ◌-◌, ◌*◌, ◌/◌, ◌<◌, ◌≤◌, List, [], ◌∷◌, ◌++◌, length, take, drop, replicate, sym, refl, ap, ◌∙◌, subst, append_assoc, arith, length-append, length-drop, take-append-drop, length-take, drop-drop}
use lib.ListN.{length-replicate, replicate-append-replicate}
use Rattle.words.specs.Words.{words}
use Rattle.cipher.specs.Meaning.{Meaning}
use Rattle.hash.specs.Digests.{forward, field, mark, zeros, padded, cut, chain, digest, Stands}
use Rattle.hash.proofs.Growing.{cut_bytes, cut_one, tail_short, tail_counts, more, full}

-- a message to which nothing was added
pub none : (m : Meaning) → Stands m 0 [] m.initial []
unfolding chain cut
none m = record { counts = refl; tails = refl; chains = refl }

-- the same under another count, tail, value and message
moved : (m : Meaning) (c d : ℕ) (t u h bs cs : List ℕ) → c ≡ d → t ≡ u → bs ≡ cs → Stands m c t h bs → Stands m d u h cs
moved m c d t u h bs cs p q r s = subst (λ (x : ℕ). Stands m x u h cs) p (subst (λ (x : List ℕ). Stands m c x h cs) q (subst (λ (x : List ℕ). Stands m c t h x) r s))

module _ (m : Meaning) (count : ℕ) where
  -- what is behind i of ds, on an empty tail
  behind : (i n : ℕ) (h bs ds : List ℕ) → Stands m count [] h (bs ++ take i ds) → i + 64 * n ≤ length ds → length ds < i + 64 * n + 64
      → Stands m (count + (length ds - i)) (drop (i + 64 * n) ds) (chain m h (cut n (words (drop i ds)))) (bs ++ ds)
  behind i n h bs ds s lo hi =
      let l = length-drop i ds in
      moved m (count + length (drop i ds)) (count + (length ds - i)) (drop (64 * n) (drop i ds)) (drop (i + 64 * n) ds) (chain m h (cut n (words (drop i ds))))
      (bs ++ take i ds ++ drop i ds) (bs ++ ds) (omega arith) (drop-drop (64 * n) i ds)
      (append_assoc bs (take i ds) (drop i ds) ∙ ap (λ (r : List ℕ). bs ++ r) (take-append-drop i ds))
      (more m count [] h (bs ++ take i ds) s n (drop i ds) (omega arith) (omega arith))

module _ (m : Meaning) (count : ℕ) (t h bs : List ℕ) (s : Stands m count t h bs) where
  -- as a program does it: f bytes fill the tail, n blocks come straight from ds, the rest is kept
  pub composed : (f n : ℕ) (ds : List ℕ) → length t + f ≡ 64 → f + 64 * n ≤ length ds → length ds < f + 64 * n + 64
      → Stands m (count + length ds) (drop (f + 64 * n) ds) (chain m (forward m h (words (t ++ take f ds))) (cut n (words (drop f ds)))) (bs ++ ds)
  composed f n ds e lo hi =
      let l : length (take f ds) ≡ f = simp length-take (omega arith) in
      subst (λ (c : ℕ). Stands m c (drop (f + 64 * n) ds) (chain m (forward m h (words (t ++ take f ds))) (cut n (words (drop f ds)))) (bs ++ ds)) (omega arith)
      (behind m (count + length (take f ds)) f n (forward m h (words (t ++ take f ds))) bs ds
      (full m count t h bs s (take f ds) (omega arith)) lo hi)

  -- any bytes that stand for the padding's: the digest is the chain over the blocks of the tail and the ending
  ended : (n : ℕ) (end : List ℕ) → padded bs ≡ bs ++ end → length t + length end ≡ 64 * n → digest m bs ≡ chain m h (cut n (words (t ++ end)))
  unfolding digest chain cut
  ended n end p l =
      ap (λ (r : List ℕ). chain m m.initial (cut (length r / 64) (words r))) p ∙ sym (more m count t h bs s n end (omega arith) (omega arith)).chains

  -- the padding of the message, where z zeros are due
  padding : (z : ℕ) → zeros count ≡ z → padded bs ≡ bs ++ (mark z ++ field count)
  unfolding padded
  padding z e =
      let c : length bs ≡ count = sym s.counts in
      (λ i. bs ++ mark (zeros (c i)) ++ field (c i)) ∙ append_assoc bs (mark (zeros count)) (field count) ∙ ap (λ (j : ℕ). bs ++ (mark j ++ field count)) e

  -- one block where the mark and the field fit behind the tail
  pub ends_one : length t ≤ 55 → digest m bs ≡ forward m h (words (t ++ mark (55 - length t) ++ field count))
  unfolding chain cut
  ends_one l =
      let z = 55 - length t in
      let e : length (mark z ++ field count) ≡ z + 9 = length-append (mark z) (field count) ∙ omega (arith, length-replicate {A = ℕ} z 0) in
      let x : length (t ++ (mark z ++ field count)) ≡ 64 = length-append t (mark z ++ field count) ∙ omega arith in
      ended 1 (mark z ++ field count) (padding z (omega (arith, tail_counts m count t h bs s))) (omega arith)
      ∙ ap (chain m h) (cut_one (t ++ (mark z ++ field count)) x)
      ∙ ap (λ (r : List ℕ). forward m h (words r)) (sym (append_assoc t (mark z) (field count)))

  -- two blocks, each with what it holds
  two : (e y : List ℕ) → padded bs ≡ bs ++ (e ++ y) → length t + length e ≡ 64 → length y ≡ 64 → digest m bs ≡ forward m (forward m h (words (t ++ e))) (words y)
  unfolding chain cut
  two e y p l k =
      let x : length (t ++ e) ≡ 64 = length-append t e ∙ l in
      ended 2 (e ++ y) p (omega (arith, length-append e y))
      ∙ ap (λ (r : List ℕ). chain m h (cut 2 (words r))) (sym (append_assoc t e y))
      ∙ ap (chain m h) (cut_bytes 1 1 (t ++ e) y x ∙ (λ i. cut_one (t ++ e) x i ++ cut_one y k i))

  -- two blocks where they do not fit
  pub ends_two : 56 ≤ length t → digest m bs ≡ forward m (forward m h (words (t ++ mark (63 - length t)))) (words (replicate 56 0 ++ field count))
  ends_two l =
      let short = tail_short m count t h bs s in
      let z = 63 - length t in
      let e : mark (z + 56) ++ field count ≡ mark z ++ (replicate 56 0 ++ field count) =
      ap (λ (r : List ℕ). 0x80 ∷ r ++ field count) (sym (replicate-append-replicate z 56 0)) ∙ append_assoc (mark z) (replicate 56 0) (field count) in
      two (mark z) (replicate 56 0 ++ field count)
      (padding (z + 56) (omega (arith, tail_counts m count t h bs s)) ∙ ap (λ (r : List ℕ). bs ++ r) e)
      (omega (arith, length-replicate {A = ℕ} z 0)) refl
