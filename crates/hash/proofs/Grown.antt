-- What a message stands for after bytes were added. Assumes nothing.
use Rattle.std.proofs.Common.{◌≡◌, ℕ, ◌+◌, ◌-◌, ◌*◌, ◌/◌, ◌%◌, ◌<◌, ◌≤◌, List, ◌++◌, length, map, take, drop, sym, ap, ◌∙◌, subst, arith, length-append, length-drop, length-take}
use borrow.Rule.Slice.PartMut.{put_mid}
use Rattle.std.specs.Simd.{first_chunks}
use Rattle.std.proofs.lemmas.List.{take_all, length-take-le, drop-drop}
use Rattle.std.proofs.lemmas.Slice.{take-put_mid}
use Rattle.words.specs.Words.{words}
use Rattle.cipher.specs.Meaning.{Meaning}
use Rattle.hash.specs.Digests.{Stands, forward, cut, chain}
use Rattle.hash.proofs.Growing.{less}
use Rattle.hash.proofs.Ends.{composed}
use Rattle.hash.proofs.Absorbed.{chunks_cut}

module _ (m : Meaning) (count : ℕ) (tail h ds : List ℕ) (long : length tail ≡ 64) (bs : List ℕ) (stands : Stands m count (take (count % 64) tail) h bs) where
  used_long : length (take (count % 64) tail) ≡ count % 64
  used_long = length-take-le (count % 64) tail (omega arith)

  -- bytes that do not fill the tail
  pub grown_less : (k : ℕ) (part : List ℕ) → length ds < 64 - count % 64 → part ≡ ds
      → Stands m (count + length ds) (take ((count + length ds) % 64) (put_mid (count % 64) k tail part)) h (bs ++ ds)
  grown_less k part room is =
      let used = count % 64 in
      let n : (count + length ds) % 64 ≡ used + length part = omega (arith, ap length is) in
      let t : take ((count + length ds) % 64) (put_mid used k tail part) ≡ take used tail ++ ds =
      take-put_mid used k tail part ((count + length ds) % 64) n (omega arith) ∙ ap (λ (x : List ℕ). take used tail ++ x) is in
      subst (λ (x : List ℕ). Stands m (count + length ds) x h (bs ++ ds)) (sym t) (less m count (take used tail) h bs stands ds (omega (arith, used_long)))

  -- bytes that fill it, and whole blocks behind them
  pub grown_more : (k : ℕ) (front rest part filled last whole one all : List ℕ) (blocks : List (List ℕ)) → 64 - count % 64 ≤ length ds → k ≡ 64 - count % 64
      → front ≡ take (64 - count % 64) ds → rest ≡ drop (64 - count % 64) ds → part ≡ front → filled ≡ put_mid (count % 64) k tail part
      → one ≡ forward m h (words filled) → blocks ≡ first_chunks 64 (length rest / 64) rest → all ≡ chain m one (map words blocks)
      → last ≡ drop (length rest / 64 * 64) rest → take (length last) whole ≡ last
      → Stands m (count + length ds) (take ((count + length ds) % 64) whole) all (bs ++ ds)
  grown_more k front rest part filled last whole one all blocks room size f r p w o b a l e =
      let used = count % 64 in
      let q = length rest / 64 in
      let lr : length rest ≡ length ds - (64 - used) = ap length r ∙ length-drop (64 - used) ds in
      let lp : length part ≡ 64 - used = ap length (p ∙ f) ∙ length-take-le (64 - used) ds room in
      let ll : length last ≡ length rest - q * 64 = ap length l ∙ length-drop (q * 64) rest in
      let full : filled ≡ take used tail ++ take (64 - used) ds =
      w
      ∙ sym (take_all 64 (put_mid used k tail part) (length_filled k part size lp))
      ∙ take-put_mid used k tail part 64 (omega arith) (omega arith)
      ∙ ap (λ (x : List ℕ). take used tail ++ x) (p ∙ f) in
      let cuts : map words blocks ≡ cut q (words rest) = ap (map words) b ∙ chunks_cut q rest (omega arith) in
      let chains : all ≡ chain m (forward m h (words (take used tail ++ take (64 - used) ds))) (cut q (words (drop (64 - used) ds))) =
      a ∙ ap (chain m one) cuts ∙ (λ i. chain m ((o ∙ ap (λ (x : List ℕ). forward m h (words x)) full) i) (cut q (words (r i)))) in
      let n : (count + length ds) % 64 ≡ length last = omega arith in
      let tails : take ((count + length ds) % 64) whole ≡ drop (64 - used + 64 * q) ds =
      ap (λ (j : ℕ). take j whole) n ∙ e ∙ l ∙ ap (drop (q * 64)) r ∙ drop-drop (q * 64) (64 - used) ds ∙ ap (λ (j : ℕ). drop j ds) (omega arith) in
      let s = composed m count (take used tail) h bs stands (64 - used) q ds (omega (arith, used_long)) (omega arith) (omega arith) in
      subst (λ (x : List ℕ). Stands m (count + length ds) x all (bs ++ ds)) (sym tails)
      (subst (λ (x : List ℕ). Stands m (count + length ds) (drop (64 - used + 64 * q) ds) x (bs ++ ds)) (sym chains) s)
    where
      length_filled : (k : ℕ) (part : List ℕ) → k ≡ 64 - count % 64 → length part ≡ 64 - count % 64 → length (put_mid (count % 64) k tail part) ≤ 64
      length_filled k part e g = simp (length-append, length-take, length-drop) (omega arith)
