-- Blocks absorbed one after the other. Assumes nothing.
use Rattle.std.proofs.Common.{◌≡◌, ℕ, zero, suc, ◌+◌, ◌*◌, ◌<◌, ◌≤◌, List, [], ◌∷◌, ◌++◌, length, get_or, map, take, drop, sym, refl, ap, ◌∙◌, add-one, arith, length-drop}
use Rattle.std.specs.Simd.{first_chunks}
use Rattle.std.proofs.lemmas.List.{get_or-map, length-map, length-take-le, take-append-drop}
use Rattle.words.specs.Words.{words}
use Rattle.cipher.specs.Meaning.{Meaning}
use Rattle.hash.specs.Digests.{forward, cut, chain}
use Rattle.hash.proofs.Growing.{cut_bytes, cut_one}
use Rattle.hash.proofs.Rows.{chain_step}

-- the blocks of 64 bytes are the rows of sixteen words
pub chunks_cut : (n : ℕ) (ds : List ℕ) → n * 64 ≤ length ds → map words (first_chunks 64 n ds) ≡ cut n (words ds)
unfolding cut
chunks_cut zero ds h = refl
chunks_cut (suc n) ds h =
    let front = take 64 ds in
    let long : length front ≡ 64 = length-take-le 64 ds (omega arith) in
    let next : 1 + n ≡ suc n = omega arith in
    ap (λ (bs : List (List ℕ)). words front ∷ bs) (chunks_cut n (drop 64 ds) (simp length-drop (omega arith)))
    ∙ sym (ap (λ (xs : List ℕ). cut (1 + n) (words xs)) (sym (take-append-drop 64 ds))
    ∙ cut_bytes 1 n front (drop 64 ds) long
    ∙ ap (λ (bs : List (List ℕ)). bs ++ cut n (words (drop 64 ds))) (cut_one front long))
    ∙ ap (λ (k : ℕ). cut k (words ds)) next

-- one block more
pub absorbed_more : (m : Meaning) (h c r : List ℕ) (blocks : List (List ℕ)) (i : ℕ) → i < length blocks → c ≡ chain m h (take i (map words blocks))
    → r ≡ forward m c (words (get_or blocks i [])) → r ≡ chain m h (take (i + 1) (map words blocks))
absorbed_more m h c r blocks i lt before is =
    let l : i < length (map words blocks) = omega (arith, length-map blocks words) in
    is
    ∙ (λ j. forward m (before j) (sym (get_or-map words blocks i [] [] lt) j))
    ∙ sym (chain_step m h (map words blocks) i l)
    ∙ ap (λ (k : ℕ). chain m h (take k (map words blocks))) (sym (add-one i))
