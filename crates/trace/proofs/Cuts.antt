-- How many blocks a message has, what the last one holds, and that blocks tell messages apart. Assumes nothing.
use Rattle.std.proofs.Common.{◌≡◌, ℕ, zero, suc, ◌+◌, ◌*◌, ◌/◌, ◌%◌, ◌^◌, ◌<◌, ◌≤◌, List, [], ◌∷◌, ◌++◌, length, get_or, drop, sym, refl, ap, ◌∙◌, arith, lit<, length-drop, take-append-drop, get_or-drop, get_or-take, get_or-append-add}
use mathlib.Core.List.{head-eq_of_cons-eq, tail-eq_of_cons-eq}
use Rattle.words.specs.Words.{Below, words}
use Rattle.words.proofs.Bytes.{word_joined, length_words, words_append, words_inj, append_split}
use Rattle.hash.specs.Digests.{field, padded, cut, block_count, blocks}
use Rattle.hash.proofs.Rows.{length_cut, getD_cut, front, length_front, length_padded, padded_whole, padded_below}

-- words of their blocks
cut_inj : (n : ℕ) (vs ws : List ℕ) → length vs ≡ 16 * n → length ws ≡ 16 * n → cut n vs ≡ cut n ws → vs ≡ ws
unfolding cut
cut_inj zero [] [] d e c = refl
cut_inj zero [] (w ∷ ws) d e c = absurd (omega arith)
cut_inj zero (v ∷ vs) [] d e c = absurd (omega arith)
cut_inj zero (v ∷ vs) (w ∷ ws) d e c = absurd (omega arith)
cut_inj (suc n) vs ws d e c =
    let rest = cut_inj n (drop 16 vs) (drop 16 ws) (simp length-drop (omega arith)) (simp length-drop (omega arith)) (tail-eq_of_cons-eq c) in
    sym (take-append-drop 16 vs) ∙ (λ i. head-eq_of_cons-eq c i ++ rest i) ∙ take-append-drop 16 ws

pub padded_split : (msg : List ℕ) → padded msg ≡ front msg ++ field (length msg)
unfolding padded
padded_split msg = refl

-- the number of blocks by the number of bytes
pub counted : (msg : List ℕ) → block_count msg ≡ (length msg + 72) / 64
counted msg = omega (arith, padded_whole msg, length_padded msg, length_front msg)

-- where the length field begins
pub front_ends : (msg : List ℕ) → length (front msg) + 8 ≡ 64 * block_count msg
front_ends msg = omega (arith, padded_whole msg, length_padded msg)

length_padded_words : (msg : List ℕ) → length (words (padded msg)) ≡ 16 * block_count msg
length_padded_words msg = length_words (16 * block_count msg) (padded msg) (padded_whole msg ∙ omega arith)

pub length_blocks : (msg : List ℕ) → length (blocks msg) ≡ block_count msg
length_blocks msg = length_cut (block_count msg) (words (padded msg))

-- there is a block
pub blocks_some : (msg : List ℕ) → 1 ≤ length (blocks msg)
blocks_some msg = omega (arith, length_blocks msg, counted msg)

-- messages that are as long have as many blocks
pub same_count : (x y : List ℕ) → length x ≡ length y → length (blocks x) ≡ length (blocks y)
same_count x y l = omega (arith, length_blocks x, length_blocks y, counted x, counted y)

-- messages of their blocks, where they are as long
pub blocks_inj : (x y : List ℕ) → Below (2 ^ 8) x → Below (2 ^ 8) y → length x ≡ length y → blocks x ≡ blocks y → x ≡ y
blocks_inj x y h k l e =
    let c : block_count x ≡ block_count y = sym (length_blocks x) ∙ ap length e ∙ length_blocks y in
    let w : words (padded x) ≡ words (padded y) =
    cut_inj (block_count x) (words (padded x)) (words (padded y)) (length_padded_words x) (length_padded_words y ∙ omega arith)
    (e ∙ ap (λ (n : ℕ). cut n (words (padded y))) (sym c)) in
    let p : padded x ≡ padded y =
    words_inj (16 * block_count x) (16 * block_count y) (padded x) (padded y) (padded_whole x ∙ omega arith) (padded_whole y ∙ omega arith)
    (padded_below x h) (padded_below y k) w in
    let q : front x ++ field (length x) ≡ front y ++ field (length y) = sym (padded_split x) ∙ p ∙ padded_split y in
    let f : front x ≡ front y = (append_split (front x) (front y) _ _ (omega (arith, length_front x, length_front y)) q).0 in
    (append_split x y _ _ l f).0

-- the end of the last block: the words of the length field
ends : (msg : List ℕ) (p k : ℕ) → k < 2 → p + 1 ≡ length (blocks msg)
    → get_or (get_or (blocks msg) p []) (14 + k) 0 ≡ get_or (words (field (length msg))) k 0
ends msg p k h e =
    let W = words (padded msg) in
    let tail = words (field (length msg)) in
    let count = length_blocks msg in
    let f : length (front msg) ≡ 4 * (16 * p + 14) = omega (arith, front_ends msg) in
    let g : length (words (front msg)) ≡ 16 * p + 14 = length_words (16 * p + 14) (front msg) f in
    let w : W ≡ words (front msg) ++ tail = ap words (padded_split msg) ∙ words_append (16 * p + 14) (front msg) _ f in
    ap (λ (r : List ℕ). get_or r (14 + k) 0) (getD_cut (block_count msg) p W (omega arith))
    ∙ get_or-take 16 (drop (16 * p) W) (14 + k) 0 (omega arith)
    ∙ get_or-drop (16 * p) W (14 + k) 0
    ∙ ap (λ (n : ℕ). get_or W n 0) (omega arith)
    ∙ ap (λ (r : List ℕ). get_or r (length (words (front msg)) + k) 0) w
    ∙ get_or-append-add (words (front msg)) tail k 0

-- messages whose last blocks are the same are as long
pub last_length : (x y : List ℕ) (p q : ℕ) → length x < 2 ^ 61 → length y < 2 ^ 61 → p + 1 ≡ length (blocks x) → q + 1 ≡ length (blocks y)
    → get_or (blocks x) p [] ≡ get_or (blocks y) q [] → length x ≡ length y
last_length x y p q h k d e b =
    let a = 8 * length x / 2 ^ 32 in
    let b' = 8 * length y / 2 ^ 32 in
    let c = 8 * length x % 2 ^ 32 in
    let d' = 8 * length y % 2 ^ 32 in
    let hi : a ≡ b' =
    sym (word_joined a (omega arith)) ∙ sym (ends x p 0 (lit< tt) d) ∙ ap (λ (r : List ℕ). get_or r 14 0) b ∙ ends y q 0 (lit< tt) e ∙ word_joined b' (omega arith) in
    let lo : c ≡ d' =
    sym (word_joined c (omega arith)) ∙ sym (ends x p 1 (lit< tt) d) ∙ ap (λ (r : List ℕ). get_or r 15 0) b ∙ ends y q 1 (lit< tt) e ∙ word_joined d' (omega arith) in
    omega arith
