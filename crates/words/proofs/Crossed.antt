-- Words read one by one, and written one by one. Assumes nothing.
use Rattle.std.proofs.Common.{◌≡◌, ℕ, zero, suc, ◌+◌, ◌-◌, ◌*◌, ◌^◌, ◌<◌, ◌≤◌, List, [], ◌∷◌, ◌++◌, length, get_or, take, drop, set, Ok, Err, Result, sym, refl, ap, ◌∙◌, arith}
use borrow.Rule.Slice.PartMut.{put_mid, post_of, Post-is}
use Rattle.std.proofs.lemmas.List.{append_assoc, append-nil, take_more, take_all, take_at, drop-drop, drop_at, take_more_same, length-take-le, get_or-set_same, take-set, length-set, drop_all}
use Rattle.std.specs.Simd.{first_chunks}
use Rattle.faults.specs.declared.grounds.BufferFault.{BufferFault}
use Rattle.words.specs.Buffer.{Fills}
use Rattle.words.specs.Words.{word_bytes, bytes, words}
use Rattle.words.proofs.Bytes.{length_words}

-- the word at a place is that of the four bytes there
pub word_at : (q i : ℕ) (bs four : List ℕ) → length bs ≡ 4 * q → i < q → get_or (first_chunks 4 q bs) i [] ≡ four
    → get_or (words bs) i 0 ≡ get_or four 0 0 * 2 ^ 24 + get_or four 1 0 * 2 ^ 16 + get_or four 2 0 * 2 ^ 8 + get_or four 3 0
word_at zero i bs four e h g = absurd (omega arith)
word_at (suc q) i [] four e h g = absurd (omega arith)
word_at (suc q) i (a ∷ []) four e h g = absurd (omega arith)
word_at (suc q) i (a ∷ b ∷ []) four e h g = absurd (omega arith)
word_at (suc q) i (a ∷ b ∷ c ∷ []) four e h g = absurd (omega arith)
word_at (suc q) zero (a ∷ b ∷ c ∷ d ∷ bs) four e h g = ap (λ z. get_or z 0 0 * 2 ^ 24 + get_or z 1 0 * 2 ^ 16 + get_or z 2 0 * 2 ^ 8 + get_or z 3 0) g
word_at (suc q) (suc i) (a ∷ b ∷ c ∷ d ∷ bs) four e h g = word_at q i bs four (omega arith) (omega arith) g

-- one more word read
pub read_more : (bs out : List ℕ) (i v : ℕ) → length bs ≡ 4 * length out → i < length out → take i out ≡ take i (words bs) → v ≡ get_or (words bs) i 0 → take (i + 1) (set out i v) ≡ take (i + 1) (words bs)
read_more bs out i v e h t q =
    let l = length_words (length out) bs e in
    take_more_same (set out i v) (words bs) i 0 (rw length-set h) (omega arith) (take-set out i v ∙ t) (get_or-set_same out i v 0 h ∙ q)

-- all are read
pub read_all : (bs out : List ℕ) (i : ℕ) → length bs ≡ 4 * length out → length out ≤ i → take i out ≡ take i (words bs) → out ≡ words bs
read_all bs out i e h t =
    let l = length_words (length out) bs e in
    sym (take_all i out h) ∙ t ∙ take_all i (words bs) (omega arith)

-- ---- written

pub bytes_append : (xs ys : List ℕ) → bytes (xs ++ ys) ≡ bytes xs ++ bytes ys
bytes_append [] ys = refl
bytes_append (x ∷ xs) ys = ap (λ z. word_bytes x ++ z) (bytes_append xs ys) ∙ sym (append_assoc (word_bytes x) (bytes xs) (bytes ys))

pub length_bytes : (ws : List ℕ) → length (bytes ws) ≡ 4 * length ws
length_bytes [] = refl
length_bytes (w ∷ ws) = let e = length_bytes ws in omega arith

-- one more word written behind n bytes
put_more : (b old wb : List ℕ) (n m : ℕ) → length b ≡ n → n + 4 ≡ m → m ≤ length old → put_mid n (m - n) (b ++ drop n old) wb ≡ (b ++ wb) ++ drop m old
put_more b old wb n m l e h =
    let t : take n (b ++ drop n old) ≡ b = take_at b (drop n old) n l in
    let d : drop m (b ++ drop n old) ≡ drop m old = ap (λ z. drop z (b ++ drop n old)) (sym e) ∙ sym (drop-drop 4 n (b ++ drop n old)) ∙ ap (drop 4) (drop_at b (drop n old) n l) ∙ drop-drop 4 n old ∙ ap (λ z. drop z old) e in
    let p = Post-is n m (b ++ drop n old) (omega arith) in
    ap (λ z. z ++ (wb ++ post_of n (m - n) (b ++ drop n old))) t ∙ ap (λ z. b ++ (wb ++ z)) (p ∙ d) ∙ sym (append_assoc b wb (drop m old))

-- the bytes of the first i words in front
pub written_more : (ws out old wb : List ℕ) (i : ℕ) → i < length ws → 4 * length ws ≤ length old → out ≡ bytes (take i ws) ++ drop (4 * i) old → wb ≡ word_bytes (get_or ws i 0)
    → put_mid (4 * i) ((4 * i + 4) - 4 * i) out wb ≡ bytes (take (i + 1) ws) ++ drop (4 * (i + 1)) old
written_more ws out old wb i h k e q =
    let w = get_or ws i 0 in
    let l : length (take i ws) ≡ i = length-take-le i ws (omega arith) in
    let n : length (bytes (take i ws)) ≡ 4 * i = length_bytes (take i ws) ∙ ap (λ z. 4 * z) l in
    let more : bytes (take (i + 1) ws) ≡ bytes (take i ws) ++ word_bytes w = ap bytes (take_more ws i 0 h) ∙ bytes_append (take i ws) (w ∷ []) in
    let m : 4 * i + 4 ≡ 4 * (i + 1) = omega arith in
    ap (λ z. put_mid (4 * i) ((4 * i + 4) - 4 * i) z wb) e
    ∙ put_more (bytes (take i ws)) old wb (4 * i) (4 * i + 4) n refl (omega arith)
    ∙ ap (λ z. (bytes (take i ws) ++ z) ++ drop (4 * i + 4) old) q
    ∙ ap (λ z. z ++ drop (4 * i + 4) old) (sym more)
    ∙ ap (λ z. bytes (take (i + 1) ws) ++ drop z old) m

-- a buffer as long as the bytes holds them and no more
pub fills_whole : (bs old new : List ℕ) (r : Result ℕ BufferFault) → length old ≡ length bs → Fills bs old new r → new ≡ bs
fills_whole bs old new (Ok n) l (e, h, q) = q ∙ ap (λ z. bs ++ z) (drop_all n old (omega arith)) ∙ append-nil bs
fills_whole bs old new (Err f) l (e, h, q) = absurd (omega arith)
