-- Facts on padding, blocks and the chain over them. Assumes nothing.
use Rattle.std.proofs.Common.{◌≡◌, ℕ, zero, suc, ◌+◌, ◌-◌, ◌*◌, ◌/◌, ◌%◌, ◌^◌, ◌<◌, List, [], ◌∷◌, ◌++◌, length, get_or, take, drop, sym, refl, ap, ◌∙◌, le_of_suc-le-suc, arith, lit<, length-append, length-drop, length-take, drop-drop}
use lib.ListN.{length-replicate}
use Rattle.words.specs.Words.{Below, Row, word_bytes, words}
use Rattle.words.specs.Steps.{added}
use Rattle.cipher.specs.Meaning.{Meaning, Lawful}
use Rattle.hash.specs.Digests.{forward, field, mark, zeros, padded, cut, chain, block_count, blocks, digest}
use Rattle.words.proofs.Bytes.{below_append, below_replicate, below_take, below_drop, word_bytes_below, length_words, words_below}
use Rattle.words.proofs.Summed.{length_added}

-- every block is sixteen words
abbrev pub Rows : List (List ℕ) → Type 0
Rows [] = Unit {0}
Rows (b ∷ bs) = Row 16 b × Rows bs

pub rows_cut : (n : ℕ) (ws : List ℕ) → length ws ≡ 16 * n → Below (2 ^ 32) ws → Rows (cut n ws)
unfolding cut
rows_cut zero ws e h = tt
rows_cut (suc n) ws e h = (
  record { long = simp length-take (omega arith); words = below_take (2 ^ 32) 16 ws h },
  rows_cut n (drop 16 ws) (simp length-drop (omega arith)) (below_drop (2 ^ 32) 16 ws h),
)

pub length_cut : (n : ℕ) (ws : List ℕ) → length (cut n ws) ≡ n
unfolding cut
length_cut zero ws = refl
length_cut (suc n) ws = ap suc (length_cut n (drop 16 ws))

pub getD_cut : (n i : ℕ) (ws : List ℕ) → i < n → get_or (cut n ws) i [] ≡ take 16 (drop (16 * i) ws)
unfolding cut
getD_cut zero i ws h = absurd (omega arith)
getD_cut (suc n) zero ws h = refl
getD_cut (suc n) (suc i) ws h =
    let e : 16 + 16 * i ≡ 16 * suc i = omega arith in
    getD_cut n i (drop 16 ws) (le_of_suc-le-suc h) ∙ ap (λ (r : List ℕ). take 16 r) (drop-drop (16 * i) 16 ws ∙ ap (λ (k : ℕ). drop k ws) e)

-- all of a padded message but its length field
abbrev pub front : List ℕ → List ℕ
front msg = msg ++ mark (zeros (length msg))

pub length_front : (msg : List ℕ) → length (front msg) ≡ length msg + (119 - length msg % 64) % 64 + 1
length_front msg = simp (length-append, length-replicate) (omega arith)

pub length_padded : (msg : List ℕ) → length (padded msg) ≡ length (front msg) + 8
unfolding padded
length_padded msg = length-append (front msg) (field (length msg))

whole : (n p : ℕ) → p ≡ n + (119 - n % 64) % 64 + 9 → p ≡ 64 * (p / 64)
whole n p e = omega arith

pub padded_whole : (msg : List ℕ) → length (padded msg) ≡ 64 * block_count msg
padded_whole msg = whole (length msg) (length (padded msg)) (length_padded msg ∙ omega (arith, length_front msg))

field_below : (n : ℕ) → Below (2 ^ 8) (field n)
field_below n = below_append (2 ^ 8) (word_bytes (8 * n / 2 ^ 32)) (word_bytes (8 * n % 2 ^ 32)) (word_bytes_below (8 * n / 2 ^ 32)) (word_bytes_below (8 * n % 2 ^ 32))

pub padded_below : (msg : List ℕ) → Below (2 ^ 8) msg → Below (2 ^ 8) (padded msg)
unfolding padded
padded_below msg h =
    below_append (2 ^ 8) (front msg) (field (length msg))
    (below_append (2 ^ 8) msg (mark (zeros (length msg))) h (lit< tt, below_replicate (2 ^ 8) (zeros (length msg)) 0 (lit< tt)))
    (field_below (length msg))

-- one block more
pub chain_step : (m : Meaning) (h : List ℕ) (bs : List (List ℕ)) (i : ℕ) → i < length bs
    → chain m h (take (suc i) bs) ≡ forward m (chain m h (take i bs)) (get_or bs i [])
unfolding chain
chain_step m h [] i l = absurd (omega arith)
chain_step m h (b ∷ bs) zero l = refl
chain_step m h (b ∷ bs) (suc i) l = chain_step m (forward m h b) bs i (le_of_suc-le-suc l)

added_below : (xs ys : List ℕ) → Below (2 ^ 32) (added xs ys)
added_below [] ys = tt
added_below (x ∷ xs) [] = tt
added_below (x ∷ xs) (y ∷ ys) = (omega arith, added_below xs ys)

-- the feed-forward step keeps rows
pub forward_row : (m : Meaning) → Lawful m → (h b : List ℕ) → Row m.width h → Row 16 b → Row m.width (forward m h b)
forward_row m lawful h b r k =
    let e = lawful.enc_row b h k r in
    record { long = length_added (m.enc b h) h (e.long ∙ sym r.long) ∙ e.long; words = added_below (m.enc b h) h }

-- blocks keep rows
chain_row : (m : Meaning) → Lawful m → (h : List ℕ) (bs : List (List ℕ)) → Row m.width h → Rows bs → Row m.width (chain m h bs)
unfolding chain
chain_row m lawful h [] r k = r
chain_row m lawful h (b ∷ bs) r k = chain_row m lawful (forward m h b) bs (forward_row m lawful h b r k.0) k.1

-- a digest is as many words as the cipher's blocks
pub digest_row : (m : Meaning) → Lawful m → (msg : List ℕ) → Below (2 ^ 8) msg → Row m.width (digest m msg)
unfolding digest
digest_row m lawful msg h =
    let n = block_count msg in
    chain_row m lawful m.initial (blocks msg) lawful.starts
    (rows_cut n (words (padded msg)) (length_words (16 * n) (padded msg) (padded_whole msg ∙ omega arith)) (words_below (padded msg) (padded_below msg h)))
