-- The hash over a cipher: padding, blocks, chain. Assumes nothing.
use Rattle.std.specs.Prelude.{◌≡◌, ℕ, zero, suc, ◌-◌, ◌*◌, ◌/◌, ◌%◌, ◌^◌, List, [], ◌∷◌, ◌++◌, length, take, drop, replicate}
use Rattle.words.specs.Words.{words, word_bytes}
use Rattle.words.specs.Steps.{added}
use Rattle.cipher.specs.Meaning.{Meaning}

-- the feed-forward step: the chaining value h is encrypted under the message block b, and added to what it was
abbrev pub forward : Meaning → List ℕ → List ℕ → List ℕ
forward m h b = added (m.enc b h) h

-- the length field of a message of n bytes: its bits, in eight bytes, the most significant first
abbrev pub field : ℕ → List ℕ
field n = word_bytes (8 * n / 2 ^ 32) ++ word_bytes (8 * n % 2 ^ 32)

-- the byte 0x80 and z zeros
abbrev pub mark : ℕ → List ℕ
mark z = 0x80 ∷ replicate z 0

-- zero bytes that bring n bytes, the byte 0x80 and the eight of the length to whole blocks of 64
abbrev pub zeros : ℕ → ℕ
zeros n = (119 - n % 64) % 64

unfoldable pub padded : List ℕ → List ℕ
padded msg = msg ++ mark (zeros (length msg)) ++ field (length msg)

-- the sixteen-word blocks of a row of words, n of them
unfoldable pub cut : ℕ → List ℕ → List (List ℕ)
cut zero ws = []
cut (suc n) ws = take 16 ws ∷ cut n (drop 16 ws)

abbrev pub block_count : List ℕ → ℕ
block_count msg = length (padded msg) / 64

abbrev pub blocks : List ℕ → List (List ℕ)
blocks msg = cut (block_count msg) (words (padded msg))

-- a chaining value after blocks
unfoldable pub chain : Meaning → List ℕ → List (List ℕ) → List ℕ
chain m h [] = h
chain m h (b ∷ bs) = chain m (forward m h b) bs

unfoldable pub digest : Meaning → List ℕ → List ℕ
digest m msg = chain m m.initial (blocks msg)

-- an open message stands for the bytes bs that were added to it: it holds their count, the bytes past the last
-- whole block, and the chaining value after the whole blocks
pub record Stands (m : Meaning) (count : ℕ) (tail h : List ℕ) (bs : List ℕ) : Type 0 where
  pub counts : count ≡ length bs
  pub tails : tail ≡ drop (64 * (length bs / 64)) bs
  pub chains : h ≡ chain m m.initial (cut (length bs / 64) (words bs))
