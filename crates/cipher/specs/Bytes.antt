-- The same over bytes: keys of 16 to 64 bytes, blocks of four bytes a word, the most significant byte first. Assumes nothing.
use Rattle.std.specs.Prelude.{ℕ, ◌-◌, ◌*◌, Bool, cond, ◌&&◌, List, ◌++◌, length, replicate, Ok, Err, Result, ◌==◌, nat_le}
use Rattle.faults.specs.declared.grounds.CipherFault.{CipherFault}
use Rattle.faults.specs.declared.grounds.CipherFault.TheVariants.{Key, Block}
use Rattle.words.specs.Words.{bytes, words}
use Rattle.cipher.specs.Turned.{Answer}

abbrev pub key_fits : List ℕ → Bool
key_fits k = nat_le 16 (length k) && nat_le (length k) 64

-- the sixteen words of a key, with zero bytes behind it up to 64
abbrev pub key_words : List ℕ → List ℕ
key_words k = words (k ++ replicate (64 - length k) 0)

-- the key is looked at first; n is the cipher's number of words
abbrev pub byte_told : ℕ → List ℕ → List ℕ → Answer
byte_told n k b = cond (key_fits k) (cond (length b == 4 * n) (Ok tt) (Err Block)) (Err Key)

-- the block afterwards, where f is what is done to words under a key of words
abbrev pub byte_turned : ℕ → (List ℕ → List ℕ → List ℕ) → List ℕ → List ℕ → List ℕ
byte_turned n f k b = cond (key_fits k) (cond (length b == 4 * n) (bytes (f (key_words k) (words b))) b) b

-- key and block as words, eight places for the block's
abbrev pub opened : ℕ → List ℕ → List ℕ → Result (List ℕ × List ℕ) CipherFault
opened n k b = cond (key_fits k) (cond (length b == 4 * n) (Ok (key_words k, words b ++ replicate (8 - n) 0)) (Err Block)) (Err Key)
