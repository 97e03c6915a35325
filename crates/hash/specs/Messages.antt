-- What an open message stands for, by what it holds. Assumes nothing.
use Rattle.std.specs.Prelude.{◌≡◌, ℕ, ◌+◌, ◌%◌, ◌^◌, ◌<◌, ◌≤◌, List, length, take, Ok, Err, Result}
use Rattle.std.specs.Borrow.{Bor}
use Rattle.std.specs.List.{flat_map}
use Rattle.words.specs.Blocks.{held}
use Rattle.words.specs.Words.{Below, Row}
use Rattle.words.specs.declared.block.Block.{Block}
use Rattle.faults.specs.declared.grounds.MessageFault.{MessageFault}
use Rattle.faults.specs.declared.grounds.MessageFault.TheVariants.{Limit}
use Rattle.cipher.specs.Meaning.{Meaning}
use Rattle.hash.specs.Digests.{Stands, digest}

-- how many bytes a message takes
abbrev pub limit : ℕ
limit = 16777216

-- the words of a chaining value, which stand in front of its eight places
abbrev pub value : Meaning → List ℕ → List ℕ
value m places = take m.width places

-- a count, the room for the tail and the room for the chaining value stand for bytes
abbrev pub Open : Meaning → ℕ → List ℕ → List ℕ → List ℕ → Type 0
Open m count tail chain bs = Stands m count (take (count % 64) tail) (take m.width chain) bs

-- an addition is granted exactly where the bytes stay within the limit
abbrev pub Granted : ℕ → List ℕ → Result (Unit {0}) MessageFault → Type 0
Granted count ds (Ok u) = count + length ds ≤ limit
Granted count ds (Err f) = (f ≡ Limit) × (limit < count + length ds)

-- parts hash to the digest of their join, and are refused exactly where that is over the limit
abbrev pub Hashes : Meaning → List (Bor (List ℕ)) → Result Block MessageFault → Type 0
Hashes m parts (Ok d) = (length (flat_map (λ x. x.now) parts) ≤ limit) × (held d ≡ digest m (flat_map (λ x. x.now) parts))
Hashes m parts (Err f) = (f ≡ Limit) × (limit < length (flat_map (λ x. x.now) parts))

-- what parts join to is bytes, and their digest is words of 32 bits, as many as the cipher's blocks have
abbrev pub Measured : Meaning → List (Bor (List ℕ)) → Result Block MessageFault → Type 0
Measured m parts (Ok d) = Below (2 ^ 8) (flat_map (λ x. x.now) parts) × Row m.width (held d)
Measured m parts (Err f) = Unit {0}
