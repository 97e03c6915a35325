-- What ciphers of many small steps share: operations on words of 32 bits, and steps over a row of them. Assumes nothing.
use Rattle.std.specs.Prelude.{◌≡◌, ℕ, zero, suc, ◌+◌, ◌-◌, ◌*◌, ◌/◌, ◌%◌, ◌^◌, ◌<◌, ◌≤◌, List, [], ◌∷◌, ◌++◌, length, drop, bit_and, bit_or, bit_xor, slice_index}
use Rattle.words.specs.Words.{add}

-- ---- words of 32 bits; `add` is with the words

abbrev pub sub : ℕ → ℕ → ℕ
sub x y = (x + (2 ^ 32 - y)) % 2 ^ 32

abbrev pub rotl : ℕ → ℕ → ℕ
rotl k x = bit_or ((x * 2 ^ k) % 2 ^ 32) (x / 2 ^ (32 - k))

abbrev pub rotr : ℕ → ℕ → ℕ
rotr k x = bit_or (x / 2 ^ k) ((x * 2 ^ (32 - k)) % 2 ^ 32)

abbrev pub flip : ℕ → ℕ
flip x = (2 ^ 32 - 1) - x

abbrev pub at : List ℕ → ℕ → ℕ
at xs i = slice_index xs i

abbrev pub Mix : Type 0
Mix = ℕ → ℕ → ℕ → ℕ

abbrev pub choose : Mix
choose b c d = bit_or (bit_and b c) (bit_and (flip b) d)

abbrev pub parity : Mix
parity b c d = bit_xor (bit_xor b c) d

abbrev pub majority : Mix
majority b c d = bit_or (bit_or (bit_and b c) (bit_and b d)) (bit_and c d)

-- ---- rows added word by word, as long as the shorter

abbrev pub added : List ℕ → List ℕ → List ℕ
added [] ys = []
added (x ∷ xs) [] = []
added (x ∷ xs) (y ∷ ys) = add x y ∷ added xs ys

-- ---- a schedule: the key and n words more, each made from those before it

unfoldable pub grown : (ℕ → List ℕ → ℕ) → List ℕ → ℕ → List ℕ
grown fresh k zero = k
grown fresh k (suc n) = let ws = grown fresh k n in ws ++ fresh n ws ∷ []

-- the sixteen words of a schedule behind sixteen others
unfoldable pub next : (ℕ → List ℕ → ℕ) → List ℕ → List ℕ
unfolding grown
next fresh ws = drop 16 (grown fresh ws 16)

-- sixteen words r, of which the first i are renewed: the word q of the schedule stands at q % 16
abbrev pub Rolled : (ℕ → List ℕ → ℕ) → List ℕ → List ℕ → ℕ → Type 0
Rolled fresh k r i = (length r ≡ 16) × ((q : ℕ) → i ≤ q → q < i + 16 → slice_index r (q % 16) ≡ slice_index (grown fresh k i) q)

-- ---- the steps from step i on, over the words that are left, and the same steps undone, the last first

abbrev pub Step : Type 0
Step = ℕ → ℕ → List ℕ → List ℕ

unfoldable pub forth : Step → ℕ → List ℕ → List ℕ → List ℕ
forth step i [] s = s
forth step i (w ∷ ws) s = forth step (i + 1) ws (step i w s)

unfoldable pub undo : Step → ℕ → List ℕ → List ℕ → List ℕ
undo unstep i [] s = s
undo unstep i (w ∷ ws) s = unstep i w (undo unstep (i + 1) ws s)
