-- SHACAL-1: 80 steps over five words of 32 bits, under a key of sixteen; the steps, the schedule, the functions and the
-- constants are those of SHA-1 in FIPS 180-4. Assumes nothing.
use Rattle.std.specs.Prelude.{ℕ, zero, suc, ◌+◌, ◌/◌, List, [], ◌∷◌, bit_xor}
use Rattle.words.specs.Words.{add}
use Rattle.cipher.specs.Meaning.{Meaning}
use Rattle.words.specs.Steps.{sub, rotl, at, Mix, choose, parity, majority, grown, forth, undo}

-- ---- the schedule: word 16 + n, from those before it; and the first 16 + n words under the key k

unfoldable pub fresh : ℕ → List ℕ → ℕ
fresh n ws = rotl 1 (bit_xor (bit_xor (bit_xor (at ws (n + 13)) (at ws (n + 8))) (at ws (n + 2))) (at ws n))

unfoldable pub words : List ℕ → ℕ → List ℕ
unfolding grown
words k n = grown fresh k n

-- ---- the function and the constant of a phase of twenty steps

unfoldable pub mix : ℕ → Mix
mix zero = choose
mix (suc zero) = parity
mix (suc (suc zero)) = majority
mix (suc (suc (suc n))) = parity

unfoldable pub constant : ℕ → ℕ
constant zero = 0x5A827999
constant (suc zero) = 0x6ED9EBA1
constant (suc (suc zero)) = 0x8F1BBCDC
constant (suc (suc (suc n))) = 0xCA62C1D6

-- ---- one step and its inverse: the sum goes onto the fifth word, or is taken from the first

unfoldable pub sum : Mix → ℕ → ℕ → ℕ → ℕ → ℕ → ℕ → ℕ
sum f k w a b c d = add (add (add w (rotl 5 a)) (f b c d)) k

unfoldable pub turn : Mix → ℕ → ℕ → List ℕ → List ℕ
turn f k w s = add (sum f k w (at s 0) (at s 1) (at s 2) (at s 3)) (at s 4) ∷ at s 0 ∷ rotl 30 (at s 1) ∷ at s 2 ∷ at s 3 ∷ []

unfoldable pub unturn : Mix → ℕ → ℕ → List ℕ → List ℕ
unturn f k w s = at s 1 ∷ rotl 2 (at s 2) ∷ at s 3 ∷ at s 4 ∷ sub (at s 0) (sum f k w (at s 1) (rotl 2 (at s 2)) (at s 3) (at s 4)) ∷ []

unfoldable pub step : ℕ → ℕ → List ℕ → List ℕ
step i w s = turn (mix (i / 20)) (constant (i / 20)) w s

unfoldable pub unstep : ℕ → ℕ → List ℕ → List ℕ
unstep i w s = unturn (mix (i / 20)) (constant (i / 20)) w s

-- ---- the steps from step i on, over the words that are left, and the same steps undone, the last first

unfoldable pub run : ℕ → List ℕ → List ℕ → List ℕ
unfolding forth
run i ws s = forth step i ws s

unfoldable pub back : ℕ → List ℕ → List ℕ → List ℕ
unfolding undo
back i ws s = undo unstep i ws s

unfoldable pub Enc : List ℕ → List ℕ → List ℕ
Enc k b = run 0 (words k 64) b

unfoldable pub Dec : List ℕ → List ℕ → List ℕ
Dec k b = back 0 (words k 64) b

-- ---- the cipher as one among others

abbrev pub shacal1 : Meaning
shacal1 = record {
  width = 5;
  initial = 0x67452301 ∷ 0xEFCDAB89 ∷ 0x98BADCFE ∷ 0x10325476 ∷ 0xC3D2E1F0 ∷ [];
  enc = Enc;
  dec = Dec;
}
