-- SHACAL-2: 64 steps over eight words of 32 bits, under a key of sixteen; the steps, the schedule, the functions and the
-- constants are those of SHA-256 in FIPS 180-4. Assumes nothing.
use Rattle.std.specs.Prelude.{ℕ, ◌+◌, ◌/◌, ◌^◌, List, [], ◌∷◌, bit_xor}
use Rattle.words.specs.Words.{add}
use Rattle.cipher.specs.Meaning.{Meaning}
use Rattle.words.specs.Steps.{sub, rotr, at, choose, majority, grown, forth, undo}

-- ---- the schedule: word 16 + n, from those before it; and the first 16 + n words under the key k

abbrev pub small0 : ℕ → ℕ
small0 x = bit_xor (bit_xor (rotr 7 x) (rotr 18 x)) (x / 2 ^ 3)

abbrev pub small1 : ℕ → ℕ
small1 x = bit_xor (bit_xor (rotr 17 x) (rotr 19 x)) (x / 2 ^ 10)

unfoldable pub fresh : ℕ → List ℕ → ℕ
fresh n ws = add (add (add (at ws n) (small0 (at ws (n + 1)))) (at ws (n + 9))) (small1 (at ws (n + 14)))

unfoldable pub words : List ℕ → ℕ → List ℕ
unfolding grown
words k n = grown fresh k n

-- ---- the constant of a step: the first 32 bits behind the point of the cube root of the prime of its place

unfoldable pub constants : List ℕ
constants =
    0x428A2F98 ∷ 0x71374491 ∷ 0xB5C0FBCF ∷ 0xE9B5DBA5 ∷ 0x3956C25B ∷ 0x59F111F1 ∷ 0x923F82A4 ∷ 0xAB1C5ED5 ∷
    0xD807AA98 ∷ 0x12835B01 ∷ 0x243185BE ∷ 0x550C7DC3 ∷ 0x72BE5D74 ∷ 0x80DEB1FE ∷ 0x9BDC06A7 ∷ 0xC19BF174 ∷
    0xE49B69C1 ∷ 0xEFBE4786 ∷ 0x0FC19DC6 ∷ 0x240CA1CC ∷ 0x2DE92C6F ∷ 0x4A7484AA ∷ 0x5CB0A9DC ∷ 0x76F988DA ∷
    0x983E5152 ∷ 0xA831C66D ∷ 0xB00327C8 ∷ 0xBF597FC7 ∷ 0xC6E00BF3 ∷ 0xD5A79147 ∷ 0x06CA6351 ∷ 0x14292967 ∷
    0x27B70A85 ∷ 0x2E1B2138 ∷ 0x4D2C6DFC ∷ 0x53380D13 ∷ 0x650A7354 ∷ 0x766A0ABB ∷ 0x81C2C92E ∷ 0x92722C85 ∷
    0xA2BFE8A1 ∷ 0xA81A664B ∷ 0xC24B8B70 ∷ 0xC76C51A3 ∷ 0xD192E819 ∷ 0xD6990624 ∷ 0xF40E3585 ∷ 0x106AA070 ∷
    0x19A4C116 ∷ 0x1E376C08 ∷ 0x2748774C ∷ 0x34B0BCB5 ∷ 0x391C0CB3 ∷ 0x4ED8AA4A ∷ 0x5B9CCA4F ∷ 0x682E6FF3 ∷
    0x748F82EE ∷ 0x78A5636F ∷ 0x84C87814 ∷ 0x8CC70208 ∷ 0x90BEFFFA ∷ 0xA4506CEB ∷ 0xBEF9A3F7 ∷ 0xC67178F2 ∷ []

-- ---- one step and its inverse: `front` goes onto the first word, and `sum` onto the eighth

abbrev pub big0 : ℕ → ℕ
big0 x = bit_xor (bit_xor (rotr 2 x) (rotr 13 x)) (rotr 22 x)

abbrev pub big1 : ℕ → ℕ
big1 x = bit_xor (bit_xor (rotr 6 x) (rotr 11 x)) (rotr 25 x)

unfoldable pub front : ℕ → ℕ → ℕ → ℕ
front a b c = add (big0 a) (majority a b c)

unfoldable pub sum : ℕ → ℕ → ℕ → ℕ → ℕ → ℕ
sum k w e f g = add (add (add (big1 e) (choose e f g)) k) w

unfoldable pub turn : ℕ → ℕ → List ℕ → List ℕ
turn k w s =
    let t = add (at s 7) (sum k w (at s 4) (at s 5) (at s 6)) in
    add (front (at s 0) (at s 1) (at s 2)) t ∷ at s 0 ∷ at s 1 ∷ at s 2 ∷ add (at s 3) t ∷ at s 4 ∷ at s 5 ∷ at s 6 ∷ []

unfoldable pub unturn : ℕ → ℕ → List ℕ → List ℕ
unturn k w s =
    let t = sub (at s 0) (front (at s 1) (at s 2) (at s 3)) in
    at s 1 ∷ at s 2 ∷ at s 3 ∷ sub (at s 4) t ∷ at s 5 ∷ at s 6 ∷ at s 7 ∷ sub t (sum k w (at s 5) (at s 6) (at s 7)) ∷ []

unfoldable pub step : ℕ → ℕ → List ℕ → List ℕ
step i w s = turn (at constants i) w s

unfoldable pub unstep : ℕ → ℕ → List ℕ → List ℕ
unstep i w s = unturn (at constants i) w s

-- ---- the steps from step i on, over the words that are left, and the same steps undone, the last first

unfoldable pub run : ℕ → List ℕ → List ℕ → List ℕ
unfolding forth
run i ws s = forth step i ws s

unfoldable pub back : ℕ → List ℕ → List ℕ → List ℕ
unfolding undo
back i ws s = undo unstep i ws s

unfoldable pub Enc : List ℕ → List ℕ → List ℕ
Enc k b = run 0 (words k 48) b

unfoldable pub Dec : List ℕ → List ℕ → List ℕ
Dec k b = back 0 (words k 48) b

-- ---- the cipher as one among others

abbrev pub shacal2 : Meaning
shacal2 = record {
  width = 8;
  initial = 0x6A09E667 ∷ 0xBB67AE85 ∷ 0x3C6EF372 ∷ 0xA54FF53A ∷ 0x510E527F ∷ 0x9B05688C ∷ 0x1F83D9AB ∷ 0x5BE0CD19 ∷ [];
  enc = Enc;
  dec = Dec;
}
