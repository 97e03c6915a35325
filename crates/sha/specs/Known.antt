-- What is computed of the standard alone, and what it says in words. Assumes nothing.
use Rattle.std.specs.Prelude.{◌≡◌, ℕ, zero, suc, ◌+◌, ◌-◌, ◌*◌, ◌/◌, ◌%◌, ◌^◌, ◌<◌, ◌≤◌, Bool, true, false, cond, not, ◌&&◌, List, [], ◌∷◌, ◌++◌, length, codes, ◌==◌, bit_xor, nat_le, nat_lt}
use Rattle.hash.specs.Digests.{padded}
use Rattle.sha.specs.Standards.{plus, rotl, σ0, σ1, K256s, gap, pad, W}
use Rattle.sha.specs.Sha.{next1, sha1, next256, start256, row256, sha256}

-- the prime numbers up to n + 1: those that no number from 2 on divides, below themselves
abbrev free : ℕ → ℕ → Bool
free zero p = true
free (suc d) p = not (p % (d + 2) == 0) && free d p

abbrev pub primes : ℕ → List ℕ
primes zero = []
primes (suc n) = primes n ++ cond (free n (n + 2)) ((n + 2) ∷ []) []

-- the whole part of the root of p, of degree n, where it is at most k
abbrev whole : ℕ → ℕ → ℕ → ℕ
whole n zero p = 0
whole n (suc k) p = cond (nat_le (suc k ^ n) p) (suc k) (whole n k p)

-- each c is the first 32 bits behind the point of the root of its p
abbrev pub rooted : ℕ → List ℕ → List ℕ → Bool
rooted n [] [] = true
rooted n [] (c ∷ cs) = false
rooted n (p ∷ ps) [] = false
rooted n (p ∷ ps) (c ∷ cs) =
    let x = whole n 20 p * 2 ^ 32 + c in
    nat_lt c (2 ^ 32) && nat_le (x ^ n) (p * 2 ^ (32 * n)) && nat_lt (p * 2 ^ (32 * n)) ((x + 1) ^ n) && rooted n ps cs

abbrev pub long : List ℕ
long = codes "abcdbcdecdefdefgefghfghighijhijkijkljklmklmnlmnomnopnopq"

-- examples, and where the constants come from
pub record Known : Type 0 where
  pub none1 : sha1 [] ≡ 0xDA39A3EE ∷ 0x5E6B4B0D ∷ 0x3255BFEF ∷ 0x95601890 ∷ 0xAFD80709 ∷ []
  pub abc1 : sha1 (codes "abc") ≡ 0xA9993E36 ∷ 0x4706816A ∷ 0xBA3E2571 ∷ 0x7850C26C ∷ 0x9CD0D89D ∷ []
  pub long1 : sha1 long ≡ 0x84983E44 ∷ 0x1C3BD26E ∷ 0xBAAE4AA1 ∷ 0xF95129E5 ∷ 0xE54670F1 ∷ []
  pub none256 : sha256 [] ≡ 0xE3B0C442 ∷ 0x98FC1C14 ∷ 0x9AFBF4C8 ∷ 0x996FB924 ∷ 0x27AE41E4 ∷ 0x649B934C ∷ 0xA495991B ∷ 0x7852B855 ∷ []
  pub abc256 : sha256 (codes "abc") ≡ 0xBA7816BF ∷ 0x8F01CFEA ∷ 0x414140DE ∷ 0x5DAE2223 ∷ 0xB00361A3 ∷ 0x96177A9C ∷ 0xB410FF61 ∷ 0xF20015AD ∷ []
  pub long256 : sha256 long ≡ 0x248D6A61 ∷ 0xD20638B8 ∷ 0xE5C02693 ∷ 0x0C3E6039 ∷ 0xA33CE459 ∷ 0x64FF2167 ∷ 0xF6ECEDD4 ∷ 0x19DB06C1 ∷ []
  pub cube_roots : rooted 3 (primes 310) K256s ≡ true
  pub square_roots : rooted 2 (primes 18) (row256 start256) ≡ true

-- the message schedules and the padding, in the standard's own equations
pub record Stated : Type 0 where
  pub first1 : (m : ℕ → ℕ) (t : ℕ) → t < 16 → W next1 m t ≡ m t
  pub rest1 : (m : ℕ → ℕ) (t : ℕ) → 16 ≤ t
      → W next1 m t ≡ rotl 1 (bit_xor (bit_xor (bit_xor (W next1 m (t - 3)) (W next1 m (t - 8))) (W next1 m (t - 14))) (W next1 m (t - 16)))
  pub first256 : (m : ℕ → ℕ) (t : ℕ) → t < 16 → W next256 m t ≡ m t
  pub rest256 : (m : ℕ → ℕ) (t : ℕ) → 16 ≤ t
      → W next256 m t ≡ plus (plus (plus (σ1 (W next256 m (t - 2))) (W next256 m (t - 7))) (σ0 (W next256 m (t - 15)))) (W next256 m (t - 16))
  pub gap_fits : (l : ℕ) → (l + 1 + gap l) % 512 ≡ 448
  pub gap_least : (l k : ℕ) → (l + 1 + k) % 512 ≡ 448 → gap l ≤ k
  pub gap_bytes : (n : ℕ) → gap (8 * n) % 8 ≡ 7
  -- a padded message is whole blocks of 64 bytes, and the hash pads as the standard does
  pub whole : (msg : List ℕ) → length (pad msg) ≡ 64 * (length (pad msg) / 64)
  pub padding : (msg : List ℕ) → padded msg ≡ pad msg
