-- FIPS 180-4, 5.3 and 6: SHA-1 and SHA-256. Assumes nothing.
use Rattle.std.specs.Prelude.{ℕ, ◌/◌, cond, List, [], ◌∷◌, length, bit_xor, nat_lt, slice_index}
use Rattle.sha.specs.Standards.{plus, rotl, Ch, Maj, f1, Σ0, Σ1, σ0, σ1, K1, K256s, pad, Next, W, loop, H}

-- ---- 6.1: SHA-1

pub record Five : Type 0 where
  pub a : ℕ
  pub b : ℕ
  pub c : ℕ
  pub d : ℕ
  pub e : ℕ

-- W t = M t up to 15, and from 16 on ROTL 1 of W (t - 3), W (t - 8), W (t - 14), W (t - 16)
unfoldable pub next1 : Next
next1 m t ws = cond (nat_lt t 16) (m t) (rotl 1 (bit_xor (bit_xor (bit_xor (slice_index ws 2) (slice_index ws 7)) (slice_index ws 13)) (slice_index ws 15)))

unfoldable pub round1 : ℕ → ℕ → Five → Five
round1 t w v =
    record {
      a = plus (plus (plus (plus (rotl 5 v.a) (f1 t v.b v.c v.d)) v.e) (K1 t)) w;
      b = v.a;
      c = rotl 30 v.b;
      d = v.c;
      e = v.d;
    }

abbrev pub each1 : Five → Five → Five
each1 v h = record { a = plus v.a h.a; b = plus v.b h.b; c = plus v.c h.c; d = plus v.d h.d; e = plus v.e h.e }

unfoldable pub block1 : (ℕ → ℕ) → Five → Five
block1 m h = each1 (loop round1 (W next1 m) 80 h) h

abbrev pub start1 : Five
start1 = record { a = 0x67452301; b = 0xEFCDAB89; c = 0x98BADCFE; d = 0x10325476; e = 0xC3D2E1F0 }

abbrev pub row1 : Five → List ℕ
row1 v = v.a ∷ v.b ∷ v.c ∷ v.d ∷ v.e ∷ []

unfoldable pub sha1 : List ℕ → List ℕ
sha1 msg = row1 (H block1 start1 (pad msg) (length (pad msg) / 64))

-- ---- 6.2: SHA-256

pub record Eight : Type 0 where
  pub a : ℕ
  pub b : ℕ
  pub c : ℕ
  pub d : ℕ
  pub e : ℕ
  pub f : ℕ
  pub g : ℕ
  pub h : ℕ

-- W t = M t up to 15, and from 16 on σ1 (W (t - 2)) + W (t - 7) + σ0 (W (t - 15)) + W (t - 16)
unfoldable pub next256 : Next
next256 m t ws = cond (nat_lt t 16) (m t) (plus (plus (plus (σ1 (slice_index ws 1)) (slice_index ws 6)) (σ0 (slice_index ws 14))) (slice_index ws 15))

unfoldable pub round256 : ℕ → ℕ → Eight → Eight
round256 t w v =
    let T1 = plus (plus (plus (plus v.h (Σ1 v.e)) (Ch v.e v.f v.g)) (slice_index K256s t)) w in
    let T2 = plus (Σ0 v.a) (Maj v.a v.b v.c) in
    record { a = plus T1 T2; b = v.a; c = v.b; d = v.c; e = plus v.d T1; f = v.e; g = v.f; h = v.g }

abbrev pub each256 : Eight → Eight → Eight
each256 v u =
    record {
      a = plus v.a u.a;
      b = plus v.b u.b;
      c = plus v.c u.c;
      d = plus v.d u.d;
      e = plus v.e u.e;
      f = plus v.f u.f;
      g = plus v.g u.g;
      h = plus v.h u.h;
    }

unfoldable pub block256 : (ℕ → ℕ) → Eight → Eight
block256 m u = each256 (loop round256 (W next256 m) 64 u) u

abbrev pub start256 : Eight
start256 = record { a = 0x6A09E667; b = 0xBB67AE85; c = 0x3C6EF372; d = 0xA54FF53A; e = 0x510E527F; f = 0x9B05688C; g = 0x1F83D9AB; h = 0x5BE0CD19 }

abbrev pub row256 : Eight → List ℕ
row256 v = v.a ∷ v.b ∷ v.c ∷ v.d ∷ v.e ∷ v.f ∷ v.g ∷ v.h ∷ []

unfoldable pub sha256 : List ℕ → List ℕ
sha256 msg = row256 (H block256 start256 (pad msg) (length (pad msg) / 64))
