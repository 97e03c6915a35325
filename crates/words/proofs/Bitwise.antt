-- To choose, and to vote, by exclusive or is to do so by or. Assumes nothing.
use Rattle.std.proofs.Common.{◌≡◌, ℕ, zero, suc, ◌-◌, ◌*◌, ◌/◌, ◌%◌, ◌^◌, ◌<◌, refl, pow-suc, arith}
use lib.Bits.{bit_and, bit_or, bit_xor}
use Rattle.std.proofs.lemmas.Nat.{and_shr, or_shr, xor_shr, and_mod, or_mod, xor_mod}

-- two functions of bits agree where they agree at each of the eight
pub table : (f g : ℕ → ℕ → ℕ → ℕ) → f 0 0 0 ≡ g 0 0 0 → f 0 0 1 ≡ g 0 0 1 → f 0 1 0 ≡ g 0 1 0 → f 0 1 1 ≡ g 0 1 1 → f 1 0 0 ≡ g 1 0 0 → f 1 0 1 ≡ g 1 0 1 → f 1 1 0 ≡ g 1 1 0 → f 1 1 1 ≡ g 1 1 1 → (x y z : ℕ) → x < 2 → y < 2 → z < 2 → f x y z ≡ g x y z
table f g a b c d e h i j zero zero zero p q r = a
table f g a b c d e h i j zero zero (suc zero) p q r = b
table f g a b c d e h i j zero (suc zero) zero p q r = c
table f g a b c d e h i j zero (suc zero) (suc zero) p q r = d
table f g a b c d e h i j (suc zero) zero zero p q r = e
table f g a b c d e h i j (suc zero) zero (suc zero) p q r = h
table f g a b c d e h i j (suc zero) (suc zero) zero p q r = i
table f g a b c d e h i j (suc zero) (suc zero) (suc zero) p q r = j
table f g a b c d e h i j (suc (suc x)) y z p q r = absurd (omega arith)
table f g a b c d e h i j zero (suc (suc y)) z p q r = absurd (omega arith)
table f g a b c d e h i j (suc zero) (suc (suc y)) z p q r = absurd (omega arith)
table f g a b c d e h i j zero zero (suc (suc z)) p q r = absurd (omega arith)
table f g a b c d e h i j zero (suc zero) (suc (suc z)) p q r = absurd (omega arith)
table f g a b c d e h i j (suc zero) zero (suc (suc z)) p q r = absurd (omega arith)
table f g a b c d e h i j (suc zero) (suc zero) (suc (suc z)) p q r = absurd (omega arith)

-- numbers of one half and one last bit
pub by_halves : (m n : ℕ) → m / 2 ≡ n / 2 → m % 2 ≡ n % 2 → m ≡ n
by_halves m n p q = omega arith

-- to choose among k bits
pub choice : (k b c d : ℕ) → b < 2 ^ k → c < 2 ^ k → d < 2 ^ k → bit_xor d (bit_and b (bit_xor c d)) ≡ bit_or (bit_and b c) (bit_and ((2 ^ k - 1) - b) d)
choice zero b c d p q r =
    let eb : b ≡ 0 = omega arith in
    let ed : d ≡ 0 = omega arith in
    rw (eb, ed)
choice (suc k) b c d p q r =
    let two : 2 ^ suc k ≡ 2 ^ k * 2 = pow-suc 2 k in
    let f = (2 ^ suc k - 1) - b in
    let half : f / 2 ≡ (2 ^ k - 1) - b / 2 = omega arith in
    let odd : f % 2 ≡ 1 - b % 2 = omega arith in
    let ih = choice k (b / 2) (c / 2) (d / 2) (omega arith) (omega arith) (omega arith) in
    let one = table (λ x y z. bit_xor z (bit_and x (bit_xor y z))) (λ x y z. bit_or (bit_and x y) (bit_and (1 - x) z)) refl refl refl refl refl refl refl refl (b % 2) (c % 2) (d % 2) (omega arith) (omega arith) (omega arith) in
    let x1 = xor_shr d (bit_and b (bit_xor c d)) 1 in
    let x2 = and_shr b (bit_xor c d) 1 in
    let x3 = xor_shr c d 1 in
    let y1 = or_shr (bit_and b c) (bit_and f d) 1 in
    let y2 = and_shr b c 1 in
    let y3 = and_shr f d 1 in
    let u1 = xor_mod d (bit_and b (bit_xor c d)) 1 in
    let u2 = and_mod b (bit_xor c d) 1 in
    let u3 = xor_mod c d 1 in
    let v1 = or_mod (bit_and b c) (bit_and f d) 1 in
    let v2 = and_mod b c 1 in
    let v3 = and_mod f d 1 in
    by_halves (bit_xor d (bit_and b (bit_xor c d))) (bit_or (bit_and b c) (bit_and f d)) (cc) (cc)

-- to vote among k bits
pub vote : (k b c d : ℕ) → b < 2 ^ k → c < 2 ^ k → d < 2 ^ k → bit_xor c (bit_and (bit_xor b c) (bit_xor c d)) ≡ bit_or (bit_or (bit_and b c) (bit_and b d)) (bit_and c d)
vote zero b c d p q r =
    let eb : b ≡ 0 = omega arith in
    let ec : c ≡ 0 = omega arith in
    rw (eb, ec)
vote (suc k) b c d p q r =
    let two : 2 ^ suc k ≡ 2 ^ k * 2 = pow-suc 2 k in
    let ih = vote k (b / 2) (c / 2) (d / 2) (omega arith) (omega arith) (omega arith) in
    let one = table (λ x y z. bit_xor y (bit_and (bit_xor x y) (bit_xor y z))) (λ x y z. bit_or (bit_or (bit_and x y) (bit_and x z)) (bit_and y z)) refl refl refl refl refl refl refl refl (b % 2) (c % 2) (d % 2) (omega arith) (omega arith) (omega arith) in
    let x1 = xor_shr c (bit_and (bit_xor b c) (bit_xor c d)) 1 in
    let x2 = and_shr (bit_xor b c) (bit_xor c d) 1 in
    let x3 = xor_shr b c 1 in
    let x4 = xor_shr c d 1 in
    let y1 = or_shr (bit_or (bit_and b c) (bit_and b d)) (bit_and c d) 1 in
    let y2 = or_shr (bit_and b c) (bit_and b d) 1 in
    let y3 = and_shr b c 1 in
    let y4 = and_shr b d 1 in
    let y5 = and_shr c d 1 in
    let u1 = xor_mod c (bit_and (bit_xor b c) (bit_xor c d)) 1 in
    let u2 = and_mod (bit_xor b c) (bit_xor c d) 1 in
    let u3 = xor_mod b c 1 in
    let u4 = xor_mod c d 1 in
    let v1 = or_mod (bit_or (bit_and b c) (bit_and b d)) (bit_and c d) 1 in
    let v2 = or_mod (bit_and b c) (bit_and b d) 1 in
    let v3 = and_mod b c 1 in
    let v4 = and_mod b d 1 in
    let v5 = and_mod c d 1 in
    by_halves (bit_xor c (bit_and (bit_xor b c) (bit_xor c d))) (bit_or (bit_or (bit_and b c) (bit_and b d)) (bit_and c d)) (cc) (cc)
