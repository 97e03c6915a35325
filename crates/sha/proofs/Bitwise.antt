-- To choose, and to vote, by or is to do so by exclusive or. Assumes nothing.
use Rattle.std.proofs.Common.{◌≡◌, ℕ, zero, suc, ◌-◌, ◌*◌, ◌/◌, ◌%◌, ◌^◌, ◌<◌, refl, pow-suc, arith}
use lib.Bits.{bit_and, bit_or, bit_xor}
use Rattle.std.proofs.lemmas.Nat.{and_shr, or_shr, xor_shr, and_mod, or_mod, xor_mod}
use Rattle.words.proofs.Bitwise.{table, by_halves}
use Rattle.words.specs.Steps.{choose, majority}
use Rattle.sha.specs.Standards.{Ch, Maj}

module _ (b c e d : ℕ) where
  -- the halves of a choice, and its last bit, where e stands for what is not b
  choose_half : bit_or (bit_and b c) (bit_and e d) / 2 ≡ bit_or (bit_and (b / 2) (c / 2)) (bit_and (e / 2) (d / 2))
  choose_half = let x = or_shr (bit_and b c) (bit_and e d) 1 in let y = and_shr b c 1 in let z = and_shr e d 1 in cc

  choose_last : bit_or (bit_and b c) (bit_and e d) % 2 ≡ bit_or (bit_and (b % 2) (c % 2)) (bit_and (e % 2) (d % 2))
  choose_last = let x = or_mod (bit_and b c) (bit_and e d) 1 in let y = and_mod b c 1 in let z = and_mod e d 1 in cc

  ch_half : bit_xor (bit_and b c) (bit_and e d) / 2 ≡ bit_xor (bit_and (b / 2) (c / 2)) (bit_and (e / 2) (d / 2))
  ch_half = let x = xor_shr (bit_and b c) (bit_and e d) 1 in let y = and_shr b c 1 in let z = and_shr e d 1 in cc

  ch_last : bit_xor (bit_and b c) (bit_and e d) % 2 ≡ bit_xor (bit_and (b % 2) (c % 2)) (bit_and (e % 2) (d % 2))
  ch_last = let x = xor_mod (bit_and b c) (bit_and e d) 1 in let y = and_mod b c 1 in let z = and_mod e d 1 in cc

-- to choose among k bits
choose_k : (k b c d : ℕ) → b < 2 ^ k → bit_or (bit_and b c) (bit_and ((2 ^ k - 1) - b) d) ≡ bit_xor (bit_and b c) (bit_and ((2 ^ k - 1) - b) d)
choose_k zero b c d p = let eb : b ≡ 0 = omega arith in rw eb
choose_k (suc k) b c d p =
    let two : 2 ^ suc k ≡ 2 ^ k * 2 = pow-suc 2 k in
    let e = (2 ^ suc k - 1) - b in
    let half : e / 2 ≡ (2 ^ k - 1) - b / 2 = omega arith in
    let odd : e % 2 ≡ 1 - b % 2 = omega arith in
    let ih = choose_k k (b / 2) (c / 2) (d / 2) (omega arith) in
    let one = table (λ x y z. bit_or (bit_and x y) (bit_and (1 - x) z)) (λ x y z. bit_xor (bit_and x y) (bit_and (1 - x) z)) refl refl refl refl refl refl refl refl (b % 2) (c % 2) (d % 2) (omega arith) (omega arith) (omega arith) in
    let u = choose_half b c e d in
    let v = ch_half b c e d in
    let s = choose_last b c e d in
    let t = ch_last b c e d in
    by_halves (bit_or (bit_and b c) (bit_and e d)) (bit_xor (bit_and b c) (bit_and e d)) (cc) (cc)

-- to choose
pub choose_is : (b c d : ℕ) → b < 2 ^ 32 → choose b c d ≡ Ch b c d
choose_is b c d h = choose_k 32 b c d h

-- to vote among k bits
majority_k : (k b c d : ℕ) → b < 2 ^ k → c < 2 ^ k → d < 2 ^ k → majority b c d ≡ Maj b c d
majority_k zero b c d p q r =
    let eb : b ≡ 0 = omega arith in
    let ec : c ≡ 0 = omega arith in
    rw (eb, ec)
majority_k (suc k) b c d p q r =
    let two : 2 ^ suc k ≡ 2 ^ k * 2 = pow-suc 2 k in
    let ih = majority_k k (b / 2) (c / 2) (d / 2) (omega arith) (omega arith) (omega arith) in
    let one = table majority Maj refl refl refl refl refl refl refl refl (b % 2) (c % 2) (d % 2) (omega arith) (omega arith) (omega arith) in
    let a1 = and_shr c d 1 in
    let a2 = and_mod c d 1 in
    let o1 = or_shr (bit_or (bit_and b c) (bit_and b d)) (bit_and c d) 1 in
    let o2 = or_mod (bit_or (bit_and b c) (bit_and b d)) (bit_and c d) 1 in
    let x1 = xor_shr (bit_xor (bit_and b c) (bit_and b d)) (bit_and c d) 1 in
    let x2 = xor_mod (bit_xor (bit_and b c) (bit_and b d)) (bit_and c d) 1 in
    let u = choose_half b c b d in
    let v = ch_half b c b d in
    let s = choose_last b c b d in
    let t = ch_last b c b d in
    by_halves (majority b c d) (Maj b c d) (cc) (cc)

-- to vote
pub majority_is : (b c d : ℕ) → b < 2 ^ 32 → c < 2 ^ 32 → d < 2 ^ 32 → majority b c d ≡ Maj b c d
majority_is b c d p q r = majority_k 32 b c d p q r
