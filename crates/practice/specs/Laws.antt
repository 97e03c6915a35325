-- The laws of the practice cipher. Assumes nothing.
use Rattle.std.specs.Prelude.{◌≡◌, refl, List, [], ◌∷◌, ℕ, ◌^◌, ◌<◌, length, set}
use Rattle.std.proofs.Common.{arith}
use Rattle.words.specs.Words.{Row}
use Rattle.words.specs.Steps.{at}
use Rattle.words.proofs.Undone.{at_lt, sub_add_r, add_sub_r}
use Rattle.cipher.specs.Meaning.{Lawful}
use Rattle.practice.specs.Practice.{plus, less, practice}

two : (x y : ℕ) → x < 2 ^ 32 → y < 2 ^ 32 → Row 2 (x ∷ y ∷ [])
two x y p q = record { long = refl; words = (p, (q, tt)) }

less_plus : (k b : List ℕ) → Row 16 k → Row 2 b → less k (plus k b) ≡ b
less_plus k [] h r = absurd (omega (arith, r.long))
less_plus k (x ∷ []) h r = absurd (omega (arith, r.long))
less_plus k (x ∷ y ∷ []) h r =
    let a = sub_add_r (at k 0) x (at_lt k 0 h.words) r.words.0 in
    let b = sub_add_r (at k 1) y (at_lt k 1 h.words) r.words.1.0 in
    rw (a, b)
less_plus k (x ∷ y ∷ z ∷ zs) h r = absurd (omega (arith, r.long))

plus_less : (k b : List ℕ) → Row 16 k → Row 2 b → plus k (less k b) ≡ b
plus_less k [] h r = absurd (omega (arith, r.long))
plus_less k (x ∷ []) h r = absurd (omega (arith, r.long))
plus_less k (x ∷ y ∷ []) h r =
    let a = add_sub_r (at k 0) x (at_lt k 0 h.words) r.words.0 in
    let b = add_sub_r (at k 1) y (at_lt k 1 h.words) r.words.1.0 in
    rw (a, b)
plus_less k (x ∷ y ∷ z ∷ zs) h r = absurd (omega (arith, r.long))

pub lawful : Lawful practice
lawful = record {
  least = omega arith;
  most = omega arith;
  starts = two 1 2 (omega arith) (omega arith);
  enc_row = λ k b p r. two _ _ (omega arith) (omega arith);
  dec_row = λ k b p r. two _ _ (omega arith) (omega arith);
  dec_enc = less_plus;
  enc_dec = plus_less;
}

-- a block of two words, each written
pub both : (b : List ℕ) (p q : ℕ) → length b ≡ 2 → set (set b 0 p) 1 q ≡ p ∷ q ∷ []
both [] p q e = absurd (omega arith)
both (x ∷ []) p q e = absurd (omega arith)
both (x ∷ y ∷ []) p q e = refl
both (x ∷ y ∷ z ∷ zs) p q e = absurd (omega arith)
