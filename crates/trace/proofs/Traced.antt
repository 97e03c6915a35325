-- What a caller has of two unlike messages with one digest. Assumes nothing.
use Rattle.std.proofs.Common.{◌≡◌, ℕ, List, Ok, Err, Result, refl, inl, inr, arith}
use Rattle.faults.specs.declared.grounds.TraceFault.{TraceFault}
use Rattle.faults.specs.declared.grounds.TraceFault.TheVariants.{Long, Equal, Differ}
use Rattle.cipher.specs.Meaning.{Meaning}
use Rattle.hash.specs.Digests.{digest}
use Rattle.trace.specs.Walk.{Within, Found, Traces}

module _ (m : Meaning) (x y : List ℕ) (few : Within x y) (unlike : x ≡ y → ⊥) (one : digest m x ≡ digest m y) where
  -- the trace is not refused
  pub not_refused : (f : TraceFault) → Traces m x y (Err f) → ⊥
  not_refused Long (inl h) = omega arith
  not_refused Long (inr h) = omega arith
  not_refused Equal t = unlike t.1
  not_refused Differ t = t.2 one

  -- it answers the collision
  pub answered : (r : Result (ℕ × ℕ) TraceFault) → Traces m x y r → (p : ℕ × ℕ) × (r ≡ Ok p) × Found m x y p.0 p.1
  answered (Ok p) t = (p, refl, t)
  answered (Err f) t = absurd (not_refused f t)
