-- What the verdict on two books says. Assumes nothing.
use Rattle.std.specs.Prelude.{◌≡◌, ℕ, List, ◌≢◌}
use Rattle.cipher.specs.Meaning.{Meaning}
use Rattle.hash.specs.Digests.{digest}
use Rattle.ledger.specs.Ledgers.{Ledger, sheet, seal}
use Rattle.trace.specs.Walk.{Found}
use Rattle.compare.specs.declared.verdict.Verdict.{Verdict}
use Rattle.compare.specs.declared.verdict.Verdict.TheVariants.{SealsDiffer, SameSheet, Collision, CiphersDiffer}

abbrev pub collision : ℕ → ℕ → Verdict
collision i j = Collision i j

-- of two messages, traced by one cipher
abbrev pub Judges : Meaning → List ℕ → List ℕ → Verdict → Type 0
Judges m x y SealsDiffer = ⊥
Judges m x y SameSheet = x ≡ y
Judges m x y (Collision i j) = Found m x y i j
Judges m x y CiphersDiffer = (x ≢ y) × (digest m x ≢ digest m y)

-- of two books, each sealed by its own cipher and traced by the first
abbrev pub Compares : Meaning → Meaning → Ledger → Ledger → Verdict → Type 0
Compares m n l k SealsDiffer = seal m l ≡ seal n k → ⊥
Compares m n l k SameSheet = (seal m l ≡ seal n k) × (sheet l ≡ sheet k)
Compares m n l k (Collision i j) = (seal m l ≡ seal n k) × Found m (sheet l) (sheet k) i j
Compares m n l k CiphersDiffer = (seal m l ≡ seal n k) × (sheet l ≢ sheet k) × (digest m (sheet k) ≢ digest n (sheet k))
