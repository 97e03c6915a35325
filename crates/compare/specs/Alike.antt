-- What holds of any two books, by their ledgers. Assumes nothing.
use Rattle.std.specs.Prelude.{◌≡◌, ℕ, ◌≢◌}
use Rattle.cipher.specs.Meaning.{Meaning, Same}
use Rattle.ledger.specs.Ledgers.{Ledger, in_force, register, code, opening, sheet, seal}
use Rattle.trace.specs.Walk.{Collides}

-- the five that two books show
pub record Five (m n : Meaning) (l k : Ledger) : Type 0 where
  pub register_same : register m l ≡ register n k
  pub code_same : code m l ≡ code n k
  pub opening_same : opening l ≡ opening k
  pub sheet_same : sheet l ≡ sheet k
  pub seal_same : seal m l ≡ seal n k

-- over ciphers that are one, set up alike, the same orders in force in the same sequence show the same five
abbrev pub NothingLeftBehind : Meaning → Meaning → Ledger → Ledger → Type 0
NothingLeftBehind m n l k = Same m n → l.given ≡ k.given → in_force l ≡ in_force k → Five m n l k

-- over ciphers that are one, unlike orders in force, be it in sequence only, share a seal only where the step collides,
-- at blocks i and j of the two sheets that have the property P. It holds of books that are set up alike and of others
abbrev pub SharedSealCollides : Meaning → Meaning → Ledger → Ledger → (ℕ → ℕ → Type 0) → Type 0
SharedSealCollides m n l k P =
    Same m n → (in_force l ≢ in_force k) → seal m l ≡ seal n k → (i : ℕ) × (j : ℕ) × P i j × Collides m (sheet l) (sheet k) i j
