-- What an exported hash leaves in the caller's digest. Assumes nothing.
use Rattle.std.specs.Prelude.{◌≡◌, ℕ, ◌<◌, ◌≤◌, Bool, true, false, List, length}
use Rattle.hash.specs.Messages.{limit}

-- the digest of the message, exactly where that is within the limit
abbrev pub Leaves : (List ℕ → List ℕ) → List ℕ → List ℕ → List ℕ → Bool → Type 0
Leaves standard msg old new true = (length msg ≤ limit) × (new ≡ standard msg)
Leaves standard msg old new false = (limit < length msg) × (new ≡ old)
