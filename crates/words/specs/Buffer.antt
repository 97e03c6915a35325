-- An answer written to the front of a buffer. Assumes nothing.
use Rattle.std.specs.Prelude.{◌≡◌, ℕ, ◌<◌, ◌≤◌, List, ◌++◌, length, drop, Ok, Err, Result}
use Rattle.faults.specs.declared.grounds.BufferFault.{BufferFault}
use Rattle.faults.specs.declared.grounds.BufferFault.TheVariants.{Short}

-- the bytes stand in front and what lies behind stays; refused exactly where the buffer is shorter, and then all stays
abbrev pub Fills : List ℕ → List ℕ → List ℕ → Result ℕ BufferFault → Type 0
Fills bs old new (Ok n) = (n ≡ length bs) × (n ≤ length old) × (new ≡ bs ++ drop n old)
Fills bs old new (Err f) = (f ≡ Short) × (length old < length bs) × (new ≡ old)
