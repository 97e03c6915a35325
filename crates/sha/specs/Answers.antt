-- What the calls answer. Assumes nothing.
use Rattle.std.specs.Prelude.{◌≡◌, ℕ, ◌<◌, ◌≤◌, List, length, Ok, Err, Result}
use Rattle.std.specs.Borrow.{Bor}
use Rattle.std.specs.List.{flat_map}
use Rattle.words.specs.Blocks.{held}
use Rattle.words.specs.declared.block.Block.{Block}
use Rattle.faults.specs.declared.grounds.MessageFault.{MessageFault}
use Rattle.faults.specs.declared.grounds.MessageFault.TheVariants.{Limit}
use Rattle.hash.specs.Messages.{limit}

-- parts hash to the standard's value of their join, and are refused exactly where that is over the limit
abbrev pub Sums : (List ℕ → List ℕ) → List (Bor (List ℕ)) → Result Block MessageFault → Type 0
Sums standard parts (Ok d) = (length (flat_map (λ x. x.now) parts) ≤ limit) × (held d ≡ standard (flat_map (λ x. x.now) parts))
Sums standard parts (Err f) = (f ≡ Limit) × (limit < length (flat_map (λ x. x.now) parts))
