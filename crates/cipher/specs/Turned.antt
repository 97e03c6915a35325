-- What a call answers and leaves in the block, where a block of another size is refused. Assumes nothing.
use Rattle.std.specs.Prelude.{ℕ, cond, List, length, Ok, Err, Result, ◌==◌}
use Rattle.faults.specs.declared.grounds.CipherFault.{CipherFault}
use Rattle.faults.specs.declared.grounds.CipherFault.TheVariants.{Block}

abbrev pub Answer : Type 0
Answer = Result (Unit {0}) CipherFault

-- the answer for a block of n words, or of any other size
abbrev pub told : ℕ → List ℕ → Answer
told n b = cond (length b == n) (Ok tt) (Err Block)

-- the block afterwards, where f is what is done to n words
abbrev pub turned : ℕ → (List ℕ → List ℕ) → List ℕ → List ℕ
turned n f b = cond (length b == n) (f b) b
