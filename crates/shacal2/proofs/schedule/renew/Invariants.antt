use Rattle.std.proofs.Common.{◌≡◌, ℕ, List, length, take}
use Rattle.words.specs.Steps.{Rolled}
use Rattle.shacal2.specs.Shacal2.{fresh}
use Rattle.shacal2.proofs.schedule.renew.Given as goal

abbrev pub invariant-loop-i : goal.invariant-loop-i
invariant-loop-i l = ((k : List ℕ) → length k ≡ 16 → Rolled fresh k l.initial.r l.from → Rolled fresh k l.r l.i) × (take l.from l.r ≡ take l.from l.initial.r)
