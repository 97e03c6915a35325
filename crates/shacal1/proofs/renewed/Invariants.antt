use Rattle.words.specs.Steps.{Rolled}
use Rattle.shacal1.specs.Shacal1.{fresh}
use Rattle.shacal1.proofs.renewed.Given as goal

abbrev pub invariant-loop-i : goal.invariant-loop-i
invariant-loop-i l = Rolled fresh l.w l.r l.i
