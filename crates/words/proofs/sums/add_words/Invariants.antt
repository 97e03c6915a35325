use Rattle.words.proofs.Summed.{Summed}
use Rattle.words.proofs.sums.add_words.Given as goal

abbrev pub invariant-loop-i : goal.invariant-loop-i
invariant-loop-i l = Summed l.initial.onto l.more l.onto l.i
