use Rattle.std.proofs.Common.{◌≡◌, take}
use Rattle.words.specs.Words.{words}
use Rattle.words.proofs.crossing.read_words.Given as goal

abbrev pub invariant-loop-i : goal.invariant-loop-i
invariant-loop-i l = take l.i l.out ≡ take l.i (words l.bytes)
