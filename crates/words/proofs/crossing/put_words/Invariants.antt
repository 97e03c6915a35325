use Rattle.std.proofs.Common.{◌≡◌, ◌*◌, ◌++◌, take, drop}
use Rattle.words.specs.Words.{bytes}
use Rattle.words.proofs.crossing.put_words.Given as goal

abbrev pub invariant-loop-i : goal.invariant-loop-i
invariant-loop-i l = l.out ≡ bytes (take l.i l.words) ++ drop (4 * l.i) l.initial.out
