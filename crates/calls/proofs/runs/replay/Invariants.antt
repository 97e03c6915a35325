use Rattle.std.proofs.Common.{take, vec_items}
use Rattle.calls.specs.Runs.{Ran}
use Rattle.calls.proofs.runs.replay.Given as goal

abbrev pub invariant-loop-c : goal.invariant-loop-c
invariant-loop-c g l = Ran g.C.Cipher.meaning l.initial.book.cipher (take l.c-index l.calls) l.book (vec_items l.out)
