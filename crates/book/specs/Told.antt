-- The ledger that a book tells, and what a call on it does. Assumes nothing.
use Rattle.std.specs.Prelude.{◌≡◌, ℕ, List, take, Ok, Err, Result}
use Rattle.faults.specs.declared.grounds.BookFault.{BookFault}
use Rattle.faults.specs.declared.grounds.BookFault.TheVariants.{NoDelay}
use Rattle.cipher.specs.Meaning.{Meaning}
use Rattle.order_table.specs.Lines.{Line, Longest, NoneDelays}
use Rattle.order_table.specs.Views.{lines_of}
use Rattle.ledger.specs.Ledgers.{Ledger}
use Rattle.ledger.specs.Calls.{Call, Answer, done, number, hour, refused, Refused, after, answer}
use Rattle.ledger.specs.Told.{tells}
use Rattle.book.specs.declared.state.Book.{Book}

abbrev pub told : {C : Type 0} → Meaning → Book C → Ledger
told m b = tells m b.name b.base.hour b.timetable.bytes (take m.width b.register) (lines_of b.table)

-- results of the code as answers
abbrev pub set : Result (Unit {0}) BookFault → Answer
set (Ok u) = done
set (Err f) = refused f

abbrev pub entered : Result (ℕ × ℕ) BookFault → Answer
entered (Ok p) = number p.0 p.1
entered (Err f) = refused f

abbrev pub undone : Result ℕ BookFault → Answer
undone (Ok h) = hour h
undone (Err f) = refused f

-- a call on a book: the cipher stays, the answer and the change are the ledger's, and a refusal leaves all as it was
pub record Does {C : Type 0} (meaning : C → Meaning) (call : Call) (old new : Book C) (a : Answer) : Type 0 where
  pub same : new.cipher ≡ old.cipher
  pub answers : a ≡ answer (meaning old.cipher) call (told (meaning old.cipher) old)
  pub ledger : told (meaning old.cipher) new ≡ after (meaning old.cipher) call (told (meaning old.cipher) old)
  pub kept : Refused a → new ≡ old

-- the line that is relieved is the longest delay in force, of equals the latest
abbrev pub Relieves : List Line → Result (ℕ × ℕ) BookFault → Type 0
Relieves ls (Ok p) = (l : Line) × Longest ls p.0 l
Relieves ls (Err f) = (f ≡ NoDelay) × NoneDelays ls
