-- The calls of a book, what each does to the ledger and what it answers. Assumes nothing.
use Rattle.std.specs.Prelude.{ℕ, ◌*◌, Bool, true, false, not, List, [], ◌∷◌, ◌++◌, length, ◌==◌, nat_le, nat_lt}
use Rattle.std.proofs.Math.Option.{Option, none, some}
use Rattle.faults.specs.declared.grounds.BookFault.{BookFault}
use Rattle.faults.specs.declared.grounds.BookFault.TheVariants.{Cipher, Buffer, Timetable, Order, Begun, Full, NoDelay}
use Rattle.faults.specs.declared.grounds.CipherFault.TheVariants.{Block}
use Rattle.faults.specs.declared.grounds.BufferFault.TheVariants.{Short}
use Rattle.faults.specs.declared.grounds.TimetableFault.TheVariants.{Base, Closed}
use Rattle.faults.specs.declared.grounds.OrderFault.TheVariants.{Letter, Amount}
use Rattle.words.specs.Words.{bytes}
use Rattle.cipher.specs.Meaning.{Meaning}
use Rattle.timetable.specs.Hours.{ever_open}
use Rattle.order.specs.Orders.{lettered, ranged}
use Rattle.order_table.specs.Lines.{Line, first, undo_fault, marked, pick}
use Rattle.ledger.specs.Ledgers.{Given, Ledger, register, code, opening, sheet, seal}

-- the number behind a question is the length of the buffer offered
pub data Call : Type 0 where
  set_up : Given → Call
  enter : ℕ → ℕ → Call
  undo : ℕ → Call
  relieve : Call
  ask_opening : Call
  ask_register : ℕ → Call
  ask_code : Call
  ask_sheet : ℕ → Call
  ask_seal : ℕ → Call

pub data Answer : Type 0 where
  done : Answer
  number : ℕ → ℕ → Answer
  hour : ℕ → Answer
  figure : ℕ → Answer
  written : List ℕ → Answer
  refused : BookFault → Answer

abbrev pub Refused : Answer → Type 0
Refused done = ⊥
Refused (number n h) = ⊥
Refused (hour h) = ⊥
Refused (figure n) = ⊥
Refused (written bs) = ⊥
Refused (refused f) = Unit {0}

abbrev pub empty : List Line → Bool
empty [] = true
empty (l ∷ ls) = false

-- a buffer that is shorter than the answer
abbrev pub room_fault : ℕ → ℕ → Option BookFault
room_fault room n = first ((nat_lt room n, Buffer Short) ∷ [])

-- the first check that fails
unfoldable pub ground : Meaning → Call → Ledger → Option BookFault
ground m (set_up g) l =
    first ((not (length g.start == m.width), Cipher Block) ∷ (nat_lt 1000000 g.base, Timetable (Base 0)) ∷ (not (ever_open g.table), Timetable (Closed 0)) ∷ (not (empty l.lines), Begun) ∷ [])
ground m (enter c a) l = first ((not (lettered c), Order (Letter 0)) ∷ (not (ranged c a), Order (Amount 0)) ∷ (nat_le 64 (length l.lines), Full) ∷ [])
ground m (undo n) l = undo_fault l.lines n
ground m relieve l = first (((pick l.lines == 0), NoDelay) ∷ [])
ground m ask_opening l = none
ground m (ask_register room) l = room_fault room (4 * m.width)
ground m ask_code l = none
ground m (ask_sheet room) l = room_fault room (length (sheet l))
ground m (ask_seal room) l = room_fault room (4 * m.width)

-- the ledger after a call that is granted
unfoldable pub change : Call → Ledger → Ledger
change (set_up g) l = record { given = g; lines = l.lines }
change (enter c a) l = record { given = l.given; lines = l.lines ++ (record { order = record { letter = c; amount = a }; undone = false }) ∷ [] }
change (undo n) l = record { given = l.given; lines = marked l.lines n }
change relieve l = record { given = l.given; lines = marked l.lines (pick l.lines) }
change ask_opening l = l
change (ask_register room) l = l
change ask_code l = l
change (ask_sheet room) l = l
change (ask_seal room) l = l

-- what a call that is granted answers, from the ledger after it; the number is the line's
unfoldable pub reply : Meaning → Call → Ledger → Ledger → Answer
reply m (set_up g) l after = done
reply m (enter c a) l after = number (length after.lines) (opening after)
reply m (undo n) l after = hour (opening after)
reply m relieve l after = number (pick l.lines) (opening after)
reply m ask_opening l after = hour (opening after)
reply m (ask_register room) l after = written (bytes (register m after))
reply m ask_code l after = figure (code m after)
reply m (ask_sheet room) l after = written (sheet after)
reply m (ask_seal room) l after = written (bytes (seal m after))

-- a call that no check stops is granted; any other is refused on the first that does, and changes nothing
unfoldable pub after : Meaning → Call → Ledger → Ledger
after m c l = elim (ground m c l) [ none ↦ change c l | some f ↦ l ]

unfoldable pub answer : Meaning → Call → Ledger → Answer
answer m c l = elim (ground m c l) [ none ↦ reply m c l (change c l) | some f ↦ refused f ]

unfoldable pub after_all : Meaning → List Call → Ledger → Ledger
after_all m [] l = l
after_all m (c ∷ cs) l = after_all m cs (after m c l)

unfoldable pub answers : Meaning → List Call → Ledger → List Answer
answers m [] l = []
answers m (c ∷ cs) l = answer m c l ∷ answers m cs (after m c l)
