-- Calls granted and refused. Assumes nothing.
use Rattle.std.proofs.Common.{◌≡◌, ℕ, ◌<◌, ◌≤◌, true, false, not, eqb, List, [], ◌∷◌, length, Err, sym, refl, ap, ◌∙◌, arith}
use mathlib.Core.Option.{Option, none, some}
use Rattle.std.proofs.lemmas.Bool.{not-true, and_parts}
use Rattle.std.proofs.lemmas.Bool.Decides.{nat_tests as tests}
use Rattle.faults.specs.declared.grounds.BookFault.{BookFault}
use Rattle.faults.specs.declared.grounds.BookFault.TheVariants.{Cipher, Buffer, Timetable, Order, Begun, Full, NoDelay}
use Rattle.faults.specs.declared.grounds.CipherFault.TheVariants.{Block}
use Rattle.faults.specs.declared.grounds.BufferFault.TheVariants.{Short}
use Rattle.faults.specs.declared.grounds.TimetableFault.TheVariants.{Base, Closed}
use Rattle.faults.specs.declared.grounds.OrderFault.{OrderFault}
use Rattle.faults.specs.declared.grounds.OrderFault.TheVariants.{Letter, Amount}
use Rattle.cipher.specs.Meaning.{Meaning}
use Rattle.timetable.specs.Hours.{ever_open}
use Rattle.order.specs.Orders.{lettered, ranged, delay}
use Rattle.order.specs.Views.{Makes}
use Rattle.order_table.specs.Lines.{Line, Longest, undo_fault, pick}
use Rattle.ledger.specs.Ledgers.{Given, Ledger}
use Rattle.ledger.specs.Calls.{Call, set_up, enter, undo, relieve, refused, empty, room_fault, ground, change, reply, after, answer}

pub granted : (m : Meaning) (c : Call) (l : Ledger) → ground m c l ≡ none → (after m c l ≡ change c l) × (answer m c l ≡ reply m c l (change c l))
unfolding after answer
granted m c l e = (rw (e, after), rw (e, answer))

pub refusal : (m : Meaning) (c : Call) (l : Ledger) (f : BookFault) → ground m c l ≡ some f → (after m c l ≡ l) × (answer m c l ≡ refused f)
unfolding after answer
refusal m c l f e = (rw (e, after), rw (e, answer))

-- ---- the grounds of set-up, in their sequence

pub start_refused : (m : Meaning) (g : Given) (l : Ledger) → (length g.start ≡ m.width → ⊥) → ground m (set_up g) l ≡ some (Cipher Block)
unfolding ground
start_refused m g l h = grind (arith, tests)

pub base_refused : (m : Meaning) (g : Given) (l : Ledger) → length g.start ≡ m.width → 1000000 < g.base → ground m (set_up g) l ≡ some (Timetable (Base 0))
unfolding ground
base_refused m g l e h = grind (arith, tests)

pub table_refused : (m : Meaning) (g : Given) (l : Ledger) → length g.start ≡ m.width → g.base ≤ 1000000 → ever_open g.table ≡ false → ground m (set_up g) l ≡ some (Timetable (Closed 0))
unfolding ground
table_refused m g l e b o = grind (arith, tests)

empty_not : (ls : List Line) → 0 < length ls → empty ls ≡ false
empty_not [] h = absurd (omega arith)
empty_not (l ∷ ls) h = refl

empty_is : (ls : List Line) → length ls ≡ 0 → empty ls ≡ true
empty_is [] h = refl
empty_is (l ∷ ls) h = absurd (omega arith)

pub begun_refused : (m : Meaning) (g : Given) (l : Ledger) → length g.start ≡ m.width → g.base ≤ 1000000 → ever_open g.table ≡ true → 0 < length l.lines → ground m (set_up g) l ≡ some Begun
unfolding ground
begun_refused m g l e b o h = let z = empty_not l.lines h in grind (arith, tests)

pub set_up_granted : (m : Meaning) (g : Given) (l : Ledger) → length g.start ≡ m.width → g.base ≤ 1000000 → ever_open g.table ≡ true → length l.lines ≡ 0 → ground m (set_up g) l ≡ none
unfolding ground
set_up_granted m g l e b o h = let z = empty_is l.lines h in grind (arith, tests)

-- ---- of enter

pub letter_refused : (m : Meaning) (c a : ℕ) (l : Ledger) → lettered c ≡ false → ground m (enter c a) l ≡ some (Order (Letter 0))
unfolding ground
letter_refused m c a l e = rw e

pub amount_refused : (m : Meaning) (c a : ℕ) (l : Ledger) → lettered c ≡ true → ranged c a ≡ false → ground m (enter c a) l ≡ some (Order (Amount 0))
unfolding ground
amount_refused m c a l e r = rw e (rw r)

pub full_refused : (m : Meaning) (c a : ℕ) (l : Ledger) → lettered c ≡ true → ranged c a ≡ true → 64 ≤ length l.lines → ground m (enter c a) l ≡ some Full
unfolding ground
full_refused m c a l e r h = rw e (rw r (grind (arith, tests)))

pub enter_granted : (m : Meaning) (c a : ℕ) (l : Ledger) → lettered c ≡ true → ranged c a ≡ true → length l.lines < 64 → ground m (enter c a) l ≡ none
unfolding ground
enter_granted m c a l e r h = rw e (rw r (grind (arith, tests)))

-- ---- of undo and relieve

pub undo_ground : (m : Meaning) (n : ℕ) (l : Ledger) (o : Option BookFault) → undo_fault l.lines n ≡ o → ground m (undo n) l ≡ o
unfolding ground
undo_ground m n l o e = e

pub relieve_refused : (m : Meaning) (l : Ledger) → pick l.lines ≡ 0 → ground m relieve l ≡ some NoDelay
unfolding ground
relieve_refused m l e = rw e

pub relieve_granted : (m : Meaning) (l : Ledger) → 1 ≤ pick l.lines → ground m relieve l ≡ none
unfolding ground
relieve_granted m l h = grind (arith, tests)

-- ---- of the questions

pub room_short : (room n : ℕ) → room < n → room_fault room n ≡ some (Buffer Short)
room_short room n h = grind (arith, tests)

pub room_enough : (room n : ℕ) → n ≤ room → room_fault room n ≡ none
room_enough room n h = grind (arith, tests)

-- an order that cannot be made is refused on the same ground
pub order_refused : (m : Meaning) (c a : ℕ) (l : Ledger) (f : OrderFault) → Makes 0 0 c a (Err f) → ground m (enter c a) l ≡ some (Order f)
order_refused m c a l (Letter at) h = letter_refused m c a l h.1 ∙ ap (λ p. some (Order (Letter p))) (sym h.0)
order_refused m c a l (Amount at) h = amount_refused m c a l h.1 h.2 ∙ ap (λ p. some (Order (Amount p))) (sym h.0)

-- the longest delay in force can be undone
pub longest_stands : (ls : List Line) (n : ℕ) (l : Line) → Longest ls n l → undo_fault ls n ≡ none
longest_stands ls n l h =
    let u : l.undone ≡ false = not-true l.undone (and_parts (not l.undone) (eqb l.order.letter delay) h.is_delay).0 in
    rw h.here (rw u)
