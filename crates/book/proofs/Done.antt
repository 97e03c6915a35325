-- What a call that is granted or refused has to show. Assumes nothing.
use Rattle.std.proofs.Common.{◌≡◌, ℕ, ◌≤◌, length, take, sym, refl, ap, ◌∙◌, arith}
use mathlib.Core.Option.{none, some}
use Rattle.std.proofs.lemmas.List.{length-map, length-take-le}
use Rattle.faults.specs.declared.grounds.BookFault.{BookFault}
use Rattle.words.specs.Words.{Row}
use Rattle.cipher.specs.Meaning.{Meaning}
use Rattle.order_table.specs.Lines.{Line, LinesInRange, Longest, pick}
use Rattle.order_table.specs.Views.{view, lines_of}
use Rattle.order_table.specs.declared.line.Table.{Table}
use Rattle.order_table.proofs.Lined.{lines_in_range}
use Rattle.turning.specs.Turned.{Name}
use Rattle.ledger.specs.Ledgers.{Ledger, opening}
use Rattle.ledger.specs.Calls.{Call, Answer, undo, relieve, number, hour, refused, Refused, ground, change, reply}
use Rattle.ledger.specs.Told.{tells}
use Rattle.ledger.proofs.Granted.{granted, refusal, undo_ground, relieve_granted, longest_stands}
use Rattle.ledger.proofs.Changed.{relieves, relieve_replies}
use Rattle.book.specs.Single.{name_prop, row_prop}
use Rattle.book.specs.Told.{told, Does}
use Rattle.book.specs.declared.state.Book.{Book}

module _ {C : Type 0} (meaning : C → Meaning) (call : Call) (old new : Book C) (a : Answer) where
  pub refuses : (f : BookFault) → ground (meaning old.cipher) call (told (meaning old.cipher) old) ≡ some f → a ≡ refused f → new ≡ old → Does meaning call old new a
  refuses f g e s =
      let p = refusal (meaning old.cipher) call (told (meaning old.cipher) old) f g in
      record {
        same = ap (λ (b : Book C). b.cipher) s;
        answers = e ∙ sym p.1;
        ledger = ap (told (meaning old.cipher)) s ∙ sym p.0;
        kept = λ _. s;
      }

  pub grants : ground (meaning old.cipher) call (told (meaning old.cipher) old) ≡ none → new.cipher ≡ old.cipher → told (meaning old.cipher) new ≡ change call (told (meaning old.cipher) old) → a ≡ reply (meaning old.cipher) call (told (meaning old.cipher) old) (change call (told (meaning old.cipher) old)) → (Refused a → ⊥) → Does meaning call old new a
  grants g s t e f =
      let p = granted (meaning old.cipher) call (told (meaning old.cipher) old) g in
      record {
        same = s;
        answers = e ∙ sym p.1;
        ledger = t ∙ sym p.0;
        kept = λ r. absurd (f r);
      }

-- the lines of a ledger that is told are the table's
pub told_lines : {C : Type 0} (m : Meaning) (b : Book C) → (told m b).lines ≡ lines_of b.table
unfolding tells
told_lines m b = refl

pub fits : {C : Type 0} (b : Book C) → LinesInRange (lines_of b.table)
fits b = lines_in_range (take b.table.count b.table.lines)

pub few : {C : Type 0} (b : Book C) → length (lines_of b.table) ≤ 64
few b = let l = length-map (take b.table.count b.table.lines) view in let k = length-take-le b.table.count b.table.lines (omega arith) in omega arith

-- a book whose table came back as it was, whatever shows what it keeps
pub same_table : {C : Type 0} (b : Book C) (t : Table) (n : Name b.name) (r : Row 8 b.register) → t ≡ b.table → record { cipher = b.cipher; name = b.name; base = b.base; timetable = b.timetable; register = b.register; table = t; named = n; row = r } ≡ b
same_table b t n r e =
    λ i. record {
      cipher = b.cipher;
      name = b.name;
      base = b.base;
      timetable = b.timetable;
      register = b.register;
      table = e i;
      named = name_prop b.name n b.named i;
      row = row_prop 8 b.register r b.row i;
    }

-- relieve is an undo of the longest delay in force, which is never refused
module _ {C : Type 0} (meaning : C → Meaning) (old new : Book C) (n : ℕ) (l : Line) (is : n ≡ pick (lines_of old.table)) (some_line : 1 ≤ n) (longest : Longest (lines_of old.table) n l) where
  abbrev m : Meaning
  m = meaning old.cipher

  abbrev book : Ledger
  book = told m old

  stands : ground m (undo n) book ≡ none
  unfolding tells
  stands = undo_ground m n book none (longest_stands (lines_of old.table) n l longest)

  picked : n ≡ pick book.lines
  unfolding tells
  picked = is

  pub relieves_so : (h : ℕ) → Does meaning (undo n) old new (hour h) → Does meaning relieve old new (number n h)
  relieves_so h did =
      let u = granted m (undo n) book stands in
      let k : ground m relieve book ≡ none = relieve_granted m book (omega (arith, picked)) in
      let e = relieves n book picked in
      grants meaning relieve old new (number n h) k did.same (did.ledger ∙ u.0 ∙ e)
      (relieve_replies m n h book (change relieve book) picked (did.answers ∙ u.1 ∙ ap (reply m (undo n) book) e))
      (λ f. f)

  pub never_refused : (f : BookFault) → Does meaning (undo n) old new (refused f) → ⊥
  unfolding reply
  never_refused f did =
      let u = granted m (undo n) book stands in
      let e : refused f ≡ hour (opening (change (undo n) book)) = did.answers ∙ u.1 in
      let z : ◌≡◌ {A = ℕ} 0 1 = cc in
      omega arith
