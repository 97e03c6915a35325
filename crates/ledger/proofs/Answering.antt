-- What a question that writes to a buffer answers. Assumes nothing.
use Rattle.std.proofs.Common.{◌≡◌, ℕ, ◌*◌, ◌<◌, ◌≤◌, min, List, ◌++◌, length, take, drop, Ok, Err, sym, refl, ap, ◌∙◌, append_assoc, arith}
use mathlib.Core.Option.{Option, none, some}
use Rattle.std.proofs.lemmas.List.{take_at}
use Rattle.faults.specs.declared.grounds.BufferFault.{BufferFault}
use Rattle.faults.specs.declared.grounds.BookFault.{BookFault}
use Rattle.faults.specs.declared.grounds.BookFault.TheVariants.{Buffer}
use Rattle.words.specs.Words.{bytes}
use Rattle.words.specs.Buffer.{Fills}
use Rattle.words.proofs.Crossed.{length_bytes}
use Rattle.cipher.specs.Meaning.{Meaning}
use Rattle.sheet.proofs.Written.{length_sheet}
use Rattle.order_table.proofs.Lined.{orders_few}
use Rattle.ledger.specs.Ledgers.{Ledger, Sound, in_force, register, code, opening, sheet, seal}
use Rattle.ledger.specs.Calls.{Call, ask_opening, ask_code, ask_register, ask_sheet, ask_seal, hour, figure, written, refused, room_fault, ground, change, reply, after, answer}
use Rattle.ledger.proofs.Granted.{granted, refusal, room_short, room_enough}

-- a question about the bytes bs, to which a room is offered; no more of it is looked at than the longest answer takes
pub record Asks (m : Meaning) (call : Call) (l : Ledger) (room : ℕ) (bs : List ℕ) : Type 0 where
  pub checks : ground m call l ≡ room_fault room (length bs)
  pub replies : reply m call l (change call l) ≡ written bs
  pub fits : length bs ≤ 357

module _ (m : Meaning) (call : Call) (l : Ledger) (room : ℕ) (bs : List ℕ) (asks : Asks m call l room bs) (old new : List ℕ) (end : ℕ) (cut : end ≡ min room 357) (long : length old ≡ end) where
  pub answers_bytes : (n : ℕ) (behind : List ℕ) → Fills bs old new (Ok n) → written (take n (new ++ behind)) ≡ answer m call l
  answers_bytes n behind f =
      let enough : length bs ≤ room = omega (arith, f.0, f.1) in
      let g = granted m call l (asks.checks ∙ room_enough room (length bs) enough) in
      let front : take n (new ++ behind) ≡ bs = ap (λ xs. take n (xs ++ behind)) f.2 ∙ ap (take n) (append_assoc bs (drop n old) behind) ∙ take_at bs (drop n old ++ behind) n (sym f.0) in
      ap written front ∙ sym asks.replies ∙ sym g.1

  pub answers_short : (fault : BufferFault) → Fills bs old new (Err fault) → refused (Buffer fault) ≡ answer m call l
  answers_short fault f =
      let short : room < length bs = omega (arith, f.1, asks.fits) in
      let r = refusal m call l _ (asks.checks ∙ room_short room (length bs) short) in
      ap (λ e. refused (Buffer e)) f.0 ∙ sym r.1

-- ---- the three questions

pub asks_register : (m : Meaning) (l : Ledger) (room : ℕ) → m.width ≤ 8 → length (register m l) ≡ m.width → Asks m (ask_register room) l room (bytes (register m l))
unfolding ground change reply
asks_register m l room most wide =
    let e : length (bytes (register m l)) ≡ 4 * m.width = length_bytes (register m l) ∙ ap (λ n. 4 * n) wide in
    record { checks = ap (room_fault room) (sym e); replies = refl; fits = omega arith }

pub asks_seal : (m : Meaning) (l : Ledger) (room : ℕ) → m.width ≤ 8 → length (seal m l) ≡ m.width → Asks m (ask_seal room) l room (bytes (seal m l))
unfolding ground change reply
asks_seal m l room most wide =
    let e : length (bytes (seal m l)) ≡ 4 * m.width = length_bytes (seal m l) ∙ ap (λ n. 4 * n) wide in
    record { checks = ap (room_fault room) (sym e); replies = refl; fits = omega arith }

-- no sheet is longer than 357 bytes
pub sheet_most : (m : Meaning) (l : Ledger) → Sound m l → length (sheet l) ≤ 357
unfolding sheet
sheet_most m l s = omega (arith, length_sheet l.given.name l.given.base l.given.table (in_force l), s.named.long, s.tabled.0, s.few, orders_few l.lines)

pub asks_sheet : (m : Meaning) (l : Ledger) (room : ℕ) → Sound m l → Asks m (ask_sheet room) l room (sheet l)
unfolding ground change reply
asks_sheet m l room s = record { checks = refl; replies = refl; fits = sheet_most m l s }

-- ---- a question changes nothing

stays : (m : Meaning) (call : Call) (l : Ledger) → change call l ≡ l → after m call l ≡ l
unfolding after
stays m call l e = go (ground m call l)
  where
    go : (o : Option BookFault) → elim o as (λ _. Ledger) [ none ↦ change call l | some f ↦ l ] ≡ l
    go none = e
    go (some f) = refl

pub opening_stays : (m : Meaning) (l : Ledger) → after m ask_opening l ≡ l
unfolding change
opening_stays m l = stays m ask_opening l refl

pub code_stays : (m : Meaning) (l : Ledger) → after m ask_code l ≡ l
unfolding change
code_stays m l = stays m ask_code l refl

pub register_stays : (m : Meaning) (room : ℕ) (l : Ledger) → after m (ask_register room) l ≡ l
unfolding change
register_stays m room l = stays m (ask_register room) l refl

pub sheet_stays : (m : Meaning) (room : ℕ) (l : Ledger) → after m (ask_sheet room) l ≡ l
unfolding change
sheet_stays m room l = stays m (ask_sheet room) l refl

pub seal_stays : (m : Meaning) (room : ℕ) (l : Ledger) → after m (ask_seal room) l ≡ l
unfolding change
seal_stays m room l = stays m (ask_seal room) l refl

pub opening_answers : (m : Meaning) (l : Ledger) (h : ℕ) → h ≡ opening l → hour h ≡ answer m ask_opening l
unfolding answer ground change reply
opening_answers m l h e = ap hour e

pub code_answers : (m : Meaning) (l : Ledger) (n : ℕ) → n ≡ code m l → figure n ≡ answer m ask_code l
unfolding answer ground change reply
code_answers m l n e = ap figure e
