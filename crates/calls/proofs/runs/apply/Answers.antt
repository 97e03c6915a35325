use Rattle.std.proofs.Common.{◌≡◌, length, ap, ◌∙◌, rules}
use Rattle.words.specs.Words.{bytes}
use Rattle.words.specs.Buffer.{Fills}
use Rattle.ledger.specs.Ledgers.{Sound, register, sheet, seal}
use Rattle.ledger.specs.Calls.{ask_register, ask_sheet, ask_seal}
use Rattle.ledger.proofs.Answering.{opening_stays, code_stays, register_stays, sheet_stays, seal_stays, opening_answers, code_answers, asks_register, asks_sheet, asks_seal}
use Rattle.book.specs.Told.{told}
use Rattle.calls.specs.Runs.{asked}
use Rattle.calls.proofs.Filled.{answers_room}
use Rattle.calls.proofs.Running.{asks}
use Rattle.calls.proofs.runs.apply.Goals as goal

pub returns-in-Opening : goal.returns-in-Opening
returns-in-Opening g c =
    let b = c.args.book.now in
    let m = g.C.Cipher.meaning b.cipher in
    asks g.C.Cipher.meaning b c.args.call _ _ (ap asked c.in-Opening.is) (opening_stays m) (opening_answers m (told m b) _ c.opening.ensures.value)

pub returns-in-Register : goal.returns-in-Register
returns-in-Register g c =
    let b = c.args.book.now in
    let m = g.C.Cipher.meaning b.cipher in
    let law = g.met.C.Cipher.lawful b.cipher in
    let w = c.ask.ensures in
    let back = w.returned.met in
    let wide : length (register m (told m b)) ≡ m.width = search rules in
    let fills : Fills (bytes (register m (told m b))) w.old w.new w.back = search rules in
    asks g.C.Cipher.meaning b c.args.call _ _ (ap asked c.in-Register.is) (register_stays _ _)
    (w.answer ∙ answers_room m (ask_register c.in-Register.room) (told m b) c.in-Register.room _ (asks_register m (told m b) c.in-Register.room law.most wide) w.old w.new w.behind w.back w.long fills)

pub returns-in-Code : goal.returns-in-Code
returns-in-Code g c =
    let b = c.args.book.now in
    let m = g.C.Cipher.meaning b.cipher in
    asks g.C.Cipher.meaning b c.args.call _ _ (ap asked c.in-Code.is) (code_stays m) (code_answers m (told m b) _ c.code.ensures.value)

pub returns-in-Sheet : goal.returns-in-Sheet
returns-in-Sheet g c =
    let b = c.args.book.now in
    let m = g.C.Cipher.meaning b.cipher in
    let w = c.ask-in-Sheet.ensures in
    let back = w.returned.met in
    let sound : Sound m (told m b) = search rules in
    let fills : Fills (sheet (told m b)) w.old w.new w.back = search rules in
    asks g.C.Cipher.meaning b c.args.call _ _ (ap asked c.in-Sheet.is) (sheet_stays _ _)
    (w.answer ∙ answers_room m (ask_sheet c.in-Sheet.room) (told m b) c.in-Sheet.room _ (asks_sheet m (told m b) c.in-Sheet.room sound) w.old w.new w.behind w.back w.long fills)

pub returns-in-Seal : goal.returns-in-Seal
returns-in-Seal g c =
    let b = c.args.book.now in
    let m = g.C.Cipher.meaning b.cipher in
    let law = g.met.C.Cipher.lawful b.cipher in
    let w = c.ask-in-Seal.ensures in
    let back = w.returned.met in
    let wide : length (seal m (told m b)) ≡ m.width = search rules in
    let fills : Fills (bytes (seal m (told m b))) w.old w.new w.back = search rules in
    asks g.C.Cipher.meaning b c.args.call _ _ (ap asked c.in-Seal.is) (seal_stays _ _)
    (w.answer ∙ answers_room m (ask_seal c.in-Seal.room) (told m b) c.in-Seal.room _ (asks_seal m (told m b) c.in-Seal.room law.most wide) w.old w.new w.behind w.back w.long fills)
