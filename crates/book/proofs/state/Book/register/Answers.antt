use Rattle.std.proofs.Common.{ℕ, List, length, take, sym, ap, ◌∙◌, subst}
use Rattle.words.specs.Words.{bytes}
use Rattle.words.specs.Buffer.{Fills}
use Rattle.order_table.specs.Views.{lines_of}
use Rattle.ledger.proofs.Shown.{register_is}
use Rattle.book.proofs.Kept.{front_row}
use Rattle.book.proofs.Done.{fits}
use Rattle.book.proofs.state.Book.register.Goals as goal

pub returns : goal.returns
returns g c =
    let b = c.args.self.now in
    let m = g.C.Cipher.meaning b.cipher in
    let law = g.met.C.Cipher.lawful b.cipher in
    let P : List ℕ → Type 0 = λ ws. Fills (bytes ws) c.args.out.now c.put_words.new.out c.put_words.result in
    let row = front_row m law b.register b.row in
    let is = register_is m law b.name b.named b.base.hour b.timetable.bytes (take m.width b.register) row (lines_of b.table) (fits b) in
    record { fills = subst P (ap (λ n. take n b.register) c.width-width.ensures ∙ sym is) c.put_words.ensures; wide = ap length is ∙ row.long }
