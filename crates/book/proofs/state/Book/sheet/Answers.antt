use Rattle.std.proofs.Common.{ℕ, List, take, subst}
use Rattle.words.proofs.Bytes.{below_from}
use Rattle.words.specs.Buffer.{Fills}
use Rattle.order_table.specs.Views.{lines_of}
use Rattle.ledger.proofs.Shown.{is_sound}
use Rattle.book.proofs.Asked.{sheet_is}
use Rattle.book.proofs.Kept.{front_row}
use Rattle.book.proofs.Done.{fits, few}
use Rattle.book.proofs.state.Book.sheet.Goals as goal

pub returns : goal.returns
returns g c =
    let b = c.args.self.now in
    let m = g.C.Cipher.meaning b.cipher in
    let law = g.met.C.Cipher.lawful b.cipher in
    let r = take m.width b.register in
    let P : List ℕ → Type 0 = λ bs. Fills bs c.args.out.now c.write.new.out c.write.result in
    record {
      fills = subst P (sheet_is m b.name b.base.hour b.timetable.bytes r (lines_of b.table) _ c.in_force.ensures) c.write.ensures.fills;
      sound = is_sound m law b.name b.named b.base.hour b.timetable.bytes r (front_row m law b.register b.row) (lines_of b.table) (fits b)
          b.base.most (b.timetable.long, below_from 256 b.timetable.bytes b.timetable.fits) b.timetable.opens (few b);
    }
