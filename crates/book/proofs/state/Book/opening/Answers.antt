use Rattle.std.proofs.Common.{take, ◌∙◌}
use Rattle.order_table.specs.Views.{lines_of}
use Rattle.book.proofs.Asked.{opening_is}
use Rattle.book.proofs.state.Book.opening.Goals as goal

pub returns : goal.returns
returns g c =
    let b = c.args.self.now in
    let m = g.C.Cipher.meaning b.cipher in
    record {
      value = c.opening.ensures.value ∙ opening_is m b.name b.base.hour b.timetable.bytes (take m.width b.register) (lines_of b.table) _ c.in_force.ensures;
      bound = c.opening.ensures.bound;
    }
