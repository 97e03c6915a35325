use Rattle.std.proofs.Common.{◌≡◌, take, refl, ap, ◌∙◌}
use Rattle.std.proofs.lemmas.Result.{err_from_is_err_and}
use Rattle.order.specs.Views as orders
use Rattle.order.specs.Views.{listed}
use Rattle.order.proofs.Openings.{in_range, all_in_range}
use Rattle.order_table.specs.Views.{lines_of}
use Rattle.turning.specs.Turned.{turned, back}
use Rattle.ledger.specs.Told.{tells}
use Rattle.ledger.proofs.Granted.{undo_ground}
use Rattle.ledger.proofs.Changed.{undoes, undo_replies}
use Rattle.book.specs.Told.{told}
use Rattle.book.proofs.Kept.{front_row, turned_keeps, back_keeps}
use Rattle.book.proofs.Done.{refuses, grants, fits, same_table}
use Rattle.book.proofs.state.Book.undo.Goals as goal

pub returns-in_err-order : goal.returns-in_err-order
unfolding tells
returns-in_err-order g c =
    let b = c.args.self.now in
    let p = err_from_is_err_and c.from_residual.result c.from_residual.ensures.1 in
    let kept = c.in_err-order.ensures in
    refuses _ _ _ _ _ _ (undo_ground _ _ _ _ kept.0) (rw (p.1, p.2)) (same_table b _ _ _ kept.1)

pub returns : goal.returns
unfolding tells
returns g c =
    let b = c.args.self.now in
    let m = g.C.Cipher.meaning b.cipher in
    let law = g.met.C.Cipher.lawful b.cipher in
    let did = c.in_ok-order.ensures in
    let o = orders.view c.in_ok-order.order in
    let later = listed c.in_ok-order.later in
    let r = take m.width b.register in
    let s = take m.width c.turn_back.new.register in
    let t = take m.width c.turn_back-2.new.register in
    let u = take m.width c.turn_on.new.register in
    let first : s ≡ back m b.name r later = c.turn_back.ensures.turns ∙ ap (back m b.name r) c.as_slice.ensures.value in
    let last : u ≡ turned m b.name t later = c.turn_on.ensures.turns ∙ ap (turned m b.name t) c.as_slice-2.ensures.value in
    let after = undoes m law b.name b.named b.base.hour b.timetable.bytes r (front_row m law b.register b.row) (lines_of b.table) _ c.args.number o later s t u (fits b) did.1 did.3 first c.turn_back-2.ensures.turns last in
    grants _ _ _ _ _ (undo_ground m _ _ _ did.0) refl
    after
    (undo_replies m c.args.number _ (told m b) _ after c.opening.ensures.value)
    (λ r. r)

pub invariant_of-self-2 : goal.invariant_of-self-2
invariant_of-self-2 g c =
    let b = c.args.self.now in
    let m = g.C.Cipher.meaning b.cipher in
    let law = g.met.C.Cipher.lawful b.cipher in
    let r = b.register in
    let s = c.turn_back.new.register in
    let t = c.turn_back-2.new.register in
    let u = c.turn_on.new.register in
    let first = back_keeps m law b.name b.named r s b.row _ (all_in_range c.as_slice.result.now) c.turn_back.ensures.rest c.turn_back.ensures.turns in
    let second = back_keeps m law b.name b.named s t first _ (in_range c.in_ok-order.order, tt) c.turn_back-2.ensures.rest c.turn_back-2.ensures.turns in
    record {
      named = b.named;
      row = turned_keeps m law b.name b.named t u second _ (all_in_range c.as_slice-2.result.now) c.turn_on.ensures.rest c.turn_on.ensures.turns;
    }
