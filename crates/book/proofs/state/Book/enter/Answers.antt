use Rattle.std.proofs.Common.{length, take, refl, ap, ◌∙◌, arith}
use Rattle.std.proofs.lemmas.Result.{err_from_is_err_and}
use Rattle.order.specs.Views as orders
use Rattle.order.proofs.Openings.{in_range}
use Rattle.order_table.specs.Views.{lines_of}
use Rattle.ledger.specs.Calls.{enter, change}
use Rattle.ledger.proofs.Granted.{order_refused, full_refused, enter_granted}
use Rattle.ledger.proofs.Changed.{enters, enter_replies}
use Rattle.book.specs.Told.{told}
use Rattle.book.proofs.Kept.{front_row, turned_keeps}
use Rattle.book.proofs.Done.{refuses, grants, told_lines, same_table}
use Rattle.book.proofs.state.Book.enter.Goals as goal

pub returns-in_err-order : goal.returns-in_err-order
returns-in_err-order g c =
    let p = err_from_is_err_and c.from_residual.result c.from_residual.ensures.1 in
    refuses _ _ _ _ _ _ (order_refused _ _ _ _ _ c.in_err-order.ensures) (rw (p.1, p.2)) refl

pub returns-in_err-number : goal.returns-in_err-number
returns-in_err-number g c =
    let b = c.args.self.now in
    let m = g.C.Cipher.meaning b.cipher in
    let p = err_from_is_err_and c.from_residual-in_err-number.result c.from_residual-in_err-number.ensures.1 in
    let made = c.in_ok-order.ensures in
    let full = c.in_err-number.ensures in
    refuses _ _ _ _ _ _ (full_refused m _ _ _ made.1 made.2 (omega (arith, ap length (told_lines m b), full.1))) (rw (p.1, p.2, full.0)) (same_table b _ _ _ full.2)

pub returns : goal.returns
returns g c =
    let b = c.args.self.now in
    let m = g.C.Cipher.meaning b.cipher in
    let law = g.met.C.Cipher.lawful b.cipher in
    let made = c.in_ok-order.ensures in
    let put = c.in_ok-number.ensures in
    let on = c.turn_on.ensures in
    let o = c.in_ok-order.order in
    let long = ap length (told_lines m b) in
    let after = enters m law b.name b.named b.base.hour b.timetable.bytes (take m.width b.register) (front_row m law b.register b.row) (lines_of b.table) _ (orders.view o) _ (in_range o, tt) put.2 on.turns
    ∙ ap (λ x. change (enter x.letter x.amount) (told m b)) made.0 in
    grants _ _ _ _ _ (enter_granted m _ _ _ made.1 made.2 (omega (arith, long, put.0))) refl
    after
    (enter_replies m c.args.letter c.args.amount _ _ (told m b) _ after (omega (arith, long, put.1)) c.opening.ensures.value)
    (λ r. r)

pub invariant_of-self-2 : goal.invariant_of-self-2
invariant_of-self-2 g c =
    let b = c.args.self.now in
    let law = g.met.C.Cipher.lawful b.cipher in
    let on = c.turn_on.ensures in
    record {
      named = b.named;
      row = turned_keeps _ law b.name b.named b.register c.turn_on.new.register b.row _ (in_range c.in_ok-order.order, tt) on.rest on.turns;
    }
