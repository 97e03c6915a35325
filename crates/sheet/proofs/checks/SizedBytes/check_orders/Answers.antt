use Rattle.std.proofs.Common.{Ok, Err, sym, ◌∙◌, arith}
use Rattle.std.proofs.lemmas.Result.{err_from_is_err_and}
use Rattle.sheet.proofs.Opened.{checked, order_passed, order_failed}
use Rattle.sheet.proofs.checks.SizedBytes.check_orders.Goals as goal

pub loop-i-preserved : goal.loop-i-preserved
loop-i-preserved c =
    let s = c.args.self.now in
    order_passed s.bytes.now c.loop-i.i s.count (omega arith) (checked s.bytes.now c.loop-i.i (Ok c.in_ok-_order._order) c.in_ok-_order.ensures) ∙ c.loop-i.invariant

pub returns-in_err-_order : goal.returns-in_err-_order
returns-in_err-_order c =
    let s = c.args.self.now in
    let p = err_from_is_err_and c.from_residual.result c.from_residual.ensures.1 in
    rw (p.1, p.2) (sym c.loop-i.invariant ∙ order_failed s.bytes.now c.loop-i.i s.count _ (omega arith) (checked s.bytes.now c.loop-i.i (Err _) c.in_err-_order.ensures))
