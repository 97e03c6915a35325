use Rattle.std.proofs.Common.{◌≡◌, ◌+◌, ◌++◌, map, drop, sym, subst, arith}
use Rattle.order.specs.Views.{listed}
use Rattle.order.specs.declared.kind.Orders.{Orders}
use Rattle.order_table.specs.Lines.{orders}
use Rattle.order_table.specs.Views.{view}
use Rattle.order_table.proofs.Lined.{kept_none, kept_undone, kept_pushed}
use Rattle.order_table.proofs.finding.in_force_of.Goals as goal
use Rattle.order_table.proofs.finding.in_force_of.Goals.{then-not-line, else-not-line}

pub loop-line-preserved : goal.loop-line-preserved
loop-line-preserved c =
    let ls = c.args.lines.now in
    let i = c.loop-line.line-index in
    let Q : Orders → Type 0 = λ os. listed os ++ orders (map view (drop (i + 1) ls)) ≡ orders (map view ls) in
    elim c.if-not-line.branch [
      | then-not-line w ↦ subst Q (sym w.standing-is) (kept_pushed ls i c.line-item.result c.loop-line.standing w.push.new.self w.push.result (omega arith) (omega arith) c.line-item.is w.if-not-line.true w.push.ensures c.loop-line.invariant)
      | else-not-line w ↦ subst Q (sym w.standing-is) (kept_undone ls i c.line-item.result (listed c.loop-line.standing) (orders (map view ls)) (omega arith) c.line-item.is w.if-not-line.false c.loop-line.invariant)
    ]

pub returns : goal.returns
returns c = kept_none c.args.lines.now c.loop-line.line-index _ _ (omega arith) c.loop-line.invariant
