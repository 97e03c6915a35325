use Rattle.std.proofs.Common.{◌≡◌, ◌++◌, map, drop}
use Rattle.order.specs.Views.{listed}
use Rattle.order_table.specs.Lines.{orders}
use Rattle.order_table.specs.Views.{view}
use Rattle.order_table.proofs.finding.in_force_of.Given as goal

abbrev pub invariant-loop-line : goal.invariant-loop-line
invariant-loop-line l = listed l.standing ++ orders (map view (drop l.line-index l.lines)) ≡ orders (map view l.lines)
