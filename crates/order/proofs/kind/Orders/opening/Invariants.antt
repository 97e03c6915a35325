use Rattle.std.proofs.Common.{◌≡◌, ◌+◌, ◌*◌, ◌≤◌, true, map, drop}
use Rattle.timetable.specs.Hours.{opens_at}
use Rattle.order.specs.Orders.{applied}
use Rattle.order.specs.Views.{view}
use Rattle.order.proofs.kind.Orders.opening.Given as goal

abbrev pub invariant-loop-order : goal.invariant-loop-order
invariant-loop-order l =
    (applied l.timetable.bytes l.hour (map view (drop l.order-index l.orders)) ≡ applied l.timetable.bytes l.initial.hour (map view l.orders))
    × (l.hour ≤ 1000167 + 840 * l.order-index)
    × (opens_at l.timetable.bytes l.hour ≡ true)
