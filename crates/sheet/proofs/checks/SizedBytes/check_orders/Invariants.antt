use Rattle.std.proofs.Common.{◌≡◌, ◌-◌}
use Rattle.sheet.specs.Reading.{orders_from, orders, first, orders_checks}
use Rattle.sheet.proofs.checks.SizedBytes.check_orders.Given as goal

abbrev pub invariant-loop-i : goal.invariant-loop-i
invariant-loop-i l = first (orders_checks l.self.bytes.now l.i (orders_from l.self.bytes.now l.i (l.self.count - l.i))) ≡ first (orders_checks l.self.bytes.now 0 (orders l.self.bytes.now))
