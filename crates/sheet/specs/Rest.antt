-- The orders that a walk over a sheet has still to give. Assumes nothing.
use Rattle.std.specs.Prelude.{◌-◌, List}
use Rattle.order.specs.Orders.{Order}
use Rattle.sheet.specs.Reading.{count, orders_from}
use Rattle.sheet.specs.declared.walk.SheetOrders.{SheetOrders}

abbrev pub rest : SheetOrders → List Order
rest s = let bs = s.reader.sheet.bytes.now in orders_from bs s.next (count bs - s.next)
