-- Orders behind one another. Assumes nothing.
use Rattle.std.proofs.Common.{◌≡◌, ◌<◌, [], ◌∷◌, ◌++◌, length, Ok, Err, Result, arith}
use Rattle.order.specs.Views.{view, listed, Pushed}
use Rattle.order.specs.declared.kind.Order.{Order}
use Rattle.order.specs.declared.kind.Orders.{Orders}

-- where there is room, an order is put behind the others
pub pushed_room : (old new : Orders) (o : Order) (r : Result (Unit {0}) Order) → Pushed old new o r → length (listed old) < 64 → listed new ≡ listed old ++ view o ∷ []
pushed_room old new o (Ok u) p h = p.1
pushed_room old new o (Err back) p h = absurd (omega (arith, p.1))
