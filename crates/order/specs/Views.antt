-- What the types of the code stand for. Assumes nothing.
use Rattle.std.specs.Prelude.{◌≡◌, ℕ, ◌<◌, true, false, List, [], ◌∷◌, ◌++◌, map, length, take, Ok, Err, Result}
use Rattle.faults.specs.declared.grounds.OrderFault.{OrderFault}
use Rattle.faults.specs.declared.grounds.OrderFault.TheVariants.{Letter, Amount}
use Rattle.order.specs.Orders as orders
use Rattle.order.specs.Orders.{lettered, ranged}
use Rattle.order.specs.Kinds.{letter_of}
use Rattle.order.specs.declared.kind.Order.{Order}
use Rattle.order.specs.declared.kind.Orders.{Orders}

abbrev pub view : Order → orders.Order
view o = record { letter = letter_of o.kind; amount = o.value }

-- the orders of a list, the first entered first
abbrev pub listed : Orders → List orders.Order
listed os = map view (take os.count os.lines)

-- what is made of a letter and an amount that stand at two places: the letter is checked first
abbrev pub Makes : ℕ → ℕ → ℕ → ℕ → Result Order OrderFault → Type 0
Makes p q c a (Ok o) = (view o ≡ record { letter = c; amount = a }) × (lettered c ≡ true) × (ranged c a ≡ true)
Makes p q c a (Err (Letter at)) = (at ≡ p) × (lettered c ≡ false)
Makes p q c a (Err (Amount at)) = (at ≡ q) × (lettered c ≡ true) × (ranged c a ≡ false)

-- an order is put behind the others, or handed back where there are 64
abbrev pub Pushed : Orders → Orders → Order → Result (Unit {0}) Order → Type 0
Pushed old new o (Ok u) = (length (listed old) < 64) × (listed new ≡ listed old ++ view o ∷ [])
Pushed old new o (Err back) = (back ≡ o) × (length (listed old) ≡ 64) × (new ≡ old)
