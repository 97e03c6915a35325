-- What the calls on sheets do. Assumes nothing.
use Rattle.std.specs.Prelude.{◌≡◌, ℕ, ◌<◌, List, take, Some, None, Ok, Err, Option, Result}
use Rattle.std.proofs.Math.Option.{none, some}
use Rattle.faults.specs.declared.grounds.BufferFault.{BufferFault}
use Rattle.faults.specs.declared.grounds.SheetFault.{SheetFault}
use Rattle.order.specs.Orders as orders
use Rattle.order.specs.Orders.{InRange}
use Rattle.order.specs.Views.{view}
use Rattle.order.specs.declared.kind.Order.{Order}
use Rattle.sheet.specs.Contents.{Accepted, Holds}
use Rattle.sheet.specs.Reading.{count, order_at, Check, first}

-- a call goes through checks: it is granted exactly where they pass, and else gives the first fault
abbrev pub Tells : {T : Type 0} → List Check → Result T SheetFault → Type 0
Tells gs (Ok x) = first gs ≡ none
Tells gs (Err f) = first gs ≡ some f

-- what was written to the front of a buffer is accepted by a reader, and holds what was to be written
abbrev pub ReadsBack : List ℕ → ℕ → List ℕ → List orders.Order → List ℕ → Result ℕ BufferFault → Type 0
ReadsBack name base table os out (Ok n) = Accepted (take n out) × Holds (take n out) name base table os
ReadsBack name base table os out (Err f) = Unit {0}

-- the i-th order of any bytes: the one that stands there, none past the last and where none can be made
abbrev pub Shows : List ℕ → ℕ → Option Order → Type 0
Shows bs i (Some o) = (i < count bs) × (view o ≡ order_at bs i)
Shows bs i None = i < count bs → InRange (order_at bs i) → ⊥
