-- How a sheet is read: what stands where, and the checks in their sequence. Assumes nothing.
use Rattle.std.specs.Prelude.{ℕ, zero, suc, ◌+◌, ◌*◌, ◌^◌, Bool, cond, not, ◌||◌, List, [], ◌∷◌, ◌++◌, length, take, drop, ◌==◌, nat_lt, slice_index}
use Rattle.std.proofs.Math.Option.{Option, none, some}
use Rattle.faults.specs.declared.grounds.SheetFault.{SheetFault}
use Rattle.faults.specs.declared.grounds.SheetFault.TheVariants as sheet
use Rattle.faults.specs.declared.grounds.TimetableFault.TheVariants.{Base, Closed}
use Rattle.faults.specs.declared.grounds.OrderFault.TheVariants.{Letter, Amount}
use Rattle.timetable.specs.Hours.{ever_open}
use Rattle.order.specs.Orders.{Order, lettered, ranged}

-- two bytes, and four, as a number, the most significant first
abbrev pub half : List ℕ → ℕ → ℕ
half bs i = slice_index bs i * 2 ^ 8 + slice_index bs (i + 1)

abbrev pub word : List ℕ → ℕ → ℕ
word bs i = half bs i * 2 ^ 16 + half bs (i + 2)

abbrev pub count : List ℕ → ℕ
count bs = half bs 0

abbrev pub total : List ℕ → ℕ
total bs = half bs 2

abbrev pub base : List ℕ → ℕ
base bs = word bs 4

abbrev pub name : List ℕ → List ℕ
name bs = take 8 (drop 8 bs)

abbrev pub table : List ℕ → List ℕ
table bs = take 21 (drop 16 bs)

abbrev pub letter_place : List ℕ → ℕ → ℕ
letter_place bs i = 37 + i

abbrev pub amount_place : List ℕ → ℕ → ℕ
amount_place bs i = 37 + count bs + 4 * i

abbrev pub order_at : List ℕ → ℕ → Order
order_at bs i = record { letter = slice_index bs (letter_place bs i); amount = word bs (amount_place bs i) }

-- n orders from the i-th on
abbrev pub orders_from : List ℕ → ℕ → ℕ → List Order
orders_from bs i zero = []
orders_from bs i (suc n) = order_at bs i ∷ orders_from bs (i + 1) n

abbrev pub orders : List ℕ → List Order
orders bs = orders_from bs 0 (count bs)

-- a check: whether it fails, and the fault that it then gives
abbrev pub Check : Type 0
Check = Bool × SheetFault

-- the first check that fails
abbrev pub first : List Check → Option SheetFault
first [] = none
first (g ∷ gs) = cond g.0 (some g.1) (first gs)

abbrev pub size_checks : List ℕ → List Check
size_checks bs =
    (nat_lt (length bs) 37, sheet.Short (length bs))
    ∷ (nat_lt 64 (count bs) || not (total bs == 37 + 5 * count bs), sheet.Sizes)
    ∷ (nat_lt (length bs) (total bs), sheet.Short (length bs))
    ∷ (nat_lt (total bs) (length bs), sheet.Trailing (total bs))
    ∷ []

abbrev pub set_up_checks : List ℕ → List Check
set_up_checks bs =
    (nat_lt 1000000 (base bs), sheet.Timetable (Base 4))
    ∷ (not (ever_open (table bs)), sheet.Timetable (Closed 16))
    ∷ []

abbrev pub order_checks : List ℕ → ℕ → Order → List Check
order_checks bs i o =
    (not (lettered o.letter), sheet.Order (Letter (letter_place bs i)))
    ∷ (not (ranged o.letter o.amount), sheet.Order (Amount (amount_place bs i)))
    ∷ []

-- order by order
abbrev pub orders_checks : List ℕ → ℕ → List Order → List Check
orders_checks bs i [] = []
orders_checks bs i (o ∷ os) = order_checks bs i o ++ orders_checks bs (i + 1) os

-- why bytes are no sheet: the first check that fails, or none
unfoldable pub sheet_fault : List ℕ → Option SheetFault
sheet_fault bs = first (size_checks bs ++ set_up_checks bs ++ orders_checks bs 0 (orders bs))
