-- What the types of the code stand for. Assumes nothing.
use Rattle.std.specs.Prelude.{◌≡◌, ℕ, ◌+◌, ◌<◌, ◌≤◌, false, cond, List, [], ◌∷◌, ◌++◌, map, length, take, Some, None, Ok, Err, Option, Result}
use Rattle.std.proofs.Math.Option.{none, some}
use Rattle.faults.specs.declared.grounds.BookFault.{BookFault}
use Rattle.faults.specs.declared.grounds.BookFault.TheVariants.{Full}
use Rattle.order.specs.Views as orders
use Rattle.order.specs.Views.{listed}
use Rattle.order.specs.declared.kind.Order.{Order}
use Rattle.order.specs.declared.kind.Orders.{Orders}
use Rattle.order_table.specs.Lines as lines
use Rattle.order_table.specs.Lines.{line, undo_fault, marked, delays, Around, Longest, NoneDelays, pick}
use Rattle.order_table.specs.declared.line.Line.{Line}
use Rattle.order_table.specs.declared.line.Table.{Table}

abbrev pub view : Line → lines.Line
view l = record { order = orders.view l.order; undone = l.undone }

-- the lines that are written
abbrev pub lines_of : Table → List lines.Line
lines_of t = map view (take t.count t.lines)

-- the hours of a delay in force, and 0 of any other line
abbrev pub hours : Line → ℕ
hours l = cond (delays (view l)) (view l).order.amount 0

-- the place of a line in force by its number
abbrev pub Found : List Line → ℕ → Result ℕ BookFault → Type 0
Found ls n (Ok i) = (n ≡ i + 1) × (i < length ls) × (undo_fault (map view ls) n ≡ none)
Found ls n (Err f) = undo_fault (map view ls) n ≡ some f

-- an order in force is written behind the others, or refused where there are 64 lines
abbrev pub Entered : Table → Table → Order → Result ℕ BookFault → Type 0
Entered old new o (Ok n) =
    (length (lines_of old) < 64) × (n ≡ length (lines_of old) + 1) × (lines_of new ≡ lines_of old ++ (record { order = orders.view o; undone = false }) ∷ [])
Entered old new o (Err f) = (f ≡ Full) × (64 ≤ length (lines_of old)) × (new ≡ old)

-- a line is marked; the order is its own, and the orders are those in force behind it
abbrev pub Undid : Table → Table → ℕ → Result (Order × Orders) BookFault → Type 0
Undid old new n (Ok p) =
    (undo_fault (lines_of old) n ≡ none)
    × (lines_of new ≡ marked (lines_of old) n)
    × (line (lines_of old) n ≡ some (record { order = orders.view p.0; undone = false }))
    × Around (lines_of old) (lines_of new) (orders.view p.0) (listed p.1)
Undid old new n (Err f) = (undo_fault (lines_of old) n ≡ some f) × (new ≡ old)

-- the longest delay in force, of equals the latest, or none where no delay is in force
abbrev pub Picks : List lines.Line → Option ℕ → Type 0
Picks ls (Some n) = (n ≡ pick ls) × (1 ≤ n) × ((l : lines.Line) × Longest ls n l)
Picks ls None = (pick ls ≡ 0) × NoneDelays ls
