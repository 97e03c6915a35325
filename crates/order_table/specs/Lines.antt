-- The numbered lines of a book: orders, and marks on those that were undone. Assumes nothing.
use Rattle.std.specs.Prelude.{◌≡◌, ℕ, zero, suc, ◌+◌, ◌≤◌, Bool, true, false, cond, not, ◌&&◌, List, [], ◌∷◌, ◌++◌, ◌==◌, ◌≢◌, nat_lt}
use Rattle.std.proofs.Math.Option.{Option, none, some}
use Rattle.faults.specs.declared.grounds.BookFault.{BookFault}
use Rattle.faults.specs.declared.grounds.BookFault.TheVariants.{Absent, Undone}
use Rattle.order.specs.Orders.{Order, InRange, delay}

pub record Line : Type 0 where
  pub order : Order
  pub undone : Bool

abbrev pub LinesInRange : List Line → Type 0
LinesInRange [] = Unit {0}
LinesInRange (l ∷ ls) = InRange l.order × LinesInRange ls

-- the orders in force, in the sequence of their numbers
unfoldable pub orders : List Line → List Order
orders [] = []
orders (l ∷ ls) = cond l.undone (orders ls) (l.order ∷ orders ls)

-- the line of a number, counted from 1, if there is one
unfoldable pub line : List Line → ℕ → Option Line
line [] n = none
line (l ∷ ls) zero = none
line (l ∷ ls) (suc zero) = some l
line (l ∷ ls) (suc (suc n)) = line ls (suc n)

abbrev pub none_at : Option Line → Bool
none_at none = true
none_at (some l) = false

abbrev pub undone_at : Option Line → Bool
undone_at none = false
undone_at (some l) = l.undone

-- the first ground that holds, in the sequence of the checks
abbrev pub first : List (Bool × BookFault) → Option BookFault
first [] = none
first (g ∷ gs) = cond g.0 (some g.1) (first gs)

-- why the line of a number cannot be undone: there is none, or it was undone before
abbrev pub undo_fault : List Line → ℕ → Option BookFault
undo_fault ls n = first ((none_at (line ls n), Absent) ∷ (undone_at (line ls n), Undone) ∷ [])

-- the lines with the one of a number marked undone
unfoldable pub marked : List Line → ℕ → List Line
marked [] n = []
marked (l ∷ ls) zero = l ∷ ls
marked (l ∷ ls) (suc zero) = (record { order = l.order; undone = true }) ∷ ls
marked (l ∷ ls) (suc (suc n)) = l ∷ marked ls (suc n)

-- a line that is marked takes its own order out of those in force, and no other
pub record Around (old new : List Line) (o : Order) (later : List Order) : Type 0 where
  pub before : List Order
  pub were : orders old ≡ before ++ o ∷ later
  pub are : orders new ≡ before ++ later

-- a delay in force
abbrev pub delays : Line → Bool
delays l = not l.undone && l.order.letter == delay

abbrev pub NoneDelays : List Line → Type 0
NoneDelays ls = (k : ℕ) (o : Line) → line ls k ≡ some o → delays o ≢ true

-- line n is the longest delay in force, of equals the one with the highest number
pub record Longest (ls : List Line) (n : ℕ) (l : Line) : Type 0 where
  pub here : line ls n ≡ some l
  pub is_delay : delays l ≡ true
  pub longest : (k : ℕ) (o : Line) → line ls k ≡ some o → delays o ≡ true → o.order.amount ≤ l.order.amount
  pub latest : (k : ℕ) (o : Line) → line ls k ≡ some o → delays o ≡ true → o.order.amount ≡ l.order.amount → k ≤ n

-- a line by its number and with its hours, where it is a delay in force and longer than what was found behind it
abbrev pub longer : Line → ℕ → ℕ × ℕ → ℕ × ℕ
longer l n r = cond (delays l && nat_lt r.1 l.order.amount) (n, l.order.amount) r

-- the same as a number with its hours, zeros where no delay is in force: from number n on, the best of the rest
-- unless line n is longer
unfoldable pub best : ℕ → List Line → ℕ × ℕ
best n [] = (0, 0)
best n (l ∷ ls) = longer l n (best (n + 1) ls)

abbrev pub pick : List Line → ℕ
pick ls = (best 1 ls).0
