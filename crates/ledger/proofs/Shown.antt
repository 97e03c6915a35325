-- What a book shows is what its ledger says. Assumes nothing.
use Rattle.std.proofs.Common.{◌≡◌, ℕ, ◌^◌, ◌≤◌, true, List, length}
use Rattle.words.specs.Words.{Below, Row}
use Rattle.cipher.specs.Meaning.{Meaning, Lawful}
use Rattle.timetable.specs.Hours.{ever_open}
use Rattle.order_table.specs.Lines.{Line, LinesInRange, orders}
use Rattle.order_table.proofs.Lined.{orders_in_range}
use Rattle.turning.specs.Turned.{Name}
use Rattle.turning.proofs.Turning.{turned_back, back_row}
use Rattle.ledger.specs.Ledgers.{Sound, register}
use Rattle.ledger.specs.Told.{tells}

module _ (m : Meaning) (law : Lawful m) (name : List ℕ) (named : Name name) (base : ℕ) (table r : List ℕ) (row : Row m.width r) (ls : List Line) (fits : LinesInRange ls) where
  -- the register that the ledger shows is the book's
  pub register_is : register m (tells m name base table r ls) ≡ r
  unfolding register tells
  register_is = turned_back m law name named r (orders ls) (orders_in_range ls fits) row

  pub is_sound : base ≤ 1000000 → (length table ≡ 21) × Below (2 ^ 8) table → ever_open table ≡ true → length ls ≤ 64 → Sound m (tells m name base table r ls)
  unfolding tells
  is_sound b t o f = record { named = named; based = b; tabled = t; opens = o; started = back_row m law name named r (orders ls) (orders_in_range ls fits) row; few = f; ranged = fits }
