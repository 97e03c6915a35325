-- A sheet and its contents. Assumes nothing.
use Rattle.std.specs.Prelude.{◌≡◌, ℕ, ◌^◌, ◌≤◌, true, List, length}
use Rattle.std.proofs.Math.Option.{none}
use Rattle.words.specs.Words.{Below}
use Rattle.timetable.specs.Hours.{ever_open}
use Rattle.order.specs.Orders.{Order, AllInRange}
use Rattle.sheet.specs.Sheets.{sheet}
use Rattle.sheet.specs.Reading as reading
use Rattle.sheet.specs.Reading.{sheet_fault}

-- contents that a sheet can hold
pub record Contents (name : List ℕ) (base : ℕ) (table : List ℕ) (os : List Order) : Type 0 where
  pub named : (length name ≡ 8) × Below (2 ^ 8) name
  pub based : base ≤ 1000000
  pub tabled : (length table ≡ 21) × Below (2 ^ 8) table
  pub opens : ever_open table ≡ true
  pub few : length os ≤ 64
  pub ranged : AllInRange os

-- what is read from the bytes
pub record Holds (bs name : List ℕ) (base : ℕ) (table : List ℕ) (os : List Order) : Type 0 where
  pub named : reading.name bs ≡ name
  pub based : reading.base bs ≡ base
  pub tabled : reading.table bs ≡ table
  pub ordered : reading.orders bs ≡ os

-- bytes in which a reader finds no fault
pub record Accepted (bs : List ℕ) : Type 0 where
  pub bytes : Below (2 ^ 8) bs
  pub faultless : sheet_fault bs ≡ none

-- accepted bytes hold contents, are the sheet of them, and no other accepted bytes hold the same
pub record OneSheet (bs : List ℕ) : Type 0 where
  pub accepted : Accepted bs
  pub contents : Contents (reading.name bs) (reading.base bs) (reading.table bs) (reading.orders bs)
  pub written : bs ≡ sheet (reading.name bs) (reading.base bs) (reading.table bs) (reading.orders bs)
  pub only : (cs : List ℕ) → Accepted cs → Holds cs (reading.name bs) (reading.base bs) (reading.table bs) (reading.orders bs) → cs ≡ bs
