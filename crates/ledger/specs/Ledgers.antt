-- The ledger, and what a book shows of it. Assumes nothing.
use Rattle.std.specs.Prelude.{◌≡◌, ℕ, ◌%◌, ◌^◌, ◌≤◌, true, List, [], length, replicate, slice_index}
use Rattle.words.specs.Words.{Below, Row, bytes}
use Rattle.cipher.specs.Meaning.{Meaning}
use Rattle.timetable.specs.Hours.{ever_open}
use Rattle.order.specs.Orders as order
use Rattle.order.specs.Orders.{Order}
use Rattle.order_table.specs.Lines.{Line, LinesInRange, orders}
use Rattle.turning.specs.Turned.{Name, turned}
use Rattle.hash.specs.Digests.{digest}
use Rattle.sheet.specs.Sheets as sheets

-- what set-up puts in
pub record Given : Type 0 where
  pub name : List ℕ
  pub base : ℕ
  pub table : List ℕ
  pub start : List ℕ

pub record Ledger : Type 0 where
  pub given : Given
  pub lines : List Line

-- the ledger of a book that nobody has set up
unfoldable pub blank : Meaning → Ledger
blank m = record {
  given = record { name = replicate 8 0; base = 0; table = replicate 21 0xff; start = replicate m.width 0 };
  lines = [];
}

abbrev pub in_force : Ledger → List Order
in_force l = orders l.lines

-- the five that a book shows. The register: the start register encrypted under the keys of the orders in force
unfoldable pub register : Meaning → Ledger → List ℕ
register m l = turned m l.given.name l.given.start (in_force l)

-- the code: the first digest word of the register's bytes, modulo 1,000,000
unfoldable pub code : Meaning → Ledger → ℕ
code m l = slice_index (digest m (bytes (register m l))) 0 % 1000000

unfoldable pub opening : Ledger → ℕ
opening l = order.opening l.given.table l.given.base (in_force l)

unfoldable pub sheet : Ledger → List ℕ
sheet l = sheets.sheet l.given.name l.given.base l.given.table (in_force l)

-- the seal: the digest of the sheet
unfoldable pub seal : Meaning → Ledger → List ℕ
seal m l = digest m (sheet l)

-- what the ledger of every book is made of
pub record Sound (m : Meaning) (l : Ledger) : Type 0 where
  pub named : Name l.given.name
  pub based : l.given.base ≤ 1000000
  pub tabled : (length l.given.table ≡ 21) × Below (2 ^ 8) l.given.table
  pub opens : ever_open l.given.table ≡ true
  pub started : Row m.width l.given.start
  pub few : length l.lines ≤ 64
  pub ranged : LinesInRange l.lines
