-- The ledger told by what a book holds, which has the present register and no copy of the start register. Assumes nothing.
use Rattle.std.specs.Prelude.{ℕ, List}
use Rattle.cipher.specs.Meaning.{Meaning}
use Rattle.order_table.specs.Lines.{Line, orders}
use Rattle.turning.specs.Turned.{back}
use Rattle.ledger.specs.Ledgers.{Ledger}

-- the start register is the present one decrypted back along the orders in force
unfoldable pub tells : Meaning → List ℕ → ℕ → List ℕ → List ℕ → List Line → Ledger
tells m name base table r ls = record {
  given = record { name = name; base = base; table = table; start = back m name r (orders ls) };
  lines = ls;
}
