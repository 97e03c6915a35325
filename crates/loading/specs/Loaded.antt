-- The ledger that a start register and a sheet describe. Assumes nothing.
use Rattle.std.specs.Prelude.{◌≡◌, ℕ, ◌*◌, false, List, [], ◌∷◌, length, Ok, Err, Result}
use Rattle.std.proofs.Math.Option.{none, some}
use Rattle.faults.specs.declared.grounds.BenchFault.{BenchFault}
use Rattle.faults.specs.declared.grounds.BenchFault.TheVariants.{Mark, Cipher, Sheet}
use Rattle.faults.specs.declared.grounds.CipherFault.TheVariants.{Key, Block}
use Rattle.words.specs.Words.{words}
use Rattle.cipher.specs.Meaning.{Meaning}
use Rattle.order.specs.Orders.{Order}
use Rattle.order_table.specs.Lines.{Line}
use Rattle.sheet.specs.Reading.{name, base, table, orders, sheet_fault}
use Rattle.ledger.specs.Ledgers.{Ledger}
use Rattle.book.specs.Told.{told}
use Rattle.book.specs.declared.state.Book.{Book}

-- orders in force, each on a line of its own
unfoldable pub entered : List Order → List Line
entered [] = []
entered (o ∷ os) = (record { order = o; undone = false }) ∷ entered os

unfoldable pub loaded : List ℕ → List ℕ → Ledger
loaded start bs = record { given = record { name = name bs; base = base bs; table = table bs; start = start }; lines = entered (orders bs) }

-- the book of a register and a sheet, or the first ground that holds: the register's size, then the sheet's fault
abbrev pub Loads : {C : Type 0} → (C → Meaning) → C → List ℕ → List ℕ → Result (Book C) BenchFault → Type 0
Loads meaning c rs bs (Ok b) = (length rs ≡ 4 * (meaning c).width) × (sheet_fault bs ≡ none) × (b.cipher ≡ c) × (told (meaning c) b ≡ loaded (words rs) bs)
Loads meaning c rs bs (Err Mark) = ⊥
Loads meaning c rs bs (Err (Cipher Key)) = ⊥
Loads meaning c rs bs (Err (Cipher Block)) = length rs ≡ 4 * (meaning c).width → ⊥
Loads meaning c rs bs (Err (Sheet f)) = (length rs ≡ 4 * (meaning c).width) × (sheet_fault bs ≡ some f)
