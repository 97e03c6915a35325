-- The bench: the bytes that it writes, from the bytes that it reads. Assumes nothing.
use Rattle.std.specs.Prelude.{ℕ, cond, List, [], ◌∷◌, length, drop, ◌==◌, nat_lt}
use Rattle.std.proofs.Math.Option.{Option, none, some}
use Rattle.faults.specs.Refusals.{bench_refusal}
use Rattle.faults.specs.declared.grounds.BenchFault.{BenchFault}
use Rattle.faults.specs.declared.grounds.BenchFault.TheVariants.{Mark, Cipher, Sheet}
use Rattle.faults.specs.declared.grounds.CipherFault.TheVariants.{Block}
use Rattle.order.specs.Orders.{opening}
use Rattle.sheet.specs.Reading.{base, table, orders, sheet_fault}
use Rattle.bench_io.specs.Lines.{refusal_line, opening_line}

-- how many bytes the start register has behind a mark: '1' is SHACAL-1, '2' SHACAL-2, 'P' the practice cipher
abbrev pub register_bytes : ℕ → Option ℕ
register_bytes mark = cond (mark == 0x31) (some 20) (cond (mark == 0x32) (some 32) (cond (mark == 0x50) (some 8) none))

-- the opening hour of a sheet
unfoldable pub sheet_opening : List ℕ → ℕ
sheet_opening bs = opening (table bs) (base bs) (orders bs)

-- an opening hour, or a fault
pub data Outcome : Type 0 where
  opens : ℕ → Outcome
  fails : BenchFault → Outcome

abbrev pub read_sheet : List ℕ → Outcome
read_sheet bs = elim (sheet_fault bs) [ none ↦ opens (sheet_opening bs) | some f ↦ fails (Sheet f) ]

-- what stands behind a mark whose start register has n bytes
abbrev pub read_register : ℕ → List ℕ → Outcome
read_register n rest = cond (nat_lt (length rest) n) (fails (Cipher Block)) (read_sheet (drop n rest))

-- a mark, a start register and a sheet, checked in that sequence
unfoldable pub outcome : List ℕ → Outcome
outcome [] = fails Mark
outcome (mark ∷ rest) = elim (register_bytes mark) [ none ↦ fails Mark | some n ↦ read_register n rest ]

abbrev pub printed : Outcome → List ℕ
printed (opens hour) = opening_line hour
printed (fails f) = refusal_line (bench_refusal f)

-- all that is printed
unfoldable pub bench : List ℕ → List ℕ
bench input = printed (outcome input)
