-- The bench: the bytes that it writes, from the bytes that it reads. Assumes nothing.
use Rattle.std.specs.Prelude.{◌≡◌, ℕ, ◌*◌, cond, List, [], ◌∷◌, ◌++◌, length, take, drop, Ok, Err, Result, ◌==◌, nat_lt}
use Rattle.std.proofs.Math.Option.{Option, none, some}
use Rattle.faults.specs.Refusals.{bench_refusal}
use Rattle.faults.specs.declared.grounds.BenchFault.{BenchFault}
use Rattle.faults.specs.declared.grounds.BenchFault.TheVariants.{Mark, Cipher, Sheet}
use Rattle.faults.specs.declared.grounds.CipherFault.TheVariants.{Block}
use Rattle.words.specs.Words.{words, bytes}
use Rattle.cipher.specs.Meaning.{Meaning}
use Rattle.practice.specs.Practice.{practice}
use Rattle.shacal1.specs.Shacal1.{shacal1}
use Rattle.shacal2.specs.Shacal2.{shacal2}
use Rattle.sheet.specs.Reading.{sheet_fault}
use Rattle.ledger.specs.Ledgers.{Ledger, opening, code, seal}
use Rattle.loading.specs.Loaded.{loaded}
use Rattle.bench_io.specs.Lines.{refusal_line, opening_line}
use Rattle.bench_full.specs.Lines.{code_line, seal_line}
use Rattle.bench_full.specs.declared.findings.Findings.{Findings}

-- the opening hour, the code and the seal's bytes of a book, or a fault
pub data Outcome : Type 0 where
  shows : ℕ → ℕ → List ℕ → Outcome
  fails : BenchFault → Outcome

abbrev pub shown : Meaning → Ledger → Outcome
shown m l = shows (opening l) (code m l) (bytes (seal m l))

-- a book that is loaded from a start register and a sheet
abbrev pub read_sheet : Meaning → List ℕ → List ℕ → Outcome
read_sheet m start bs = elim (sheet_fault bs) [ none ↦ shown m (loaded start bs) | some f ↦ fails (Sheet f) ]

-- what stands behind the mark of a cipher: its start register, then a sheet
unfoldable pub over : Meaning → List ℕ → Outcome
over m rest = cond (nat_lt (length rest) (4 * m.width)) (fails (Cipher Block)) (read_sheet m (words (take (4 * m.width) rest)) (drop (4 * m.width) rest))

-- the cipher of a mark: '1' is SHACAL-1, '2' SHACAL-2, 'P' the practice cipher
abbrev pub marked : ℕ → Option Meaning
marked mark = cond (mark == 0x31) (some shacal1) (cond (mark == 0x32) (some shacal2) (cond (mark == 0x50) (some practice) none))

-- a mark, a start register and a sheet, checked in that sequence
unfoldable pub outcome : List ℕ → Outcome
outcome [] = fails Mark
outcome (mark ∷ rest) = elim (marked mark) [ none ↦ fails Mark | some m ↦ over m rest ]

abbrev pub printed : Outcome → List ℕ
printed (shows hour n bs) = opening_line hour ++ code_line n ++ seal_line bs
printed (fails f) = refusal_line (bench_refusal f)

-- all that is printed
unfoldable pub bench : List ℕ → List ℕ
bench input = printed (outcome input)

-- ---- the code's types

abbrev pub finding : Findings → Outcome
finding f = shows f.opening f.code f.seal.items

abbrev pub Shows : Meaning → Ledger → Findings → Type 0
Shows m l f = finding f ≡ shown m l

abbrev pub found : Result Findings BenchFault → Outcome
found (Ok f) = finding f
found (Err f) = fails f
