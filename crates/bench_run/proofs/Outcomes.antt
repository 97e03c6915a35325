-- What the bench finds, check by check. Assumes nothing.
use Rattle.std.proofs.Common.{◌≡◌, ℕ, ◌<◌, ◌≤◌, cond, List, [], ◌∷◌, length, get_or, drop, sym, refl, ap, ◌∙◌, arith}
use mathlib.Core.Option.{Option, none, some}
use Rattle.std.proofs.lemmas.Bool.{lt-ltb, le-ltb}
use Rattle.faults.specs.declared.grounds.SheetFault.{SheetFault}
use Rattle.faults.specs.declared.grounds.BenchFault.TheVariants.{Mark, Cipher, Sheet}
use Rattle.faults.specs.declared.grounds.CipherFault.TheVariants.{Block}
use Rattle.sheet.specs.Reading.{sheet_fault}
use Rattle.bench_io.specs.declared.mark.Mark as mark
use Rattle.bench_io.specs.Marks.{mark_of, register_length}
use Rattle.bench_io.proofs.ByMark.{by_mark}
use Rattle.bench_run.specs.Bench.{Outcome, opens, fails, register_bytes, sheet_opening, read_sheet, read_register, outcome}

pub no_input : (input : List ℕ) → length input < 1 → outcome input ≡ fails Mark
unfolding outcome
no_input [] h = refl
no_input (x ∷ xs) h = absurd (omega arith)

pub no_mark : (input : List ℕ) → 1 ≤ length input → register_bytes (get_or input 0 0) ≡ none → outcome input ≡ fails Mark
unfolding outcome
no_mark [] h e = refl
no_mark (mark ∷ rest) h e = ap (λ (o : Option ℕ). elim o as (λ x. Outcome) [ none ↦ fails Mark | some n ↦ read_register n rest ]) e

-- the register that goes with a mark
pub registered : (b n : ℕ) (m : mark.Mark) → mark_of b ≡ some m → n ≡ register_length m → register_bytes b ≡ some n
registered b n m e long = by_mark register_length b (some m) e ∙ ap some (sym long)

marked : (input : List ℕ) (n : ℕ) → 1 ≤ length input → register_bytes (get_or input 0 0) ≡ some n → outcome input ≡ read_register n (drop 1 input)
unfolding outcome
marked [] n h e = absurd (omega arith)
marked (mark ∷ rest) n h e = ap (λ (o : Option ℕ). elim o as (λ x. Outcome) [ none ↦ fails Mark | some n ↦ read_register n rest ]) e

module _ (input : List ℕ) (n : ℕ) (h : 1 ≤ length input) (e : register_bytes (get_or input 0 0) ≡ some n) where
  pub no_register : (rest : List ℕ) → rest ≡ drop 1 input → length rest < n → outcome input ≡ fails (Cipher Block)
  no_register rest is short =
      marked input n h e ∙ ap (read_register n) (sym is) ∙ ap (λ b. cond b (fails (Cipher Block)) (read_sheet (drop n rest))) (lt-ltb (length rest) n short)

  to_sheet : (rest bs : List ℕ) → rest ≡ drop 1 input → n ≤ length rest → bs ≡ drop n rest → outcome input ≡ read_sheet bs
  to_sheet rest bs is long at =
      marked input n h e
      ∙ ap (read_register n) (sym is)
      ∙ ap (λ b. cond b (fails (Cipher Block)) (read_sheet (drop n rest))) (le-ltb (length rest) n long)
      ∙ ap read_sheet (sym at)

  pub bad_sheet : (rest bs : List ℕ) (f : SheetFault) → rest ≡ drop 1 input → n ≤ length rest → bs ≡ drop n rest → sheet_fault bs ≡ some f → outcome input ≡ fails (Sheet f)
  bad_sheet rest bs f is long at fault =
      to_sheet rest bs is long at ∙ ap (λ (o : Option SheetFault). elim o as (λ x. Outcome) [ none ↦ opens (sheet_opening bs) | some f ↦ fails (Sheet f) ]) fault

  pub good_sheet : (rest bs : List ℕ) (hour : ℕ) → rest ≡ drop 1 input → n ≤ length rest → bs ≡ drop n rest → sheet_fault bs ≡ none → hour ≡ sheet_opening bs
      → outcome input ≡ opens hour
  good_sheet rest bs hour is long at fault value =
      to_sheet rest bs is long at
      ∙ ap (λ (o : Option SheetFault). elim o as (λ x. Outcome) [ none ↦ opens (sheet_opening bs) | some f ↦ fails (Sheet f) ]) fault
      ∙ ap opens (sym value)
