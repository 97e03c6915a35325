-- What the bench finds, check by check. Assumes nothing.
use Rattle.std.proofs.Common.{◌≡◌, ℕ, ◌*◌, ◌<◌, ◌≤◌, cond, List, [], ◌∷◌, length, get_or, take, drop, Err, Result, refl, ap, ◌∙◌, subst, arith}
use mathlib.Core.Option.{Option, none, some}
use Rattle.std.proofs.lemmas.List.{length-take-le}
use Rattle.std.proofs.lemmas.Bool.{lt-ltb, le-ltb}
use Rattle.faults.specs.declared.grounds.SheetFault.{SheetFault}
use Rattle.faults.specs.declared.grounds.BenchFault.{BenchFault}
use Rattle.faults.specs.declared.grounds.BenchFault.TheVariants.{Mark, Cipher, Sheet}
use Rattle.faults.specs.declared.grounds.CipherFault.TheVariants.{Key, Block}
use Rattle.words.specs.Words.{words}
use Rattle.std.specs.List.{IsSplitAt}
use Rattle.cipher.specs.Meaning.{Meaning}
use Rattle.sheet.specs.Reading.{sheet_fault}
use Rattle.book.specs.declared.state.Book.{Book}
use Rattle.loading.specs.Loaded.{loaded, Loads}
use Rattle.practice.specs.Practice.{practice}
use Rattle.shacal1.specs.Shacal1.{shacal1}
use Rattle.shacal2.specs.Shacal2.{shacal2}
use Rattle.bench_io.specs.declared.mark.Mark as mark
use Rattle.bench_io.specs.declared.mark.Mark.TheVariants.{Shacal1, Shacal2, Practice}
use Rattle.bench_io.specs.Marks.{mark_of}
use Rattle.bench_io.proofs.ByMark.{chosen, by_mark as choose}
use Rattle.bench_full.specs.Bench.{Outcome, fails, shown, read_sheet, over, marked, outcome}

pub no_input : (input : List ℕ) → length input < 1 → outcome input ≡ fails Mark
unfolding outcome
no_input [] h = refl
no_input (x ∷ xs) h = absurd (omega arith)

pub no_mark : (input : List ℕ) → 1 ≤ length input → marked (get_or input 0 0) ≡ none → outcome input ≡ fails Mark
unfolding outcome
no_mark [] h e = refl
no_mark (mark ∷ rest) h e = ap (λ (o : Option Meaning). elim o as (λ x. Outcome) [ none ↦ fails Mark | some m ↦ over m rest ]) e

-- the cipher that goes with a mark
abbrev pub meant : mark.Mark → Meaning
meant Shacal1 = shacal1
meant Shacal2 = shacal2
meant Practice = practice

pub marked_so : (b : ℕ) (o : Option mark.Mark) → mark_of b ≡ o → marked b ≡ chosen meant o
marked_so b o e = choose meant b o e

pub by_mark : (input : List ℕ) (m : Meaning) → 1 ≤ length input → marked (get_or input 0 0) ≡ some m → outcome input ≡ over m (drop 1 input)
unfolding outcome
by_mark [] m h e = absurd (omega arith)
by_mark (mark ∷ rest) m h e = ap (λ (o : Option Meaning). elim o as (λ x. Outcome) [ none ↦ fails Mark | some n ↦ over n rest ]) e

module _ (m : Meaning) (rest : List ℕ) where
  pub no_register : length rest < 4 * m.width → over m rest ≡ fails (Cipher Block)
  unfolding over
  no_register h = ap (λ b. cond b (fails (Cipher Block)) (read_sheet m (words (take (4 * m.width) rest)) (drop (4 * m.width) rest))) (lt-ltb (length rest) (4 * m.width) h)

  to_sheet : 4 * m.width ≤ length rest → over m rest ≡ read_sheet m (words (take (4 * m.width) rest)) (drop (4 * m.width) rest)
  unfolding over
  to_sheet h = ap (λ b. cond b (fails (Cipher Block)) (read_sheet m (words (take (4 * m.width) rest)) (drop (4 * m.width) rest))) (le-ltb (length rest) (4 * m.width) h)

  pub bad_sheet : (f : SheetFault) → 4 * m.width ≤ length rest → sheet_fault (drop (4 * m.width) rest) ≡ some f → over m rest ≡ fails (Sheet f)
  bad_sheet f h e =
      to_sheet h
      ∙ ap (λ (o : Option SheetFault). elim o as (λ x. Outcome) [ none ↦ shown m (loaded (words (take (4 * m.width) rest)) (drop (4 * m.width) rest)) | some f ↦ fails (Sheet f) ]) e

  pub good_sheet : 4 * m.width ≤ length rest → sheet_fault (drop (4 * m.width) rest) ≡ none → over m rest ≡ shown m (loaded (words (take (4 * m.width) rest)) (drop (4 * m.width) rest))
  good_sheet h e =
      to_sheet h
      ∙ ap (λ (o : Option SheetFault). elim o as (λ x. Outcome) [ none ↦ shown m (loaded (words (take (4 * m.width) rest)) (drop (4 * m.width) rest)) | some f ↦ fails (Sheet f) ]) e

-- a book that could not be loaded has the fault of its sheet, since its register was cut to size
pub not_loaded : {C : Type 0} (meaning : C → Meaning) (c : C) (rest : List ℕ) (f : BenchFault) → 4 * (meaning c).width ≤ length rest → Loads meaning c (take (4 * (meaning c).width) rest) (drop (4 * (meaning c).width) rest) (Err f) → over (meaning c) rest ≡ fails f
not_loaded meaning c rest Mark h l = absurd l
not_loaded meaning c rest (Cipher Key) h l = absurd l
not_loaded meaning c rest (Cipher Block) h l = absurd (l (length-take-le (4 * (meaning c).width) rest h))
not_loaded meaning c rest (Sheet f) h l = bad_sheet (meaning c) rest f h l.1

-- the parts as the code cuts them
pub cut_so : {C : Type 0} (meaning : C → Meaning) (c : C) (rest rs bs : List ℕ) (n : ℕ) (r : Result (Book C) BenchFault) → n ≡ (meaning c).width → IsSplitAt rest (4 * n) rs bs → Loads meaning c rs bs r
    → Loads meaning c (take (4 * (meaning c).width) rest) (drop (4 * (meaning c).width) rest) r
cut_so meaning c rest rs bs n r e split l =
    subst (λ (k : ℕ). Loads meaning c (take (4 * k) rest) (drop (4 * k) rest) r) e
    (subst (λ (xs : List ℕ). Loads meaning c xs (drop (4 * n) rest) r) split.1 (subst (λ (ys : List ℕ). Loads meaning c rs ys r) split.2 l))
