-- What is chosen by a byte in front of an input is chosen by its mark. Assumes nothing.
use Rattle.std.proofs.Common.{◌≡◌, ℕ, Bool, true, false, cond, eqb, refl, ap, ◌∙◌}
use mathlib.Core.Option.{Option, none, some}
use Rattle.bench_io.specs.declared.mark.Mark.{Mark}
use Rattle.bench_io.specs.declared.mark.Mark.TheVariants.{Shacal1, Shacal2, Practice}
use Rattle.bench_io.specs.Marks.{mark_of}

module _ {A : Type 0} (f : Mark → A) where
  -- what is chosen by a mark, if there is one
  abbrev pub chosen : Option Mark → Option A
  chosen none = none
  chosen (some m) = some (f m)

  by_tests : (p q r : Bool) → cond p (some (f Shacal1)) (cond q (some (f Shacal2)) (cond r (some (f Practice)) none)) ≡ chosen (cond p (some Shacal1) (cond q (some Shacal2) (cond r (some Practice) none)))
  by_tests true q r = refl
  by_tests false true r = refl
  by_tests false false true = refl
  by_tests false false false = refl

  pub by_mark : (b : ℕ) (o : Option Mark) → mark_of b ≡ o → cond (eqb b 0x31) (some (f Shacal1)) (cond (eqb b 0x32) (some (f Shacal2)) (cond (eqb b 0x50) (some (f Practice)) none)) ≡ chosen o
  by_mark b o e = by_tests (eqb b 0x31) (eqb b 0x32) (eqb b 0x50) ∙ ap chosen e
