-- The mark in front of an input. Assumes nothing.
use Rattle.std.specs.Prelude.{◌≡◌, ℕ, cond, Ok, Err, Result, ◌==◌}
use Rattle.std.proofs.Math.Option.{Option, none, some}
use Rattle.faults.specs.declared.grounds.BenchFault.{BenchFault}
use Rattle.faults.specs.declared.grounds.BenchFault.TheVariants as fault
use Rattle.bench_io.specs.declared.mark.Mark.{Mark}
use Rattle.bench_io.specs.declared.mark.Mark.TheVariants.{Shacal1, Shacal2, Practice}

-- '1' is SHACAL-1, '2' SHACAL-2, 'P' the practice cipher
abbrev pub mark_of : ℕ → Option Mark
mark_of b = cond (b == 0x31) (some Shacal1) (cond (b == 0x32) (some Shacal2) (cond (b == 0x50) (some Practice) none))

-- how many bytes the cipher's start register has
abbrev pub register_length : Mark → ℕ
register_length Shacal1 = 20
register_length Shacal2 = 32
register_length Practice = 8

-- a byte is read as a mark, or refused where it is none
abbrev pub Marks : ℕ → Result Mark BenchFault → Type 0
Marks b (Ok m) = mark_of b ≡ some m
Marks b (Err f) = (f ≡ fault.Mark) × (mark_of b ≡ none)
