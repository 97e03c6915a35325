-- The lines that both benches print. Assumes nothing.
use Rattle.std.specs.Prelude.{ℕ, List, ◌++◌, Ok, Err, Result, codes, decimal}
use Rattle.faults.specs.Refusals.{label, bench_refusal}
use Rattle.faults.specs.declared.grounds.BenchFault.{BenchFault}
use Rattle.faults.specs.declared.layer.Refusal.{Refusal}

-- "refused NUMBER LAYER PLACE" and a line end
unfoldable pub refusal_line : Refusal → List ℕ
refusal_line r = codes "refused " ++ decimal r.number ++ codes " " ++ label r.layer ++ codes " " ++ decimal r.place ++ codes "\n"

-- "opening HOUR" and a line end
unfoldable pub opening_line : ℕ → List ℕ
opening_line hour = codes "opening " ++ decimal hour ++ codes "\n"

-- what was found, or the line of the fault
abbrev pub printed : Result (List ℕ) BenchFault → List ℕ
printed (Ok line) = line
printed (Err f) = refusal_line (bench_refusal f)
