-- What is printed where an answer was made a line. Assumes nothing.
use Rattle.std.proofs.Common.{◌≡◌, ℕ, List, Ok, Err, Result, MatchResult, IsOkAnd, ap, ◌∙◌}
use Rattle.faults.specs.Refusals.{bench_refusal}
use Rattle.faults.specs.declared.grounds.BenchFault.{BenchFault}
use Rattle.bench_io.specs.Lines.{refusal_line, printed}

-- `text` has the line of an answer and of a fault, P what was told of the line that was made
pub printed_so : {A : Type 0} (text : Result A BenchFault → List ℕ) (r : Result A BenchFault) (s : Result (List ℕ) BenchFault) (P : A → List ℕ → Type 0)
    → MatchResult r (λ x. IsOkAnd s (P x)) (λ f. s ≡ Err f) → ((x : A) (l : List ℕ) → P x l → l ≡ text (Ok x)) → ((f : BenchFault) → refusal_line (bench_refusal f) ≡ text (Err f)) → printed s ≡ text r
printed_so text (Ok x) (Ok l) P m line fault = line x l m
printed_so text (Ok x) (Err f) P m line fault = absurd m
printed_so text (Err f) s P m line fault = ap printed m ∙ fault f
