-- The words of one message's digest, in the caller's row. Assumes nothing.
use Rattle.std.proofs.Common.{◌≡◌, ℕ, Bool, true, false, List, length, take, Ok, Err, Result, MatchResult, sym, refl, ap, ◌∙◌, subst, arith, Bor}
use Rattle.std.specs.List.{flat_map}
use Rattle.std.proofs.lemmas.List.{length-take-le}
use Rattle.faults.specs.declared.grounds.MessageFault.{MessageFault}
use Rattle.words.specs.Blocks.{held}
use Rattle.words.specs.declared.block.Block.{Block}
use Rattle.sha.specs.Answers.{Sums}
use Rattle.sha.specs.Sha.{sha1, sha256}
use Rattle.perf_hash.specs.Exports.{Leaves}

pub five : (msg : List ℕ) → length (sha1 msg) ≡ 5
unfolding sha1
five msg = refl

pub eight : (msg : List ℕ) → length (sha256 msg) ≡ 8
unfolding sha256
eight msg = refl

-- what a standard of n words leaves, once its digest is handed out
pub left : (standard : List ℕ → List ℕ) (n : ℕ) (parts : List (Bor (List ℕ))) (msg old new : List ℕ) (answer : Bool) (r : Result Block MessageFault) → ((m : List ℕ) → length (standard m) ≡ n)
    → flat_map (λ x. x.now) parts ≡ msg → Sums standard parts r → MatchResult r (λ block. (answer ≡ true) × (new ≡ take n block.words)) (λ f. (answer ≡ false) × (new ≡ old))
    → Leaves standard msg old new answer
left standard n parts msg old new answer (Ok b) long same h k =
    let is : held b ≡ standard msg = h.1 ∙ ap standard same in
    let count : b.count ≡ n = sym (length-take-le b.count b.words (omega (arith, b.full, b.most))) ∙ ap length is ∙ long msg in
    subst (Leaves standard msg old new) (sym k.0) (omega (arith, h.0, ap length same), k.1 ∙ ap (λ (j : ℕ). take j b.words) (sym count) ∙ is)
left standard n parts msg old new answer (Err f) long same h k =
    subst (Leaves standard msg old new) (sym k.0) (omega (arith, h.1, ap length same), k.1)
