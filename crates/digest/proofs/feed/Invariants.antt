use Rattle.std.proofs.Common.{◌≡◌, ◌-◌, length}
use Rattle.hash.specs.Messages.{limit}
use Rattle.digest.proofs.feed.Given as goal

abbrev pub invariant-loop-got : goal.invariant-loop-got
invariant-loop-got g l = length l.piece ≡ length l.initial.piece

abbrev pub decreases-loop-got : goal.decreases-loop-got
decreases-loop-got g l = limit - l.message.count
