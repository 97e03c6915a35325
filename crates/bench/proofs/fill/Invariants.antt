use Rattle.std.proofs.Common.{◌-◌, ◌≤◌}
use Rattle.bench.proofs.fill.Given as goal

abbrev pub invariant-loop-count : goal.invariant-loop-count
invariant-loop-count g l = l.count ≤ 512

abbrev pub decreases-loop-count : goal.decreases-loop-count
decreases-loop-count g l = 512 - l.count
