-- `State::unturn` is the step of the specification. Assumes nothing.
use Rattle.shacal1.specs.Shacal1.{unturn, sum}
use Rattle.shacal1.proofs.steps.State.unturn.Goals as goal

pub returns : goal.returns
unfolding unturn sum
returns g c = cc
