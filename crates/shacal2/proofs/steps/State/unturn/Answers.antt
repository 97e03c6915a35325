-- `State::unturn` is the step of the definition. Assumes nothing.
use Rattle.shacal2.specs.Shacal2.{unturn, front, sum}
use Rattle.shacal2.proofs.steps.State.unturn.Goals as goal

pub returns : goal.returns
unfolding unturn front sum
returns c = cc
