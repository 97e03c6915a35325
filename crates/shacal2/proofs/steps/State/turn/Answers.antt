-- `State::turn` is the step of the definition. Assumes nothing.
use Rattle.shacal2.specs.Shacal2.{turn, front, sum}
use Rattle.shacal2.proofs.steps.State.turn.Goals as goal

pub returns : goal.returns
unfolding turn front sum
returns c = cc
