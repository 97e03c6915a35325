-- `State::turn` is the step of the specification. Assumes nothing.
use Rattle.shacal1.specs.Shacal1.{turn, sum}
use Rattle.shacal1.proofs.steps.State.turn.Goals as goal

pub returns : goal.returns
unfolding turn sum
returns g c = cc
