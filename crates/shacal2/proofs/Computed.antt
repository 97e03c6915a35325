-- The known values, by computing. Assumes nothing.
use Rattle.std.proofs.Common.{refl}
use Rattle.words.specs.Steps.{grown, forth}
use Rattle.shacal2.specs.Shacal2.{fresh, words, constants, front, sum, turn, step, run, Enc}
use Rattle.shacal2.specs.Known.{Known}

pub computed : Known
unfolding grown forth fresh words constants front sum turn step run Enc
computed = record { first = refl; digest = refl }
