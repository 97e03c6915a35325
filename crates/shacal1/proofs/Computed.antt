-- The known values, by computing. Assumes nothing.
use Rattle.std.proofs.Common.{refl}
use Rattle.words.specs.Steps.{grown, forth}
use Rattle.shacal1.specs.Shacal1.{fresh, words, mix, constant, sum, turn, step, run, Enc}
use Rattle.shacal1.specs.Known.{Known}

pub computed : Known
unfolding grown forth fresh words mix constant sum turn step run Enc
computed = record { w16 = refl; w19 = refl; first = refl; digest = refl }
