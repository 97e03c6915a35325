use Rattle.std.proofs.Common.{refl}
use Rattle.readings.proofs.Computed.{computed}
use Rattle.readings.proofs.readings.Goals as goal

pub returns : goal.returns
returns c = record { stand = computed; value = refl }
