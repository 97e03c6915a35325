use Rattle.std.proofs.Common.{refl}
use Rattle.book_readings.proofs.Computed.{computed}
use Rattle.book_readings.proofs.book_readings.Goals as goal

pub returns : goal.returns
returns c = record { stand = computed; value = refl }
