use Rattle.std.proofs.Common.{refl}
use Rattle.timetable.specs.Hours.{opens_at, some_open, ever_open}
use Rattle.timetable.proofs.Hours.{ones_fit}
use Rattle.timetable.proofs.table.Timetable.always.Goals as goal

pub invariant_of-result : goal.invariant_of-result
unfolding opens_at some_open ever_open
invariant_of-result c = record { long = refl; fits = ones_fit 21; opens = refl }
