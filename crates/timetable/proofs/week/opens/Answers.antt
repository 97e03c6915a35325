use Rattle.std.proofs.Common.{refl}
use Rattle.timetable.specs.Hours.{opens_at}
use Rattle.timetable.proofs.week.opens.Goals as goal

pub returns : goal.returns
unfolding opens_at
returns c = refl
