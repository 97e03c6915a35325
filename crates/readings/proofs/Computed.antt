-- The readings, by computing. Assumes nothing.
use Rattle.std.proofs.Common.{refl}
use Rattle.std.specs.Fmt.{digits}
use Rattle.timetable.specs.Hours.{opens_at, some_open, ever_open, seek, next}
use Rattle.order.specs.Orders.{apply, applied, opening}
use Rattle.sheet.specs.Reading.{sheet_fault}
use Rattle.bench_io.specs.Lines.{refusal_line, opening_line}
use Rattle.bench_run.specs.Bench.{sheet_opening, outcome, bench}
use Rattle.hash.specs.Digests.{padded, cut, chain, digest}
use Rattle.shacal1.proofs.Computed as one
use Rattle.shacal2.proofs.Computed as two
use Rattle.readings.specs.Readings.{Readings}

pub computed : Readings
unfolding padded cut chain digest digits opens_at some_open ever_open seek next apply applied opening sheet_fault refusal_line opening_line sheet_opening outcome bench
computed = record {
  same_day = refl;
  last_hour = refl;
  weekend = refl;
  base_open = refl;
  one_delay = refl;
  two_delays = refl;
  first_undone = refl;
  passed = refl;
  ahead = refl;
  bound_met = refl;
  key_of = refl;
  run = refl;
  amount_over = refl;
  amount_zero = refl;
  no_input = refl;
  no_mark = refl;
  no_register = refl;
  no_sheet = refl;
  shacal1 = one.computed;
  shacal2 = two.computed;
  practice_adds = refl;
  practice_takes = refl;
  practice_empty = refl;
  practice_abc = refl;
  one_block = refl;
  two_blocks = refl;
}
