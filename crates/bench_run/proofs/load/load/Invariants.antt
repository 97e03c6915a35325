use Rattle.std.proofs.Common.{◌≡◌, ◌++◌, length}
use Rattle.order.specs.Views.{listed}
use Rattle.sheet.specs.Reading.{orders}
use Rattle.sheet.specs.Rest.{rest}
use Rattle.bench_run.proofs.load.load.Given as goal

abbrev pub invariant-loop-order : goal.invariant-loop-order
invariant-loop-order l = listed l.orders ++ rest l.rest ≡ orders l.reader.sheet.bytes.now

abbrev pub decreases-loop-order : goal.decreases-loop-order
decreases-loop-order l = length (rest l.rest)
