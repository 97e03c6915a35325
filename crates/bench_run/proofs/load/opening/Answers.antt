use Rattle.std.proofs.Common.{◌≡◌, ap, ◌∙◌}
use Rattle.order.specs.Orders.{opening}
use Rattle.order.specs.Views.{listed}
use Rattle.sheet.specs.Reading.{base, table, orders}
use Rattle.bench_run.specs.Bench.{sheet_opening}
use Rattle.bench_run.proofs.load.opening.Goals as goal

pub returns : goal.returns
unfolding sheet_opening
returns c =
    let bs = c.args.sheet.now in
    let is = c.in_ok-reader.ensures.opened.0 in
    let hour : c.in_ok-base.base.hour ≡ base bs = c.in_ok-base.ensures.0 ∙ c.base_hour.ensures ∙ ap base is in
    let week : c.in_ok-timetable.timetable.bytes ≡ table bs = c.in_ok-timetable.ensures.0 ∙ c.timetable.ensures ∙ ap table is in
    let lines : listed c.load.result ≡ orders bs = c.load.ensures ∙ ap orders is in
    (c.in_ok-reader.ensures.opened.1.accepted.faultless, c.opening.ensures.value ∙ (λ i. opening (week i) (hour i) (lines i)))
