use Rattle.std.proofs.Common.{◌≡◌, ◌+◌, ◌*◌, ◌≤◌, map, drop, sym, ap, ◌∙◌, arith}
use Rattle.timetable.specs.Hours.{opens_at, next}
use Rattle.order.specs.Orders.{apply, applied, opening}
use Rattle.order.specs.Views.{view}
use Rattle.order.proofs.Openings.{in_range, apply_open, apply_latest, applied_more, applied_all}
use Rattle.order.proofs.kind.Orders.opening.Goals as goal

pub loop-order-preserved : goal.loop-order-preserved
loop-order-preserved c =
    let table = c.args.timetable.now.bytes in
    let ever = c.args.timetable.now.opens in
    let os = c.as_slice-orders.result.now in
    let i = c.loop-order.order-index in
    let o = c.order-item.result in
    let before = c.loop-order.hour in
    let after = c.after-hour.ensures in
    let here : apply table before (view o) ≤ 1000167 + 840 * i + 840 = apply_latest table ever (1000167 + 840 * i) before (view o) c.loop-order.invariant.2 c.loop-order.invariant.1 (omega arith) (in_range o) in (
      ap (λ h. applied table h (map view (drop (i + 1) os))) (after ∙ ap (λ x. apply table before (view x)) c.order-item.is)
          ∙ sym (applied_more table before os i o c.loop-order-test.true)
          ∙ c.loop-order.invariant.0,
      omega (arith, after),
      ap (opens_at table) after ∙ apply_open table ever before (view o),
    )

pub returns-clause-value : goal.returns-clause-value
unfolding opening
returns-clause-value c =
    let table = c.args.timetable.now.bytes in
    let os = c.as_slice-orders.result.now in
    let start : c.from-from.result ≡ c.args.base.hour = c.from-from.ensures ∙ c.hour.ensures.value in
    sym (applied_all table c.loop-order.hour os c.loop-order.order-index c.loop-order-test.false)
    ∙ c.loop-order.invariant.0
    ∙ ap (λ h. applied table h (map view os)) (c.wait.ensures.value ∙ ap (next table) start)
    ∙ ap (applied table (next table c.args.base.hour)) c.as_slice-orders.ensures.value
