use Rattle.std.proofs.Common.{◌++◌, ap, ◌∙◌}
use Rattle.order.specs.Views.{view, listed}
use Rattle.order.proofs.Listing.{pushed_room}
use Rattle.sheet.specs.Reading.{orders}
use Rattle.sheet.specs.Rest.{rest}
use Rattle.sheet.proofs.Opened.{few_orders, walk_more}
use Rattle.bench_run.proofs.load.load.Goals as goal

pub loop-order-preserved : goal.loop-order-preserved
loop-order-preserved c =
    let r = c.args.reader.now in
    let bs = r.sheet.bytes.now in
    let o = c.in-Some.order in
    let walk = walk_more (orders bs) (listed c.loop-order.orders) (rest c.loop-order.rest) (rest c.next.new.self) (view o) c.loop-order.invariant c.in-Some.ensures.steps (few_orders bs r.faultless) in
    let more = pushed_room c.loop-order.orders c.push.new.self o c.push.result c.push.ensures walk.0 in
    ap (λ os. os ++ rest c.next.new.self) more ∙ walk.1
