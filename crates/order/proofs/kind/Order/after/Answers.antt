use Rattle.std.proofs.Common.{ap, ◌∙◌}
use Rattle.timetable.specs.Hours.{next}
use Rattle.order.specs.Orders.{apply}
use Rattle.order.proofs.kind.Order.after.Goals as goal

pub returns : goal.returns
unfolding apply
returns c = c.wait.ensures.value ∙ ap (next c.args.timetable.now.bytes) c.earliest-from.ensures.value
