use Rattle.std.proofs.Common.{arith}
use Rattle.words.proofs.Schedule.{rolled_none, rolled_all}
use Rattle.shacal2.specs.Shacal2.{fresh}
use Rattle.shacal2.proofs.schedule.renewed.Goals as goal

pub returns : goal.returns
returns c =
    let k = c.args.w.now in
    rolled_all fresh k c.renew-2.new.r 16 c.told-w (omega arith) (omega arith)
    (c.renew-2.ensures.rolled k c.told-w (c.renew.ensures.rolled k c.told-w (rolled_none fresh k c.told-w)))
