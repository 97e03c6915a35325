use Rattle.std.proofs.Common.{◌∙◌, arith}
use Rattle.words.proofs.Schedule.{rolled_none, rolled_more, rolled_all}
use Rattle.shacal1.specs.Shacal1.{fresh}
use Rattle.shacal1.proofs.Schedule.{fresh_from}
use Rattle.shacal1.proofs.renewed.Goals as goal

pub loop-i-init : goal.loop-i-init
loop-i-init c = rolled_none fresh c.args.w.now c.told-w

pub loop-i-preserved : goal.loop-i-preserved
loop-i-preserved c =
    rolled_more fresh c.args.w.now c.loop-i.r c.loop-i.i c.rotate_left.result c.told-w (omega arith) c.loop-i.invariant
    (c.rotate_left.ensures ∙ fresh_from c.args.w.now c.loop-i.r c.loop-i.i (omega arith) c.loop-i.invariant)

pub returns : goal.returns
returns c = rolled_all fresh c.args.w.now c.loop-i.r c.loop-i.i c.told-w (omega arith) (omega arith) c.loop-i.invariant
