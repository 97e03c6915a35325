use Rattle.std.proofs.Common.{set, ap, ◌∙◌}
use Rattle.order.specs.Views.{view}
use Rattle.sheet.proofs.Puts.{letters_more}
use Rattle.sheet.proofs.writing.put_letters.Goals as goal

pub loop-i-preserved : goal.loop-i-preserved
loop-i-preserved c =
    let i = c.loop-i.i in
    let o = c.index-orders-i.result in
    ap (set c.loop-i.out i) (c.letter.ensures ∙ ap (λ x. (view x).letter) c.index-orders-i.is)
    ∙ letters_more c.args.orders.now c.args.out.now c.loop-i.out i o c.loop-i-test.true c.requires c.loop-i.invariant
