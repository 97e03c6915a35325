use Rattle.std.proofs.Common.{ap, ◌∙◌, arith}
use Rattle.words.specs.Words.{word_bytes}
use Rattle.order.specs.Views.{view}
use Rattle.sheet.proofs.Puts.{amounts_more}
use Rattle.sheet.proofs.writing.put_amounts.Goals as goal

pub loop-i-preserved : goal.loop-i-preserved
loop-i-preserved c =
    amounts_more c.args.orders.now c.args.out.now c.loop-i.out c.loop-i.i c.index-orders-i.result c.loop-i-test.true _ _ (omega arith)
    (c.copy_from_slice.ensures.after ∙ c.to_be_bytes.ensures ∙ ap word_bytes (c.amount.ensures.value ∙ ap (λ x. (view x).amount) c.index-orders-i.is))
    c.loop-i.invariant
