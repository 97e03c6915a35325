use Rattle.std.proofs.Common.{◌^◌, ◌<◌, arith}
use Rattle.order.specs.Views.{view}
use Rattle.order.proofs.Keys.{key_words_are}
use Rattle.order.proofs.kind.Order.key_words.Goals as goal

pub returns : goal.returns
returns c =
    let fits : (view c.args.self).amount < 2 ^ 32 = omega (arith, c.amount.ensures.value, c.amount.ensures.most) in
    let e = key_words_are c.args.name.now (view c.args.self) c.told-name fits in
    cc
