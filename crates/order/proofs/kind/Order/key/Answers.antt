use Rattle.std.proofs.Common.{ap, ◌∙◌}
use Rattle.words.specs.Words.{word_bytes}
use Rattle.order.specs.Views.{view}
use Rattle.order.proofs.Keys.{key_bytes_are}
use Rattle.order.proofs.kind.Order.key.Goals as goal

pub returns : goal.returns
returns c =
    key_bytes_are c.args.name.now (view c.args.self) c.letter.result c.to_be_bytes.result c.told-name c.letter.ensures
    (c.to_be_bytes.ensures ∙ ap word_bytes c.amount.ensures.value)
