use Rattle.std.proofs.Common.{rules, tests}
use Rattle.std.proofs.lemmas.Iterator.{YieldsList-from_slice}
use Rattle.std.proofs.lemmas.Iterator.Consumers.{YieldsList-from_enumerate, YieldsList-from_filter, YieldsList-at}
use Rattle.order_table.proofs.Best.{in_force, numbered, greatest, picks_last}
use Rattle.order_table.proofs.finding.longest_of.Goals as goal

pub returns : goal.returns
returns c =
    let ls = c.args.lines.now in
    let numbered_lines = YieldsList-from_enumerate (YieldsList-at c.enumerate.ensures.source (YieldsList-from_slice ls c.iter.ensures.rest)) c.enumerate.ensures.count in
    picks_last ls _ _
    (greatest numbered c.max_by_key.result c.max_by_key.ensures.ran
    (YieldsList-from_filter _ in_force (YieldsList-at c.filter.ensures.source numbered_lines) c.filter.ensures.closure (λ x b q k. search (rules, tests)))
    (λ x n q k. search rules))
    (search rules)
