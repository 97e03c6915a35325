use Rattle.std.proofs.Common.{⊎_elim, rules}
use Rattle.order_table.proofs.Lined.{found_none, found_past, found_undone, found_standing}
use Rattle.order_table.proofs.finding.find.Goals as goal

pub returns-then-number-lt1 : goal.returns-then-number-lt1
returns-then-number-lt1 c = ⊎_elim (found_none _ _) (λ h. found_past _ _ h.1) c.then-number-lt1.either

pub returns-then-lines-number : goal.returns-then-lines-number
returns-then-lines-number c = search (rules, found_undone)

pub returns : goal.returns
returns c = search (rules, found_standing)
