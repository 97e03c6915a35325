use Rattle.std.proofs.Common.{◌≡◌, true, false, refl, rules}
use Rattle.std.proofs.lemmas.Iterator.{cases_from_any, YieldsList-from_range}
use borrow.Author.Tests.{tests}
use Rattle.timetable.specs.Hours.{opens_at}
use Rattle.timetable.proofs.Hours.{ever_open_found}
use Rattle.timetable.proofs.week.any_open.Goals as goal

pub returns : goal.returns
returns c =
    let table = c.args.bytes.now in
    ever_open_found table c.any.result (cases_from_any _ _ _ (λ h. opens_at table h ≡ true) (λ h. opens_at table h ≡ false) c.any.ensures.ran
    (YieldsList-from_range 0 168 168 refl refl) (λ x q k. search (rules, tests)) (λ x q k. search (rules, tests)))
