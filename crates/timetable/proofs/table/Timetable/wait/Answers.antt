use Rattle.std.proofs.Common.{◌≡◌, ◌+◌, ◌%◌, true, false, rules}
use Rattle.std.proofs.lemmas.Iterator.{first_from_Range}
use borrow.Author.Tests.{tests}
use Rattle.timetable.specs.Hours.{opens_at, Next}
use Rattle.timetable.proofs.Hours.{waits_found, waits_next, next_once}
use Rattle.timetable.proofs.table.Timetable.wait.Goals as goal

pub returns : goal.returns
returns c =
    let table = c.args.self.now.bytes in
    let found = first_from_Range _ _ _ c.find.result (λ n. opens_at table (c.args.hour % 168 + n) ≡ true) (λ n. opens_at table (c.args.hour % 168 + n) ≡ false) c.find.ensures.ran
    (λ x q k. search (rules, tests)) (λ x q k. search (rules, tests)) in
    let (least, soon) = waits_found table c.args.hour c.find.result c.args.self.now.opens found in
    let is = c.unwrap_or.ensures in
    let here : Next table c.args.hour (c.args.hour + c.unwrap_or.result) = rw is least in
    record {
      least = here;
      only = λ h other. next_once table _ _ _ other here;
      value = waits_next table _ _ c.args.self.now.opens here;
      soon = rw is soon;
    }
