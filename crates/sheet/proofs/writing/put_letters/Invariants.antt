use Rattle.std.proofs.Common.{◌≡◌, ◌++◌, map, take, drop}
use Rattle.order.specs.Views.{view}
use Rattle.sheet.specs.Sheets.{letters}
use Rattle.sheet.proofs.writing.put_letters.Given as goal

abbrev pub invariant-loop-i : goal.invariant-loop-i
invariant-loop-i l = l.out ≡ letters (map view (take l.i l.orders)) ++ drop l.i l.initial.out
