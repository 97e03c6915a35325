use Rattle.std.proofs.Common.{◌≡◌, ◌*◌, ◌++◌, map, take, drop}
use Rattle.order.specs.Views.{view}
use Rattle.sheet.specs.Sheets.{amounts}
use Rattle.sheet.proofs.writing.put_amounts.Given as goal

abbrev pub invariant-loop-i : goal.invariant-loop-i
invariant-loop-i l = l.out ≡ amounts (map view (take l.i l.orders)) ++ drop (4 * l.i) l.initial.out
