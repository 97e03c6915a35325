use Rattle.std.proofs.Common.{◌+◌, ◌-◌, map, length, drop, ap, ◌∙◌, arith}
use Rattle.std.proofs.lemmas.List.{take_all, length-drop}
use Rattle.order_table.specs.Lines.{orders}
use Rattle.order_table.specs.Views.{view}
use Rattle.order_table.proofs.Lined.{fault, marks, numbers, leaves}
use Rattle.order_table.proofs.line.Table.undo.Goals as goal

pub returns : goal.returns
returns c =
    let t = c.args.self.now in
    let found = c.in_ok-at.ensures in
    let i = c.in_ok-at.at in
    let same = c.lines.ensures.value in
    let us = c.lines.result.now in
    let vs = c.lines-2.result.now in
    let d = c.index-self-at.result in
    let e = c.index-self-at-2.result in (
      fault t.count t.lines us vs c.args.number i d e same found,
      marks t.count t.lines us vs c.args.number i d e same found,
      numbers t.count t.lines us vs c.args.number i d e same found,
      leaves t.count t.lines us vs c.args.number i d e same found _ c.lines-2.ensures.value
          (c.in_force_of.ensures ∙ ap (λ xs. orders (map view xs)) (take_all (length vs - (i + 1)) (drop (i + 1) vs) (simp length-drop (omega arith)))),
    )
