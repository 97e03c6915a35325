use Rattle.std.proofs.Common.{◌≡◌, ◌+◌, ◌*◌, ◌≤◌, ◌++◌, length, drop, sym, refl, ap, ◌∙◌, subst, arith}
use Rattle.std.proofs.lemmas.List.{take_rest, length-map}
use Rattle.words.proofs.Bytes.{below_from}
use Rattle.order.specs.Orders.{AllInRange}
use Rattle.order.specs.Views.{view, listed}
use Rattle.order.proofs.Openings.{all_in_range}
use Rattle.sheet.specs.Sheets.{head, sheet}
use Rattle.sheet.specs.Contents.{Contents}
use Rattle.sheet.proofs.Written.{length_sheet, reads_back}
use Rattle.sheet.proofs.Puts.{put_sheet}
use Rattle.sheet.proofs.writing.write.Goals as goal

pub returns-then-out-total-clause-fills : goal.returns-then-out-total-clause-fills
returns-then-out-total-clause-fills c =
    let t = c.args.timetable.now in
    let lines = c.as_slice-lines.result.now in
    let count : length (listed c.args.orders.now) ≡ length lines = ap length (sym c.as_slice-lines.ensures.value) ∙ length-map lines view in
    let long = length_sheet c.args.name.now c.args.base.hour t.bytes (listed c.args.orders.now) in
    (refl, omega (arith, t.long), refl)

pub returns : goal.returns
returns c =
    let t = c.args.timetable.now in
    let lines = c.as_slice-lines.result.now in
    let value = c.as_slice-lines.ensures.value in
    let name = c.args.name.now in
    let base = c.args.base.hour in
    let old = c.args.out.now in
    let os = listed c.args.orders.now in
    let count : length os ≡ length lines = ap length (sym value) ∙ length-map lines view in
    let long = length_sheet name base t.bytes os in
    let total : 37 + 5 * length lines ≡ length (sheet name base t.bytes os) = omega (arith, t.long) in
    let room : 37 + 5 * length lines ≤ length old = omega arith in
    let few : length os ≤ 64 = omega (arith, c.as_slice-lines.ensures.few) in
    let front : c.put_head.new.out ≡ head (length lines) base name t.bytes ++ drop 37 old =
    c.put_head.ensures ∙ (λ i. head (length lines) (c.hour.ensures.value i) name (c.bytes.ensures i) ++ drop 37 old) in
    let after = put_sheet name base t.bytes lines old c.put_head.new.out _ _ _ _ _ _ c.told-name t.long front (take_rest c.put_head.new.out 37) c.put_letters.ensures (omega arith)
    (take_rest _ (37 + length lines)) c.put_amounts.ensures (omega arith)
    ∙ ap (λ xs. sheet name base t.bytes xs ++ drop (37 + 5 * length lines) old) value in
    let contents : Contents name base t.bytes os = record {
      named = (c.told-name, below_from 256 name c.fits-name);
      based = c.args.base.most;
      tabled = (t.long, below_from 256 t.bytes t.fits);
      opens = t.opens;
      few = few;
      ranged = subst AllInRange value (all_in_range lines);
    } in
    record {
      fills = (total, room, after);
      reads_back = reads_back name base t.bytes os contents (37 + 5 * length lines) old _ total after;
    }
