use Rattle.std.proofs.Common.{◌++◌, map, sym, refl, ap, ◌∙◌}
use Rattle.std.proofs.lemmas.List.{map_push}
use Rattle.order.specs.Views.{view}
use Rattle.order.proofs.Openings.{in_range}
use Rattle.sheet.specs.Reading.{orders}
use Rattle.sheet.specs.Rest.{rest}
use Rattle.sheet.proofs.Opened.{few_orders, walk_more}
use Rattle.ledger.specs.Calls.{enter}
use Rattle.book.specs.Told.{told}
use Rattle.loading.specs.Loaded.{entered}
use Rattle.loading.proofs.Entered.{entered_none, enters_next, by_first}
use Rattle.loading.proofs.enter_all.Goals as goal

pub loop-order-init : goal.loop-order-init
loop-order-init g c =
    let b = c.args.book.now in
    let m = g.C.Cipher.meaning b.cipher in
    record {
      same = refl;
      lines = λ j. record { given = (told m b).given; lines = (c.requires ∙ entered_none) j };
      walked = c.orders-rest.ensures;
    }

pub loop-order-preserved : goal.loop-order-preserved
loop-order-preserved g c =
    let r = c.args.reader.now in
    let bs = r.sheet.bytes.now in
    let b = c.args.book.now in
    let m = g.C.Cipher.meaning b.cipher in
    let inv = c.loop-order.invariant in
    let o = c.in-Some.order in
    let done = map view c.loop-order.yielded in
    let more = map_push view c.loop-order.yielded o in
    let walk = walk_more (orders bs) done (rest c.loop-order.rest) (rest c.next.new.self) (view o) inv.walked c.in-Some.ensures.steps (few_orders bs r.faultless) in
    let e = by_first g.C.Cipher.meaning b.cipher (enter c.from.result c.amount.result) c.loop-order.book c.enter.new.self _ inv.same c.enter.ensures in
    let entered_now = enters_next m (told m c.loop-order.book) (told m c.enter.new.self) (told m b).given done (view o) c.from.result c.amount.result inv.lines (in_range o) (c.from.ensures ∙ c.letter.ensures) c.amount.ensures.value walk.0 e in
    record {
      same = c.enter.ensures.same ∙ inv.same;
      lines = entered_now ∙ (λ j. record { given = (told m b).given; lines = entered (sym more j) });
      walked = ap (λ os. os ++ rest c.next.new.self) more ∙ walk.1;
    }
