use Rattle.std.proofs.Common.{◌≡◌, ap, ◌∙◌, subst, arith}
use Rattle.timetable.specs.Hours.{ever_open}
use Rattle.sheet.specs.Reading.{orders}
use Rattle.sheet.proofs.Faultless.{none_fault}
use Rattle.ledger.specs.Ledgers.{Ledger}
use Rattle.book.specs.Told.{told}
use Rattle.loading.specs.Loaded.{entered, loaded}
use Rattle.loading.proofs.Entered.{opened}
use Rattle.loading.proofs.open.Goals as goal

pub enter_all-requires : goal.enter_all-requires
enter_all-requires g c =
    let f = none_fault c.args.reader.now.sheet.bytes.now c.args.reader.now.faultless in
    let o = opened g.C.Cipher.meaning c.args.cipher c.new-book.result c.set_up.new.self _ _ c.new-book.ensures.same c.new-book.ensures.blank c.set_up.ensures
    c.requires (omega (arith, c.base_hour.ensures, f.1.based)) (ap ever_open c.timetable.ensures ∙ f.1.opens) in
    ap (λ (l : Ledger). l.lines) o.1

pub returns : goal.returns
unfolding loaded
returns g c =
    let bs = c.args.reader.now.sheet.bytes.now in
    let f = none_fault bs c.args.reader.now.faultless in
    let o = opened g.C.Cipher.meaning c.args.cipher c.new-book.result c.set_up.new.self _ _ c.new-book.ensures.same c.new-book.ensures.blank c.set_up.ensures
    c.requires (omega (arith, c.base_hour.ensures, f.1.based)) (ap ever_open c.timetable.ensures ∙ f.1.opens) in
    let final = c.enter_all.new.book in
    let after : told (g.C.Cipher.meaning c.set_up.new.self.cipher) final ≡ loaded c.args.start.now bs =
    c.enter_all.ensures.after
    ∙ ap (λ (l : Ledger). record { given = l.given; lines = entered (orders bs) }) o.1
    ∙ (λ j. record { given = record { name = c.name.ensures j; base = c.base_hour.ensures j; table = c.timetable.ensures j; start = c.args.start.now }; lines = entered (orders bs) }) in
    record {
      same = c.enter_all.ensures.same ∙ o.0;
      value = subst (λ k. told (g.C.Cipher.meaning k) final ≡ loaded c.args.start.now bs) o.0 after;
    }
