use Rattle.std.proofs.Common.{◌≡◌, Ok, Err, sym, ap, ◌∙◌, subst, arith}
use Rattle.std.proofs.lemmas.Result.{err_from_is_err_and}
use Rattle.faults.specs.declared.grounds.CipherFault.TheVariants.{Block}
use Rattle.book.specs.Told.{told}
use Rattle.bench_full.specs.Bench.{Shows, shown}
use Rattle.bench_full.proofs.Outcomes.{no_register, not_loaded, good_sheet, cut_so}
use Rattle.bench_full.proofs.run.answer_over.Goals as goal

pub returns-in_err-register : goal.returns-in_err-register
returns-in_err-register g c =
    let p = err_from_is_err_and c.from_residual.result c.from_residual.ensures.1 in
    let none_left = c.in_err-register.ensures.ok_part in
    let short = rw none_left at c.split_at_checked.ensures.cases in
    let fault = rw none_left at c.in_err-register.ensures.value in
    let block : c.in_err-register.field-0.0 ≡ Block = cc fault in
    rw (p.1, p.2, block) (no_register (g.C.Cipher.meaning c.args.cipher) c.args.rest.now (omega (arith, short, c.width-n.ensures)))

pub returns-in_err-book : goal.returns-in_err-book
returns-in_err-book g c =
    let p = err_from_is_err_and c.from_residual-in_err-book.result c.from_residual-in_err-book.ensures.1 in
    let rest = c.args.rest.now in
    let fault = c.in_err-book.field-0.0 in
    let split = rw c.in_ok-register.ensures.ok_part at c.split_at_checked.ensures.cases in
    let l = cut_so g.C.Cipher.meaning c.args.cipher rest _ _ c.width-n.result (Err fault) c.width-n.ensures split c.in_err-book.ensures in
    rw (p.1, p.2) (not_loaded g.C.Cipher.meaning c.args.cipher rest fault (omega (arith, split.0, c.width-n.ensures)) l)

pub returns : goal.returns
returns g c =
    let m = g.C.Cipher.meaning c.args.cipher in
    let rest = c.args.rest.now in
    let b = c.in_ok-book.book in
    let split = rw c.in_ok-register.ensures.ok_part at c.split_at_checked.ensures.cases in
    let l = cut_so g.C.Cipher.meaning c.args.cipher rest _ _ c.width-n.result (Ok b) c.width-n.ensures split c.in_ok-book.ensures in
    let asked : Shows m (told m b) c.ask.result = subst (λ k. Shows (g.C.Cipher.meaning k) (told (g.C.Cipher.meaning k) b) c.ask.result) l.2 c.ask.ensures in
    good_sheet m rest (omega (arith, split.0, c.width-n.ensures)) l.1 ∙ sym (asked ∙ ap (shown m) l.3)
