use Rattle.std.proofs.Common.{sym, ap, ◌∙◌}
use Rattle.std.proofs.lemmas.Result.{err_from_is_err_and}
use Rattle.words.proofs.Bytes.{below_from}
use Rattle.sheet.specs.Reading.{first, size_checks, sheet_fault}
use Rattle.sheet.proofs.Laws.{one_sheet}
use Rattle.sheet.proofs.Opened.{sizes_failed, set_up_failed, then_orders}
use Rattle.sheet.proofs.reading.Reader.open.Goals as goal

pub returns-in_err-sheet-clause-refused : goal.returns-in_err-sheet-clause-refused
returns-in_err-sheet-clause-refused c =
    let p = err_from_is_err_and c.from_residual.result c.from_residual.ensures.1 in
    rw (p.1, p.2) (sizes_failed c.args.bytes.now _ c.in_err-sheet.ensures.tells)

pub returns-in_err-check_set_up-clause-refused : goal.returns-in_err-check_set_up-clause-refused
returns-in_err-check_set_up-clause-refused c =
    let p = err_from_is_err_and c.from_residual-in_err-check_set_up.result c.from_residual-in_err-check_set_up.ensures.1 in
    let same = c.in_ok-sheet.ensures.same in
    let sizes = ap (λ bs. first (size_checks bs)) same ∙ c.in_ok-sheet.ensures.tells in
    rw (p.1, p.2) (ap sheet_fault (sym same) ∙ set_up_failed c.in_ok-sheet.sheet.bytes.now _ sizes c.in_err-check_set_up.ensures)

pub returns-in_err-check_orders-clause-refused : goal.returns-in_err-check_orders-clause-refused
returns-in_err-check_orders-clause-refused c =
    let p = err_from_is_err_and c.from_residual-in_err-check_orders.result c.from_residual-in_err-check_orders.ensures.1 in
    let same = c.in_ok-sheet.ensures.same in
    let sizes = ap (λ bs. first (size_checks bs)) same ∙ c.in_ok-sheet.ensures.tells in
    rw (p.1, p.2) (ap sheet_fault (sym same) ∙ then_orders c.in_ok-sheet.sheet.bytes.now sizes c.in_ok-check_set_up.ensures ∙ c.in_err-check_orders.ensures)

pub invariant_of-result : goal.invariant_of-result
invariant_of-result c =
    let sizes = ap (λ bs. first (size_checks bs)) c.in_ok-sheet.ensures.same ∙ c.in_ok-sheet.ensures.tells in
    record { faultless = then_orders c.in_ok-sheet.sheet.bytes.now sizes c.in_ok-check_set_up.ensures ∙ c.in_ok-check_orders.ensures }

pub returns-clause-opened : goal.returns-clause-opened
returns-clause-opened c =
    let bs = c.args.bytes.now in
    let same = c.in_ok-sheet.ensures.same in
    let sizes = ap (λ bs. first (size_checks bs)) same ∙ c.in_ok-sheet.ensures.tells in (
      same,
      one_sheet bs (record {
        bytes = below_from 256 bs (λ k. (c.type_inv.bytes k).fits);
        faultless = ap sheet_fault (sym same) ∙ then_orders c.in_ok-sheet.sheet.bytes.now sizes c.in_ok-check_set_up.ensures ∙ c.in_ok-check_orders.ensures;
      }),
    )
