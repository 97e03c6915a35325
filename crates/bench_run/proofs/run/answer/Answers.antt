use Rattle.std.proofs.Common.{◌≡◌, ◌<◌, ◌≤◌, length, get_or, rules}
use mathlib.Core.Option.{none}
use Rattle.std.proofs.lemmas.List.{take_rest}
use Rattle.std.proofs.lemmas.Result.{err_from_is_err_and}
use Rattle.bench_io.specs.Marks.{register_length}
use Rattle.bench_io.proofs.ByMark.{by_mark}
use Rattle.faults.specs.declared.grounds.CipherFault.TheVariants.{Block}
use Rattle.bench_run.proofs.Outcomes.{no_input, no_mark, registered, no_register, bad_sheet, good_sheet}
use Rattle.bench_run.proofs.run.answer.Goals as goal

pub returns-in_default : goal.returns-in_default
returns-in_default c = let h : length c.args.input.now < 1 = search rules in no_input c.args.input.now h

pub returns-in_err-try_from : goal.returns-in_err-try_from
returns-in_err-try_from c =
    let input = c.args.input.now in
    let p = err_from_is_err_and c.from_residual.result c.from_residual.ensures.1 in
    let some_byte : 1 ≤ length input = search rules in
    let refused = c.in_err-try_from.ensures in
    rw (p.1, p.2, refused.0) (no_mark input some_byte (by_mark register_length (get_or input 0 0) none refused.1))

pub returns-in_err-_register : goal.returns-in_err-_register
returns-in_err-_register c =
    let input = c.args.input.now in
    let p = err_from_is_err_and c.from_residual-in_err-_register.result c.from_residual-in_err-_register.ensures.1 in
    let some_byte : 1 ≤ length input = search rules in
    let marked = registered (get_or input 0 0) _ _ c.in_ok-try_from.ensures c.register_length-n.ensures in
    let short = rw c.in_err-_register.ensures.ok_part at c.split_at_checked.ensures.cases in
    let fault = rw c.in_err-_register.ensures.ok_part at c.in_err-_register.ensures.value in
    let block : c.in_err-_register.field-0.0 ≡ Block = cc fault in
    rw (p.1, p.2, block) (no_register input _ some_byte marked _ (take_rest input 1) short)

pub returns-in_err-opening : goal.returns-in_err-opening
returns-in_err-opening c =
    let input = c.args.input.now in
    let p = err_from_is_err_and c.from_residual-in_err-opening.result c.from_residual-in_err-opening.ensures.1 in
    let some_byte : 1 ≤ length input = search rules in
    let marked = registered (get_or input 0 0) _ _ c.in_ok-try_from.ensures c.register_length-n.ensures in
    let split = rw c.in_ok-_register.ensures.ok_part at c.split_at_checked.ensures.cases in
    rw (p.1, p.2) (bad_sheet input _ some_byte marked _ _ _ (take_rest input 1) split.0 split.2 c.in_err-opening.ensures)

pub returns : goal.returns
returns c =
    let input = c.args.input.now in
    let some_byte : 1 ≤ length input = search rules in
    let marked = registered (get_or input 0 0) _ _ c.in_ok-try_from.ensures c.register_length-n.ensures in
    let split = rw c.in_ok-_register.ensures.ok_part at c.split_at_checked.ensures.cases in
    let good = c.in_ok-opening.ensures in
    good_sheet input _ some_byte marked _ _ _ (take_rest input 1) split.0 split.2 good.0 good.1
