use Rattle.std.proofs.Common.{◌<◌, ◌≤◌, length, get_or, sym, ap, ◌∙◌, rules}
use mathlib.Core.Option.{none, some}
use Rattle.std.proofs.lemmas.List.{take_rest}
use Rattle.std.proofs.lemmas.Result.{err_from_is_err_and}
use Rattle.practice.specs.Practice.{practice}
use Rattle.shacal1.specs.Shacal1.{shacal1}
use Rattle.shacal2.specs.Shacal2.{shacal2}
use Rattle.bench_full.specs.Bench.{over}
use Rattle.bench_full.proofs.Outcomes.{no_input, no_mark, marked_so, by_mark}
use Rattle.bench_full.proofs.run.answer.Goals as goal

pub returns-in_default : goal.returns-in_default
returns-in_default c = let h : length c.args.input.now < 1 = search rules in no_input c.args.input.now h

pub returns-in_err-try_from : goal.returns-in_err-try_from
returns-in_err-try_from c =
    let input = c.args.input.now in
    let p = err_from_is_err_and c.from_residual.result c.from_residual.ensures.1 in
    let some_byte : 1 ≤ length input = search rules in
    let refused = c.in_err-try_from.ensures in
    rw (p.1, p.2, refused.0) (no_mark input some_byte (marked_so (get_or input 0 0) none refused.1))

pub returns-in-Shacal1 : goal.returns-in-Shacal1
returns-in-Shacal1 c =
    let input = c.args.input.now in
    let some_byte : 1 ≤ length input = search rules in
    let is = c.in_ok-try_from.ensures ∙ ap some c.in-Shacal1.is in
    by_mark input shacal1 some_byte (marked_so (get_or input 0 0) _ is) ∙ ap (over shacal1) (sym (take_rest input 1)) ∙ c.answer_over.ensures

pub returns-in-Shacal2 : goal.returns-in-Shacal2
returns-in-Shacal2 c =
    let input = c.args.input.now in
    let some_byte : 1 ≤ length input = search rules in
    let is = c.in_ok-try_from.ensures ∙ ap some c.in-Shacal2.is in
    by_mark input shacal2 some_byte (marked_so (get_or input 0 0) _ is) ∙ ap (over shacal2) (sym (take_rest input 1)) ∙ c.answer_over-in-Shacal2.ensures

pub returns-in-Practice : goal.returns-in-Practice
returns-in-Practice c =
    let input = c.args.input.now in
    let some_byte : 1 ≤ length input = search rules in
    let is = c.in_ok-try_from.ensures ∙ ap some c.in-Practice.is in
    by_mark input practice some_byte (marked_so (get_or input 0 0) _ is) ∙ ap (over practice) (sym (take_rest input 1)) ∙ c.answer_over-in-Practice.ensures
