use Rattle.std.proofs.Common.{◌≤◌, ◌++◌, [], refl, sym, ap, take, drop, length, IfOk, ◌∙◌, subst, arith}
use Rattle.std.proofs.lemmas.List.{length-take-le}
use Rattle.std.proofs.lemmas.Result.{err_from_is_err_and}
use Rattle.ledger.specs.Calls.{refused}
use Rattle.calls.specs.Runs.{said, handed}
use Rattle.calls.proofs.Filled.{whole}
use Rattle.calls.proofs.asking.ask.Goals as goal

pub returns-in_err-count : goal.returns-in_err-count
returns-in_err-count g c =
    let p = err_from_is_err_and c.from_residual.result c.from_residual.ensures.1 in
    record {
      old = take c.min-end.result c.empty.result.bytes;
      new = c.question.new.arg2;
      behind = [];
      back = c.question.result;
      returned = record { shown = _; shows = refl; left = _; met = c.question.ensures; leaves = refl };
      long = length-take-le c.min-end.result c.empty.result.bytes (omega (arith, c.min-end.ensures)) ∙ c.min-end.ensures;
      answer = ap said p.1 ∙ ap refused p.2 ∙ ap (λ r. handed r (c.question.new.arg2 ++ [])) (sym c.in_err-count.was);
    }

pub invariant_of-result : goal.invariant_of-result
invariant_of-result g c =
    let old = take c.min-end.result c.empty.result.bytes in
    let long = length-take-le c.min-end.result c.empty.result.bytes (omega (arith, c.min-end.ensures)) in
    let within = c.requires.within old c.question.new.arg2 c.question.result (record { shown = _; shows = refl; left = _; met = c.question.ensures; leaves = refl }) in
    let fits : c.in_ok-count.count ≤ length old = subst (λ r. IfOk r (λ n. n ≤ length old)) c.in_ok-count.was within in
    record {
      long = whole c.question.new.arg2 c.empty.result.bytes c.min-end.result (omega arith) (omega (arith, c.min-end.ensures)) ∙ c.empty.result.long;
      few = omega (arith, fits, c.min-end.ensures);
    }

pub returns : goal.returns
returns g c =
    let behind = drop c.min-end.result c.empty.result.bytes in
    record {
      old = take c.min-end.result c.empty.result.bytes;
      new = c.question.new.arg2;
      behind = behind;
      back = c.question.result;
      returned = record { shown = _; shows = refl; left = _; met = c.question.ensures; leaves = refl };
      long = length-take-le c.min-end.result c.empty.result.bytes (omega (arith, c.min-end.ensures)) ∙ c.min-end.ensures;
      answer = ap (λ r. handed r (c.question.new.arg2 ++ behind)) (sym c.in_ok-count.was);
    }
