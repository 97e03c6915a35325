use Rattle.std.proofs.Common.{◌≡◌, ◌≤◌, length, Ok, Err, refl, sym, ap, ◌∙◌, subst, rules}
use Rattle.words.specs.Buffer.{Fills}
use Rattle.bench_io.specs.Lines as lines
use Rattle.bench_io.proofs.Printed.{printed_so}
use Rattle.bench_run.specs.Bench.{opens, fails, printed, bench}
use Rattle.bench_run.proofs.run.bench.Goals as goal

pub returns : goal.returns
unfolding bench
returns c =
    let shown : lines.printed c.map.result ≡ bench c.args.input.now =
    printed_so (λ r. printed (elim r [ Ok h ↦ opens h | Err f ↦ fails f ])) c.answer.result c.map.result _ c.map.ensures.cases (λ h l p. search rules) (λ f. refl) ∙ ap printed (sym c.answer.ensures) in
    record {
      fills = subst (λ bs. Fills bs c.args.out.now c.print.new.out c.print.result) shown c.print.ensures.fills;
      short = subst (λ bs. length bs ≤ 128) shown c.print.ensures.short;
    }
