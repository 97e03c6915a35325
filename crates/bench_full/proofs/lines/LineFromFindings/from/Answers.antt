use Rattle.std.proofs.Common.{ℕ, List, ◌++◌, codes, decimal, ap, ◌∙◌}
use Rattle.words.specs.Hex.{hex}
use Rattle.bench_io.specs.Lines.{opening_line}
use Rattle.bench_full.specs.Lines.{last_digits, code_line, seal_line}
use Rattle.bench_full.proofs.Texts.{three_lines}
use Rattle.bench_full.proofs.lines.LineFromFindings.from.Goals as goal

pub returns : goal.returns
unfolding opening_line code_line seal_line
returns c =
    let found = c.args.found in
    let seal = found.seal.items in
    let code = c.put.ensures ∙ ap (λ (x : List ℕ). x ++ codes "code ") c.opening-line.ensures.line in
    let figures = c.push_figures.ensures.after ∙ ap (λ (x : List ℕ). x ++ last_digits 6 found.code) code in
    let sealed = c.put-2.ensures ∙ ap (λ (x : List ℕ). x ++ codes "\nseal ") figures in
    let digits = c.push_hex.ensures.after ∙ (λ i. sealed i ++ hex (c.as_slice.ensures.value i)) in
    let all = c.put-3.ensures ∙ ap (λ (x : List ℕ). x ++ codes "\n") digits in
    all ∙ three_lines (codes "opening ") (decimal found.opening) (codes "\n") (codes "code ") (last_digits 6 found.code) (codes "seal ") (hex seal)
