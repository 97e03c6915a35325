use Rattle.bench_full.proofs.Texts.{no_figures, figures_more}
use Rattle.bench_full.proofs.lines.+push_figures.Goals as goal

pub returns-then-figures-eq0-clause-after : goal.returns-then-figures-eq0-clause-after
returns-then-figures-eq0-clause-after t c = no_figures c.args.figures c.args.n _ c.if-figures-eq0.true

pub returns-clause-after : goal.returns-clause-after
returns-clause-after t c = figures_more c.args.figures c.args.n _ _ _ c.if-figures-eq0.false c.push_figures.ensures.after c.put.ensures
