use Rattle.bench_full.proofs.lines.+push_figures.Given as goal

abbrev pub decreases-push_figures : goal.decreases-push_figures
decreases-push_figures l = l.figures
