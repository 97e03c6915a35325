use Rattle.std.proofs.Common.{◌++◌, length, replicate, drop, ap, ◌∙◌, arith}
use Rattle.std.proofs.lemmas.List.{drop-replicate}
use Rattle.words.proofs.padding.padded.Goals as goal

pub returns : goal.returns
returns g c =
    let row = c.args.row.now in (
      omega arith,
      ap (λ z. z ++ drop (length row) (replicate g.row.N c.args.behind)) c.copy_from_slice.ensures.after
          ∙ ap (λ z. row ++ z) (drop-replicate (length row) g.row.N c.args.behind),
    )
