use Rattle.std.proofs.Common.{refl, ◌∙◌}
use Rattle.hash.specs.Digests.{chain}
use Rattle.hash.proofs.Absorbed.{absorbed_more}
use Rattle.hash.proofs.chaining.Chain.absorb_all.Goals as goal

pub loop-block-init : goal.loop-block-init
unfolding chain
loop-block-init g c = record { same = refl; stepped = refl }

pub loop-block-preserved : goal.loop-block-preserved
loop-block-preserved g c =
    let here = c.loop-block.invariant in
    let stepped = rw here.same at c.absorb.ensures.stepped in
    record {
      same = c.absorb.ensures.same ∙ here.same;
      stepped = absorbed_more _ _ _ _ c.args.blocks.now c.loop-block.block-index c.loop-block-test.true here.stepped stepped;
    }
