-- The parts of the code make up the whole cipher. Assumes nothing.
use Rattle.shacal2.specs.Shacal2.{constants}
use Rattle.shacal2.specs.Phases.{row}
use Rattle.shacal2.proofs.Parts.{dec_chain}
use Rattle.shacal2.proofs.deciphered.Goals as goal

pub returns : goal.returns
unfolding constants
returns c =
    dec_chain c.args.key.now c.renewed-w1.result c.renewed-w2.result c.renewed-w3.result (row c.args.block)
    c.told-key c.renewed-w1.ensures c.renewed-w2.ensures c.renewed-w3.ensures
    (row c.backward-s.result) (row c.backward-s-2.result) (row c.backward-s-3.result) (row c.backward-s-4.result) (row c.backward-s-5.result) (row c.backward-s-6.result) (row c.backward-s-7.result) (row c.backward.result)
    c.backward-s.ensures c.backward-s-2.ensures c.backward-s-3.ensures c.backward-s-4.ensures c.backward-s-5.ensures c.backward-s-6.ensures c.backward-s-7.ensures c.backward.ensures
