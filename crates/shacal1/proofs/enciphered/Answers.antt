-- The parts of the code make up the whole cipher. Assumes nothing.
use Rattle.shacal1.specs.Phases.{row}
use Rattle.shacal1.proofs.Parts.{enc_chain}
use Rattle.shacal1.proofs.enciphered.Goals as goal

pub returns : goal.returns
returns c =
    enc_chain c.args.key.now c.renewed-w1.result c.renewed-w2.result c.renewed-w3.result c.renewed-w4.result (row c.args.block)
    c.told-key c.renewed-w1.ensures c.renewed-w2.ensures c.renewed-w3.ensures c.renewed-w4.ensures
    (row c.forward-s.result) (row c.forward-s-2.result) (row c.forward-s-3.result) (row c.forward-s-4.result) (row c.forward-s-5.result) (row c.forward-s-6.result) (row c.forward-s-7.result) (row c.forward.result)
    c.forward-s.ensures c.forward-s-2.ensures c.forward-s-3.ensures c.forward-s-4.ensures c.forward-s-5.ensures c.forward-s-6.ensures c.forward-s-7.ensures c.forward.ensures
