-- The parts of the code make up the whole cipher. Assumes nothing.
use Rattle.shacal2.specs.Shacal2.{constants}
use Rattle.shacal2.specs.Phases.{row}
use Rattle.shacal2.proofs.Parts.{enc_windows}
use Rattle.shacal2.proofs.enciphered.Goals as goal

pub returns : goal.returns
unfolding constants
returns c =
    enc_windows c.args.key.now c.renew.new.r c.renew-2.new.r c.renew-3.new.r c.renew-4.new.r c.renew-5.new.r c.renew-6.new.r (row c.args.block) c.told-key
    (record { half = c.renew.ensures.rolled; whole = c.renew-2.ensures.rolled; kept = c.renew-2.ensures.kept })
    (record { half = c.renew-3.ensures.rolled; whole = c.renew-4.ensures.rolled; kept = c.renew-4.ensures.kept })
    (record { half = c.renew-5.ensures.rolled; whole = c.renew-6.ensures.rolled; kept = c.renew-6.ensures.kept })
    (row c.forward-s.result) (row c.forward-s-2.result) (row c.forward-s-3.result) (row c.forward-s-4.result) (row c.forward-s-5.result) (row c.forward-s-6.result) (row c.forward-s-7.result) (row c.forward.result)
    c.forward-s.ensures c.forward-s-2.ensures c.forward-s-3.ensures c.forward-s-4.ensures c.forward-s-5.ensures c.forward-s-6.ensures c.forward-s-7.ensures c.forward.ensures
