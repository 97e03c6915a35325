use Rattle.std.proofs.Common.{◌≡◌, ◌+◌}
use Rattle.trace.specs.Walk.{Last}
use Rattle.trace.proofs.walk.in_step.Given as goal

abbrev pub invariant-loop-k : goal.invariant-loop-k
invariant-loop-k g l =
    let x = l.initial.x in
    let y = l.initial.y in
    record {
      x_cipher : l.x.chain.cipher.now ≡ x.chain.cipher.now;
      y_cipher : l.y.chain.cipher.now ≡ y.chain.cipher.now;
      x_message : l.x.message.message.now ≡ x.message.message.now;
      y_message : l.y.message.message.now ≡ y.message.message.now;
      x_at : l.x.at ≡ x.at + l.k;
      y_at : l.y.at ≡ y.at + l.k;
      last : Last (g.C.Cipher.meaning x.chain.cipher.now) x.message.message.now y.message.message.now x.at y.at l.k l.last;
    }
