use Rattle.std.proofs.Common.{◌≡◌}
use Rattle.trace.proofs.walker.Walker.past.Given as goal

abbrev pub invariant-loop : goal.invariant-loop
invariant-loop g l =
    record {
      cipher : l.walker.chain.cipher.now ≡ l.cipher;
      message : l.walker.message.message.now ≡ l.message.message.now;
      at : l.walker.at ≡ l.counter;
    }
