use Rattle.std.proofs.Common.{◌≡◌, map, take}
use Rattle.words.specs.Words.{words}
use Rattle.hash.specs.Digests.{chain}
use Rattle.hash.specs.Messages.{value}
use Rattle.hash.proofs.chaining.Chain.absorb_all.Given as goal

abbrev pub invariant-loop-block : goal.invariant-loop-block
invariant-loop-block g l =
    let m = g.C.Cipher.meaning l.initial.self.cipher.now in
    record {
      same : l.self.cipher.now ≡ l.initial.self.cipher.now;
      stepped : value m l.self.places ≡ chain m (value m l.initial.self.places) (take l.block-index (map words l.blocks));
    }
