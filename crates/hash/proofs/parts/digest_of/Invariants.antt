use Rattle.std.proofs.Common.{◌≡◌, ◌^◌, take}
use Rattle.std.specs.List.{flat_map}
use Rattle.words.specs.Words.{Below}
use Rattle.hash.specs.Messages.{Open}
use Rattle.hash.proofs.parts.digest_of.Given as goal

abbrev pub invariant-loop-part : goal.invariant-loop-part
invariant-loop-part g l =
    let begun = flat_map (λ x. x.now) (take l.part-index l.parts) in
    record {
      same : l.message.chain.cipher.now ≡ l.cipher;
      stands : Open (g.C.Cipher.meaning l.cipher) l.message.count l.message.tail l.message.chain.places begun;
      bytes : Below (2 ^ 8) begun;
    }
