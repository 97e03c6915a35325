use Rattle.std.proofs.Common.{◌≡◌, ◌^◌, take, sym, refl, ap, ◌∙◌}
use Rattle.std.specs.List.{flat_map}
use Rattle.std.proofs.lemmas.List.{take_all}
use Rattle.words.proofs.Bytes.{below_append}
use Rattle.hash.specs.Digests.{digest}
use Rattle.hash.specs.Messages.{limit}
use Rattle.hash.proofs.Joins.{joined_front, joined_over, opens_like, below_like, row_like}
use Rattle.hash.proofs.Rows.{digest_row}
use Rattle.hash.proofs.parts.digest_of.Goals as goal

pub returns-in-Err-clause-hashes : goal.returns-in-Err-clause-hashes
returns-in-Err-clause-hashes g c =
    let refused = c.in-Err.ensures.granted in
    (refused.0, joined_over c.args.parts.now c.loop-part.part-index c.loop-part.message.count limit _ c.loop-part-test.true c.loop-part.invariant.stands.counts refused.1)

pub loop-part-preserved : goal.loop-part-preserved
loop-part-preserved g c =
    let parts = c.args.parts.now in
    let i = c.loop-part.part-index in
    let here = c.loop-part.invariant in
    let meaning = g.C.Cipher.meaning in
    let granted = c.in_default.ensures in
    let m = meaning c.args.cipher.now in
    let mine : meaning c.loop-part.message.chain.cipher.now ≡ m = ap meaning here.same in
    let more = joined_front parts i _ c.loop-part-test.true in
    let before = opens_like m (meaning c.loop-part.message.chain.cipher.now) _ _ _ _ _ (sym mine) refl here.stands in
    record {
      same = granted.same ∙ here.same;
      stands = opens_like _ m _ _ _ _ _ mine (sym more) (granted.stands (flat_map (λ x. x.now) (take i parts)) before);
      bytes = below_like (2 ^ 8) _ _ (sym more) (below_append (2 ^ 8) (flat_map (λ x. x.now) (take i parts)) _ here.bytes granted.bytes);
    }

pub returns-clause-measured : goal.returns-clause-measured
returns-clause-measured g c =
    let parts = c.args.parts.now in
    let i = c.loop-part.part-index in
    let here = c.loop-part.invariant in
    let meaning = g.C.Cipher.meaning in
    let m = meaning c.args.cipher.now in
    let mine : meaning c.loop-part.message.chain.cipher.now ≡ m = ap meaning here.same in
    let all : flat_map (λ x. x.now) (take i parts) ≡ flat_map (λ x. x.now) parts = ap (flat_map (λ x. x.now)) (take_all i parts c.loop-part-test.false) in
    let open' = opens_like m (meaning c.loop-part.message.chain.cipher.now) _ _ _ _ _ (sym mine) all here.stands in
    let is = c.finish-2.ensures (flat_map (λ x. x.now) parts) open' ∙ ap (λ n. digest n (flat_map (λ x. x.now) parts)) mine in
    let bytes = below_like (2 ^ 8) _ _ all here.bytes in
    (bytes, row_like m _ _ is (digest_row m (g.met.C.Cipher.lawful c.args.cipher.now) (flat_map (λ x. x.now) parts) bytes))
