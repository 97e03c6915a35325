use Rattle.std.proofs.Common.{◌≡◌, length, refl, ap, ◌∙◌, rules}
use Rattle.std.proofs.lemmas.List.{take_at}
use Rattle.hash.specs.Messages.{value}
use Rattle.hash.proofs.Grown.{grown_less, grown_more}
use Rattle.hash.proofs.message.Message.grow.Goals as goal

pub returns-then-data-room-clause-stands : goal.returns-then-data-room-clause-stands
returns-then-data-room-clause-stands g c = λ bs stands.
    let s = c.args.self.now in
    let m = g.C.Cipher.meaning s.chain.cipher.now in
    let long : length s.tail ≡ 64 = search rules in
    grown_less m s.count s.tail (value m s.chain.places) c.args.«data».now long bs stands _ _ c.if-data-room.true c.copy_from_slice.ensures.after

pub returns-clause-stands : goal.returns-clause-stands
returns-clause-stands g c = λ bs stands.
    let s = c.args.self.now in
    let m = g.C.Cipher.meaning s.chain.cipher.now in
    let long : length s.tail ≡ 64 = search rules in
    let stepped = rw c.absorb.ensures.same at c.absorb_all.ensures.stepped in
    grown_more m s.count s.tail (value m s.chain.places) c.args.«data».now long bs stands _ _ _ _ _ _ _ _ _ _ c.if-data-room.false refl c.split_at.ensures.front c.split_at.ensures.back
    c.copy_from_slice-2.ensures.after refl c.absorb.ensures.stepped c.as_chunks.ensures.front stepped c.as_chunks.ensures.back
    (take_at c.copy_from_slice-3.new.self _ _ (ap length c.copy_from_slice-3.ensures.after) ∙ c.copy_from_slice-3.ensures.after)
