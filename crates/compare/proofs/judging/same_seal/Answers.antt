use Rattle.std.proofs.lemmas.Slice.Eq.{slice_eq-Decides}
use Rattle.std.proofs.lemmas.Bool.Decides.{Decides-eqb}
use Rattle.ledger.proofs.Rooms.{words_room}
use Rattle.book.proofs.Asked.{front_is}
use Rattle.compare.proofs.Both.{decided}
use Rattle.compare.proofs.judging.same_seal.Goals as goal

pub unwrap-m-requires : goal.unwrap-m-requires
unwrap-m-requires g c =
    let a = c.args.a.now in
    words_room _ (g.met.C.Cipher.lawful a.cipher) _ c.seal.new.out c.seal.result c.seal.ensures.wide c.seal.ensures.fills

pub unwrap-n-requires : goal.unwrap-n-requires
unwrap-n-requires g c =
    let b = c.args.b.now in
    words_room _ (g.met.D.Cipher.lawful b.cipher) _ c.seal-2.new.out c.seal-2.result c.seal-2.ensures.wide c.seal-2.ensures.fills

pub returns : goal.returns
returns g c =
    decided c.eq.result _ _ _ _ (front_is _ _ c.seal.new.out c.unwrap-m.result (rw c.unwrap-m.ensures at c.seal.ensures.fills)) (front_is _ _ c.seal-2.new.out c.unwrap-n.result (rw c.unwrap-n.ensures at c.seal-2.ensures.fills))
    (slice_eq-Decides Decides-eqb _ _ _ c.eq.ensures)
