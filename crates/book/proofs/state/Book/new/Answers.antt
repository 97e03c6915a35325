use Rattle.std.proofs.Common.{refl}
use Rattle.std.proofs.lemmas.List.{take-replicate}
use Rattle.ledger.proofs.Changed.{begins}
use Rattle.book.proofs.state.Book.new.Goals as goal

pub returns : goal.returns
returns g c =
    let m = g.C.Cipher.meaning c.args.cipher in
    let law = g.met.C.Cipher.lawful c.args.cipher in
    record { same = refl; blank = begins m _ _ _ _ (rw c.unwrap-base.ensures at c.new.ensures).0 c.always.ensures (take-replicate m.width 8 0 law.most) c.new-2.ensures }
