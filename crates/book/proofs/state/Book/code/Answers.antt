use Rattle.std.proofs.Common.{◌%◌, get_or, ap, refl, ◌∙◌, arith}
use Rattle.words.specs.Words.{bytes}
use Rattle.ledger.proofs.Rooms.{words_room}
use Rattle.hash.specs.Digests.{digest}
use Rattle.ledger.specs.Ledgers.{register}
use Rattle.book.specs.Told.{told}
use Rattle.book.proofs.Asked.{code_is, front_is, block_first, held_some}
use Rattle.book.proofs.state.Book.code.Goals as goal

pub unwrap-n-requires : goal.unwrap-n-requires
unwrap-n-requires g c = words_room _ (g.met.C.Cipher.lawful c.args.self.now.cipher) _ c.register.new.out c.register.result c.register.ensures.wide c.register.ensures.fills

pub returns : goal.returns
returns g c =
    let b = c.args.self.now in
    let m = g.C.Cipher.meaning b.cipher in
    let bytes_are = front_is (bytes (register m (told m b))) _ c.register.new.out c.unwrap-n.result (rw c.unwrap-n.ensures at c.register.ensures.fills) in
    let d = c.digest.result in
    let first = block_first d c.eight.result c.eight.ensures (held_some d) ∙ ap (λ ws. get_or ws 0 0) (c.digest.ensures.value ∙ ap (digest m) bytes_are) in
    record { value = ap (λ w. w % 1000000) first ∙ code_is m (told m b) _ refl; bound = omega arith }
