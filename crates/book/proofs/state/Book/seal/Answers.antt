use Rattle.std.proofs.Common.{◌≡◌, ℕ, List, length, take, sym, ap, ◌∙◌, subst}
use Rattle.words.specs.Words.{bytes}
use Rattle.words.specs.Buffer.{Fills}
use Rattle.ledger.proofs.Rooms.{sheet_room}
use Rattle.hash.specs.Digests.{digest}
use Rattle.ledger.specs.Ledgers.{sheet, seal}
use Rattle.book.specs.Told.{told}
use Rattle.book.proofs.Asked.{front_is, block_words}
use Rattle.book.proofs.state.Book.seal.Goals as goal

pub unwrap-n-requires : goal.unwrap-n-requires
unwrap-n-requires g c =
    let b = c.args.self.now in
    sheet_room _ (told (g.C.Cipher.meaning b.cipher) b) c.sheet.new.out c.sheet.result c.sheet.ensures.sound c.sheet.ensures.fills

pub returns : goal.returns
unfolding seal
returns g c =
    let b = c.args.self.now in
    let m = g.C.Cipher.meaning b.cipher in
    let sheet_is = front_is (sheet (told m b)) _ c.sheet.new.out c.unwrap-n.result (rw c.unwrap-n.ensures at c.sheet.ensures.fills) in
    let d = c.digest-seal.result in
    let is = c.digest-seal.ensures.value ∙ ap (digest m) sheet_is in
    let words : take c.count.result c.eight.result ≡ seal m (told m b) = ap (λ n. take n c.eight.result) c.count.ensures.0 ∙ block_words d c.eight.result c.eight.ensures ∙ is in
    let P : List ℕ → Type 0 = λ ws. Fills (bytes ws) c.args.out.now c.put_words.new.out c.put_words.result in
    record { fills = subst P words c.put_words.ensures; wide = ap length (sym is) ∙ c.digest-seal.ensures.wide }
