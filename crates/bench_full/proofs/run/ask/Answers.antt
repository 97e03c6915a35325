use Rattle.ledger.proofs.Rooms.{words_room}
use Rattle.bench_full.proofs.run.ask.Goals as goal

pub unwrap-count-requires : goal.unwrap-count-requires
unwrap-count-requires g c =
    let b = c.args.book.now in
    words_room _ (g.met.C.Cipher.lawful b.cipher) _ c.seal.new.out c.seal.result c.seal.ensures.wide c.seal.ensures.fills
