use Rattle.cipher.proofs.Opened.{turned_bytes}
use Rattle.cipher.proofs.bytes.turn_bytes.Goals as goal

pub returns-clause-block : goal.returns-clause-block
returns-clause-block g c =
    let m = g.C.Cipher.meaning c.args.cipher.now in
    let o = c.in_ok-key_words in
    turned_bytes (g.D.Direction.way m) c.width.result m.width c.args.key.now c.args.block.now o.key_words o.words c.turn-answer.new.block c.put_words.new.out c.put_words.result c.width.ensures o.ensures c.turn-answer.ensures.block c.turn-answer.auto.block c.put_words.ensures
