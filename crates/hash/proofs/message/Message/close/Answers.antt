use Rattle.std.proofs.Common.{◌≡◌, length, rules}
use Rattle.hash.specs.Messages.{value}
use Rattle.hash.proofs.Closed.{closed_one, closed_two}
use Rattle.hash.proofs.message.Message.close.Goals as goal
use Rattle.hash.proofs.message.Message.close.Goals.{then-used-gt-ROOM, else-used-gt-ROOM}

pub returns-clause-closed : goal.returns-clause-closed
returns-clause-closed g c = λ bs stands.
    let s = c.args.self.now in
    let m = g.C.Cipher.meaning s.chain.cipher.now in
    let h = value m s.chain.places in
    let long : length s.tail ≡ 64 = search rules in
    elim c.if-used-gt-ROOM.branch [
      | then-used-gt-ROOM w ↦
          let ended = rw w.self-is at c.put_length.ensures in
          let after = rw w.self-is at c.absorb-2.ensures.stepped in
          closed_two m s.count s.tail h bs long stands c.put_mark.new.tail _ c.put_length.new.tail _ _ w.if-used-gt-ROOM.true c.put_mark.ensures w.absorb.ensures.stepped
          (w.fill.ensures.after (λ y e. e)) ended (rw w.absorb.ensures.same at after)
      | else-used-gt-ROOM w ↦
          closed_one m s.count s.tail h bs long stands c.put_mark.new.tail c.put_length.new.tail _ w.if-used-gt-ROOM.false c.put_mark.ensures (rw w.self-is at c.put_length.ensures)
          (rw w.self-is at c.absorb-2.ensures.stepped)
    ]
