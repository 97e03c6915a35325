use Rattle.std.proofs.Common.{ap}
use Rattle.words.specs.Words.{bytes}
use Rattle.ledger.proofs.Rooms.{sheet_room}
use Rattle.book.specs.Told.{told}
use Rattle.book.proofs.Asked.{front_is}
use Rattle.compare.proofs.Both.{nothing_left_behind, seal_row, bytes_one, seals_differ, seals_agree, judged}
use Rattle.compare.proofs.judging.compare.Goals as goal

pub unwrap-m-requires : goal.unwrap-m-requires
unwrap-m-requires g c =
    let a = c.args.a.now in
    sheet_room _ (told (g.C.Cipher.meaning a.cipher) a) c.sheet.new.out c.sheet.result c.sheet.ensures.sound c.sheet.ensures.fills

pub unwrap-n-requires : goal.unwrap-n-requires
unwrap-n-requires g c =
    let b = c.args.b.now in
    sheet_room _ (told (g.D.Cipher.meaning b.cipher) b) c.sheet-2.new.out c.sheet-2.result c.sheet-2.ensures.sound c.sheet-2.ensures.fills

pub returns-then-not-same_seal : goal.returns-then-not-same_seal
returns-then-not-same_seal g c =
    let a = c.args.a.now in
    let b = c.args.b.now in
    let m = g.C.Cipher.meaning a.cipher in
    let n = g.D.Cipher.meaning b.cipher in
    let law = g.met.C.Cipher.lawful a.cipher in
    let s = c.sheet.ensures.sound in
    let t = c.sheet-2.ensures.sound in
    let d = seals_differ m n (told m a) (told n b) law s t (λ e. c.if-not-same_seal.ensures (ap bytes e)) in
    record { verdict = d.0; same_five = nothing_left_behind m n (told m a) (told n b) law s; shared_seal = d.1 }

pub returns : goal.returns
returns g c =
    let a = c.args.a.now in
    let b = c.args.b.now in
    let m = g.C.Cipher.meaning a.cipher in
    let n = g.D.Cipher.meaning b.cipher in
    let law = g.met.C.Cipher.lawful a.cipher in
    let other = g.met.D.Cipher.lawful b.cipher in
    let s = c.sheet.ensures.sound in
    let t = c.sheet-2.ensures.sound in
    let e = bytes_one _ _ (seal_row m law (told m a) s).words (seal_row n other (told n b) t).words c.if-not-same_seal.ensures in
    let d = seals_agree m n (told m a) (told n b) law s t e c.judge.result (judged g.C.Cipher.meaning _ _ _ _ _ _ c.judge.result c.cipher.ensures (front_is _ _ c.sheet.new.out c.unwrap-m.result (rw c.unwrap-m.ensures at c.sheet.ensures.fills)) (front_is _ _ c.sheet-2.new.out c.unwrap-n.result (rw c.unwrap-n.ensures at c.sheet-2.ensures.fills)) c.judge.ensures) in
    record { verdict = d.0; same_five = nothing_left_behind m n (told m a) (told n b) law s; shared_seal = d.1 }
