use Rattle.std.proofs.Common.{◌≡◌, [], ◌∷◌, ◌++◌, vec_items, rules}
use Rattle.calls.proofs.Running.{ran_none, ran_more}
use Rattle.calls.proofs.runs.replay.Goals as goal

pub loop-c-init : goal.loop-c-init
loop-c-init g c = ran_none g.C.Cipher.meaning c.args.cipher c.args.calls.now c.new-book.result _ c.new-out.ensures.items c.new-book.ensures.same c.new-book.ensures.blank

pub loop-c-preserved : goal.loop-c-preserved
loop-c-preserved g c =
    let more : vec_items c.push.new.self ≡ vec_items c.loop-c.out ++ c.apply.result ∷ [] = search rules in
    ran_more g.C.Cipher.meaning c.new-book.result.cipher c.args.calls.now c.loop-c.c-index _ c.loop-c.book c.apply.new.book (vec_items c.loop-c.out) _ c.apply.result c.loop-c-test.true c.loop-c.invariant c.apply.ensures more
