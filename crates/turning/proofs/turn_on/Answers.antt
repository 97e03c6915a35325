use Rattle.std.proofs.Common.{take, arith, rules}
use Rattle.std.proofs.lemmas.Iterator.{YieldsList-from_slice, items_from_drains}
use Rattle.std.proofs.lemmas.Slice.{overwrites}
use Rattle.turning.proofs.Turning.{name_from, front_from, turned_along}
use Rattle.turning.proofs.turn_on.Goals as goal

pub returns-clause-turns : goal.returns-clause-turns
returns-clause-turns g c =
    let (xs, drains, is) = c.along.ensures in
    let e = turned_along (g.C.Cipher.meaning c.args.cipher.now) c.args.name.now (take c.width.result c.args.register.now) c.along.new.register c.args.orders.now xs (items_from_drains xs (drains.1.0, drains.1.1, λ _. (drains.0, drains.1.2)) (YieldsList-from_slice c.args.orders.now c.iter.ensures.rest)) is in
    search (rules, overwrites)

pub returns-clause-named : goal.returns-clause-named
returns-clause-named g c = name_from c.args.name.now c.told-name c.fits-name

pub returns-clause-row : goal.returns-clause-row
returns-clause-row g c =
    let law = g.met.C.Cipher.lawful c.args.cipher.now in
    front_from _ c.args.register.now (omega (arith, law.most)) c.fits-register
