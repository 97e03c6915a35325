use Rattle.std.proofs.Common.{◌≡◌, fold}
use Rattle.order.specs.Orders.{key}
use Rattle.order.specs.Views.{view}
use Rattle.turning.proofs.along.Given as goal

abbrev pub invariant-loop-order : goal.invariant-loop-order
invariant-loop-order g l = l.register ≡ fold (λ r o. g.D.Direction.way (g.C.Cipher.meaning l.cipher) (key l.name (view o.now)) r) l.initial.register l.yielded
