-- The letter of each kind of order. Assumes nothing.
use Rattle.std.specs.Prelude.{ℕ}
use Rattle.order.specs.Orders.{delay, not_before}
use Rattle.order.specs.declared.kind.Kind.{Kind}
use Rattle.order.specs.declared.kind.Kind.TheVariants.{Delay, NotBefore}

abbrev pub letter_of : Kind → ℕ
letter_of Delay = delay
letter_of NotBefore = not_before
