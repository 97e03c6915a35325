-- What orders in range fit into. Assumes nothing.
use Rattle.std.proofs.Common.{◌≡◌, ℕ, ◌^◌, ◌<◌, ◌≤◌, Bool, true, false, cond, ◌&&◌, eqb, leb, inl, inr, arith}
use Rattle.std.proofs.lemmas.Bool.{eqb-true, leb-true, and_parts, or_cases}
use Rattle.order.specs.Orders.{Order, delay, not_before, lettered, InRange}

letter_fits : (c : ℕ) → lettered c ≡ true → c < 2 ^ 8
letter_fits c h =
    elim (or_cases (eqb c delay) (eqb c not_before) h) [
      | inl e ↦ omega (arith, eqb-true c delay e)
      | inr e ↦ omega (arith, eqb-true c not_before e)
    ]

amount_fits : (b : Bool) (a : ℕ) → cond b (leb 1 a && leb a 720) (leb a 1000000) ≡ true → a ≤ 1000000
amount_fits true a h = omega (arith, leb-true a 720 (and_parts (leb 1 a) (leb a 720) h).1)
amount_fits false a h = leb-true a 1000000 h

pub letter_below : (o : Order) → InRange o → o.letter < 2 ^ 8
letter_below o r = letter_fits o.letter r.letter

pub amount_most : (o : Order) → InRange o → o.amount ≤ 1000000
amount_most o r = amount_fits (eqb o.letter delay) o.amount r.amount
