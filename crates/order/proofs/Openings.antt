-- How late a lock can open. Assumes nothing.
use Rattle.std.proofs.Common.{◌≡◌, ℕ, ◌+◌, ◌*◌, ◌<◌, ◌≤◌, max, Bool, true, false, cond, ◌&&◌, eqb, leb, List, [], ◌∷◌, map, length, get_or, drop, refl, inl, inr, arith}
use Rattle.std.proofs.lemmas.List.{at_drop_more, at_drop_all}
use Rattle.std.proofs.lemmas.Bool.{cases_lt, leb-true, and_parts}
use Rattle.timetable.specs.Hours.{opens_at, ever_open, next}
use Rattle.timetable.proofs.Hours.{next_open, within_weeks}
use Rattle.order.specs.Orders as orders
use Rattle.order.specs.Orders.{delay, lettered, earliest, InRange, AllInRange, apply, applied, opening}
use Rattle.order.specs.Kinds.{letter_of}
use Rattle.order.specs.Views.{view}
use Rattle.order.specs.declared.kind.Kind.{Kind}
use Rattle.order.specs.declared.kind.Kind.TheVariants.{Delay, NotBefore}
use Rattle.order.specs.declared.kind.Order.{Order}

letters : (k : Kind) → lettered (letter_of k) ≡ true
letters Delay = refl
letters NotBefore = refl

-- every order of the code is in range: its type says so
pub in_range : (o : Order) → InRange (view o)
in_range o = record { letter = letters o.kind; amount = o.range }

pub all_in_range : (os : List Order) → AllInRange (map view os)
all_in_range [] = tt
all_in_range (o ∷ os) = (in_range o, all_in_range os)

-- an order adds at most 840 hours to an open hour, or leads to the hour 1000167 at most
ordered : (table : List ℕ) (b : Bool) (bound t a : ℕ) → ever_open table ≡ true → opens_at table t ≡ true → t ≤ bound → 1000167 ≤ bound
    → cond b (leb 1 a && leb a 720) (leb a 1000000) ≡ true → next table (cond b (t + a) (max t a)) ≤ bound + 840
ordered table true bound t a ever e l h r =
    let w = within_weeks table t (t + a) ever e (omega (arith, leb-true a 720 (and_parts (leb 1 a) (leb a 720) r).1)) in
    omega arith
ordered table false bound t a ever e l h r =
    let most = leb-true a 1000000 r in
    elim (cases_lt t a) [
      | inl m ↦ omega (arith, (next_open table (max t a) ever).1)
      | inr m ↦ omega (arith, within_weeks table t (max t a) ever e (omega arith))
    ]

module _ (table : List ℕ) (ever : ever_open table ≡ true) where
  pub apply_open : (t : ℕ) (o : orders.Order) → opens_at table (apply table t o) ≡ true
  unfolding apply
  apply_open t o = (next_open table (earliest t o) ever).0.opens

  pub apply_latest : (bound t : ℕ) (o : orders.Order) → opens_at table t ≡ true → t ≤ bound → 1000167 ≤ bound → InRange o → apply table t o ≤ bound + 840
  unfolding apply
  apply_latest bound t o e l h r = ordered table (eqb o.letter delay) bound t o.amount ever e l h r.amount

  -- orders lead from an open hour to an open hour
  pub applied_open : (t : ℕ) (os : List orders.Order) → opens_at table t ≡ true → opens_at table (applied table t os) ≡ true
  unfolding applied
  applied_open t [] e = e
  applied_open t (o ∷ os) e = applied_open (apply table t o) os (apply_open t o)

  -- and each adds at most 840 hours to a bound of at least 1000167
  pub applied_latest : (bound t : ℕ) (os : List orders.Order) → opens_at table t ≡ true → t ≤ bound → 1000167 ≤ bound → AllInRange os
      → applied table t os ≤ bound + 840 * length os
  unfolding applied
  applied_latest bound t [] e l h r = omega arith
  applied_latest bound t (o ∷ os) e l h r =
      let here = apply_latest bound t o e l h r.0 in
      let rest = applied_latest (bound + 840) (apply table t o) os (apply_open t o) here (omega arith) r.1 in
      omega arith

  pub opening_open : (base : ℕ) (os : List orders.Order) → opens_at table (opening table base os) ≡ true
  unfolding opening
  opening_open base os = applied_open (next table base) os (next_open table base ever).0.opens

  -- the latest hour at which a lock opens
  pub opening_latest : (base : ℕ) (os : List orders.Order) → base ≤ 1000000 → length os ≤ 64 → AllInRange os → opening table base os ≤ 1053927
  unfolding opening
  opening_latest base os b f r =
      let n = next_open table base ever in
      let l = applied_latest 1000167 (next table base) os n.0.opens (omega arith) (omega arith) r in
      omega arith

-- a turn of the loop over the orders, and its end
pub applied_more : (table : List ℕ) (t : ℕ) (os : List Order) (i : ℕ) (d : Order) → i < length os
    → applied table t (map view (drop i os)) ≡ applied table (apply table t (view (get_or os i d))) (map view (drop (i + 1) os))
unfolding applied
applied_more table t os i d h = at_drop_more (λ (xs : List Order). applied table t (map view xs)) os i d h

pub applied_all : (table : List ℕ) (t : ℕ) (os : List Order) (i : ℕ) → length os ≤ i → applied table t (map view (drop i os)) ≡ t
unfolding applied
applied_all table t os i h = at_drop_all (λ (xs : List Order). applied table t (map view xs)) os i h
