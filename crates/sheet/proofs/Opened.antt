-- What a reader finds as it goes through the checks. Assumes nothing.
use Rattle.std.proofs.Common.{◌≡◌, ℕ, zero, suc, ◌+◌, ◌-◌, ◌<◌, ◌≤◌, List, [], ◌∷◌, ◌++◌, length, true, is_ok, Ok, Err, Result, sym, refl, ap, ◌∙◌, subst, append_assoc, arith, length-append}
use mathlib.Core.Option.{none, some}
use Rattle.std.proofs.lemmas.Bool.{both_ways}
use Rattle.faults.specs.declared.grounds.SheetFault.{SheetFault}
use Rattle.faults.specs.declared.grounds.SheetFault.TheVariants as sheet
use Rattle.faults.specs.declared.grounds.OrderFault.{OrderFault}
use Rattle.faults.specs.declared.grounds.OrderFault.TheVariants.{Letter, Amount}
use Rattle.order.specs.Orders.{lettered, ranged, InRange, AllInRange}
use Rattle.order.specs.Views.{Makes}
use Rattle.order.specs.declared.kind.Order.{Order}
use Rattle.sheet.specs.Reading.{count, letter_place, amount_place, order_at, orders_from, orders, first, size_checks, set_up_checks, order_checks, orders_checks, sheet_fault}
use Rattle.sheet.proofs.Faultless.{first_passed, first_failed, none_fault}
use Rattle.sheet.proofs.Laws.{length_orders}

-- the checks of an order tell what is made of its letter and its amount
abbrev pub Checked : List ℕ → ℕ → Result Order OrderFault → Type 0
Checked bs i (Ok o) = first (order_checks bs i (order_at bs i)) ≡ none
Checked bs i (Err f) = first (order_checks bs i (order_at bs i)) ≡ some (sheet.Order f)

pub checked : (bs : List ℕ) (i : ℕ) (r : Result Order OrderFault) → Makes (letter_place bs i) (amount_place bs i) (order_at bs i).letter (order_at bs i).amount r → Checked bs i r
checked bs i (Ok o) m = rw (m.1, m.2)
checked bs i (Err (Letter p)) m = rw m.1 (ap (λ (x : ℕ). some (sheet.Order (Letter x))) (sym m.0))
checked bs i (Err (Amount p)) m = rw (m.1, m.2) (ap (λ (x : ℕ). some (sheet.Order (Amount x))) (sym m.0))

-- one order more
orders_more : (bs : List ℕ) (i n : ℕ) → i < n → orders_from bs i (n - i) ≡ order_at bs i ∷ orders_from bs (i + 1) (n - (i + 1))
orders_more bs i n h = let e : n - i ≡ suc (n - (i + 1)) = omega arith in ap (orders_from bs i) e

pub order_passed : (bs : List ℕ) (i n : ℕ) → i < n → first (order_checks bs i (order_at bs i)) ≡ none
    → first (orders_checks bs (i + 1) (orders_from bs (i + 1) (n - (i + 1)))) ≡ first (orders_checks bs i (orders_from bs i (n - i)))
order_passed bs i n h e =
    sym (ap (λ os. first (orders_checks bs i os)) (orders_more bs i n h)
    ∙ first_passed (order_checks bs i (order_at bs i)) (orders_checks bs (i + 1) (orders_from bs (i + 1) (n - (i + 1)))) e)

pub order_failed : (bs : List ℕ) (i n : ℕ) (f : SheetFault) → i < n → first (order_checks bs i (order_at bs i)) ≡ some f
    → first (orders_checks bs i (orders_from bs i (n - i))) ≡ some f
order_failed bs i n f h e =
    ap (λ os. first (orders_checks bs i os)) (orders_more bs i n h)
    ∙ first_failed (order_checks bs i (order_at bs i)) (orders_checks bs (i + 1) (orders_from bs (i + 1) (n - (i + 1)))) f e

-- the checks in their sequence
pub sizes_failed : (bs : List ℕ) (f : SheetFault) → first (size_checks bs) ≡ some f → sheet_fault bs ≡ some f
unfolding sheet_fault
sizes_failed bs f e =
    first_failed (size_checks bs ++ set_up_checks bs) (orders_checks bs 0 (orders bs)) f (first_failed (size_checks bs) (set_up_checks bs) f e)

pub set_up_failed : (bs : List ℕ) (f : SheetFault) → first (size_checks bs) ≡ none → first (set_up_checks bs) ≡ some f → sheet_fault bs ≡ some f
unfolding sheet_fault
set_up_failed bs f s e =
    first_failed (size_checks bs ++ set_up_checks bs) (orders_checks bs 0 (orders bs)) f (first_passed (size_checks bs) (set_up_checks bs) s ∙ e)

pub then_orders : (bs : List ℕ) → first (size_checks bs) ≡ none → first (set_up_checks bs) ≡ none → sheet_fault bs ≡ first (orders_checks bs 0 (orders bs))
unfolding sheet_fault
then_orders bs s u =
    first_passed (size_checks bs ++ set_up_checks bs) (orders_checks bs 0 (orders bs)) (first_passed (size_checks bs) (set_up_checks bs) s ∙ u)

-- an order that is not made is not in range
pub out_of_range : (p q c a : ℕ) (f : OrderFault) → Makes p q c a (Err f) → InRange (record { letter = c; amount = a }) → ⊥
out_of_range p q c a (Letter at) m r = both_ways (lettered c) m.1 r.letter
out_of_range p q c a (Amount at) m r = both_ways (ranged c a) m.2 r.amount

in_range_from : (bs : List ℕ) (j n i : ℕ) → AllInRange (orders_from bs j n) → i < n → InRange (order_at bs (j + i))
in_range_from bs j zero i r h = absurd (omega arith)
in_range_from bs j (suc n) zero r h = let e : j ≡ j + 0 = omega arith in subst (λ (k : ℕ). InRange (order_at bs k)) e r.0
in_range_from bs j (suc n) (suc i) r h = let e : j + 1 + i ≡ j + suc i = omega arith in subst (λ (k : ℕ). InRange (order_at bs k)) e (in_range_from bs (j + 1) n i r.1 (omega arith))

-- the orders of an accepted sheet are in range
pub order_in_range : (bs : List ℕ) (i : ℕ) → sheet_fault bs ≡ none → i < count bs → InRange (order_at bs i)
order_in_range bs i e h = let z : 0 + i ≡ i = omega arith in subst (λ (k : ℕ). InRange (order_at bs k)) z (in_range_from bs 0 (count bs) i (none_fault bs e).2 h)

-- and so each of them is made
pub made : (bs : List ℕ) (i : ℕ) → sheet_fault bs ≡ none → i < count bs → (r : Result Order OrderFault) → Makes (letter_place bs i) (amount_place bs i) (order_at bs i).letter (order_at bs i).amount r → is_ok r ≡ true
made bs i e h (Ok o) m = refl
made bs i e h (Err f) m = absurd (out_of_range _ _ _ _ f m (order_in_range bs i e h))

-- a faultless sheet has at most 64 orders
pub few_orders : (bs : List ℕ) → sheet_fault bs ≡ none → length (orders bs) ≤ 64
few_orders bs e = omega (arith, length_orders bs 0 (count bs), (none_fault bs e).0.few)

-- a walk over at most 64 orders: the next one is put behind those that were given
pub walk_more : {A : Type 0} (all done old new : List A) (x : A) → done ++ old ≡ all → old ≡ x ∷ new → length all ≤ 64 → (length done < 64) × ((done ++ x ∷ []) ++ new ≡ all)
walk_more all done old new x is next few =
    let whole = append_assoc done (x ∷ []) new ∙ ap (λ xs. done ++ xs) (sym next) ∙ is in
    (omega (arith, ap length whole, length-append (done ++ x ∷ []) new, length-append done (x ∷ [])), whole)
