-- In what bytes a reader finds no fault. Assumes nothing.
use Rattle.std.proofs.Common.{◌≡◌, ℕ, ◌+◌, ◌*◌, ◌≤◌, Bool, true, false, cond, not, ◌||◌, eqb, ltb, List, [], ◌∷◌, ◌++◌, length, refl, ◌∙◌, arith}
use mathlib.Core.Option.{Option, none, some}
use Rattle.std.proofs.lemmas.Bool.{eqb-true, eq-eqb, ltb-false, le-ltb, not-false, not_from_true, or_parts, or_from}
use Rattle.faults.specs.declared.grounds.SheetFault.{SheetFault}
use Rattle.timetable.specs.Hours.{ever_open}
use Rattle.order.specs.Orders.{Order, lettered, ranged, AllInRange}
use Rattle.sheet.specs.Reading.{Check, count, total, base, table, orders, first, size_checks, set_up_checks, orders_checks, sheet_fault}

-- the checks, one after the other
passed : (b : Bool) (f : SheetFault) (rest : Option SheetFault) → cond b (some f) rest ≡ none → (b ≡ false) × (rest ≡ none)
passed true f rest e = let z : ◌≡◌ {A = ℕ} 0 1 = cc in absurd (omega arith)
passed false f rest e = (refl, e)

passes : (b : Bool) (f : SheetFault) (rest : Option SheetFault) → b ≡ false → cond b (some f) rest ≡ rest
passes b f rest e = rw e

-- checks that pass in front of others, and one that fails
pub first_passed : (gs hs : List Check) → first gs ≡ none → first (gs ++ hs) ≡ first hs
first_passed [] hs e = refl
first_passed (g ∷ gs) hs e = let p = passed g.0 g.1 (first gs) e in passes g.0 g.1 (first (gs ++ hs)) p.0 ∙ first_passed gs hs p.1

pub first_failed : (gs hs : List Check) (f : SheetFault) → first gs ≡ some f → first (gs ++ hs) ≡ some f
first_failed [] hs f e = let z : ◌≡◌ {A = ℕ} 0 1 = cc in absurd (omega arith)
first_failed (g ∷ gs) hs f e = go g.0 (first_failed gs hs f) e
  where
    go : (b : Bool) → (first gs ≡ some f → first (gs ++ hs) ≡ some f) → cond b (some g.1) (first gs) ≡ some f
        → cond b (some g.1) (first (gs ++ hs)) ≡ some f
    go true rest e = e
    go false rest e = rest e

first_none : (gs hs : List Check) → first (gs ++ hs) ≡ none → (first gs ≡ none) × (first hs ≡ none)
first_none [] hs e = (refl, e)
first_none (g ∷ gs) hs e =
    let p = passed g.0 g.1 (first (gs ++ hs)) e in
    let q = first_none gs hs p.1 in
    (passes g.0 g.1 (first gs) p.0 ∙ q.0, q.1)

-- no fault in orders in range, and in no others
orders_pass : (bs : List ℕ) (i : ℕ) (os : List Order) → AllInRange os → first (orders_checks bs i os) ≡ none
orders_pass bs i [] r = refl
orders_pass bs i (o ∷ os) r =
    passes (not (lettered o.letter)) _ _ (not_from_true _ r.0.letter)
    ∙ passes (not (ranged o.letter o.amount)) _ _ (not_from_true _ r.0.amount)
    ∙ orders_pass bs (i + 1) os r.1

orders_in_range : (bs : List ℕ) (i : ℕ) (os : List Order) → first (orders_checks bs i os) ≡ none → AllInRange os
orders_in_range bs i [] e = tt
orders_in_range bs i (o ∷ os) e =
    let l = passed (not (lettered o.letter)) _ _ e in
    let a = passed (not (ranged o.letter o.amount)) _ _ l.1 in
    (record { letter = not-false _ l.0; amount = not-false _ a.0 }, orders_in_range bs (i + 1) os a.1)

-- what the sizes' checks ask
pub record Sized (bs : List ℕ) : Type 0 where
  pub few : count bs ≤ 64
  pub sums : total bs ≡ 37 + 5 * count bs
  pub long : length bs ≡ total bs

pub sizes_pass : (bs : List ℕ) → Sized bs → first (size_checks bs) ≡ none
sizes_pass bs s =
    passes (ltb (length bs) 37) _ _ (le-ltb (length bs) 37 (omega arith))
    ∙ passes (ltb 64 (count bs) || not (eqb (total bs) (37 + 5 * count bs))) _ _
    (or_from _ _ (le-ltb 64 (count bs) s.few) (not_from_true _ (eq-eqb (total bs) (37 + 5 * count bs) s.sums)))
    ∙ passes (ltb (length bs) (total bs)) _ _ (le-ltb (length bs) (total bs) (omega arith))
    ∙ passes (ltb (total bs) (length bs)) _ _ (le-ltb (total bs) (length bs) (omega arith))

pub sized : (bs : List ℕ) → first (size_checks bs) ≡ none → Sized bs
sized bs e =
    let short = passed (ltb (length bs) 37) _ _ e in
    let sizes = passed (ltb 64 (count bs) || not (eqb (total bs) (37 + 5 * count bs))) _ _ short.1 in
    let both = or_parts (ltb 64 (count bs)) (not (eqb (total bs) (37 + 5 * count bs))) sizes.0 in
    let under = passed (ltb (length bs) (total bs)) _ _ sizes.1 in
    let over = passed (ltb (total bs) (length bs)) _ _ under.1 in
    record {
      few = ltb-false 64 (count bs) both.0;
      sums = eqb-true (total bs) (37 + 5 * count bs) (not-false _ both.1);
      long = omega (arith, ltb-false (length bs) (total bs) under.0, ltb-false (total bs) (length bs) over.0);
    }

-- what the set-up's checks ask
pub record SetUp (bs : List ℕ) : Type 0 where
  pub based : base bs ≤ 1000000
  pub opens : ever_open (table bs) ≡ true

pub set_up_passes : (bs : List ℕ) → SetUp bs → first (set_up_checks bs) ≡ none
set_up_passes bs s =
    passes (ltb 1000000 (base bs)) _ _ (le-ltb 1000000 (base bs) s.based)
    ∙ passes (not (ever_open (table bs))) _ _ (not_from_true (ever_open (table bs)) s.opens)

set_up : (bs : List ℕ) → first (set_up_checks bs) ≡ none → SetUp bs
set_up bs e =
    let late = passed (ltb 1000000 (base bs)) _ _ e in
    let never = passed (not (ever_open (table bs))) _ _ late.1 in
    record { based = ltb-false 1000000 (base bs) late.0; opens = not-false (ever_open (table bs)) never.0 }

-- a reader finds no fault exactly where the sizes fit, the set-up is in range and the orders are
pub fault_none : (bs : List ℕ) → Sized bs → SetUp bs → AllInRange (orders bs) → sheet_fault bs ≡ none
unfolding sheet_fault
fault_none bs s u r =
    first_passed (size_checks bs ++ set_up_checks bs) (orders_checks bs 0 (orders bs))
    (first_passed (size_checks bs) (set_up_checks bs) (sizes_pass bs s) ∙ set_up_passes bs u)
    ∙ orders_pass bs 0 (orders bs) r

pub none_fault : (bs : List ℕ) → sheet_fault bs ≡ none → Sized bs × SetUp bs × AllInRange (orders bs)
unfolding sheet_fault
none_fault bs e =
    let both = first_none (size_checks bs ++ set_up_checks bs) (orders_checks bs 0 (orders bs)) e in
    let front = first_none (size_checks bs) (set_up_checks bs) both.0 in
    (sized bs front.0, set_up bs front.1, orders_in_range bs 0 (orders bs) both.1)
