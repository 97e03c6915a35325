-- Lines by their numbers, and the orders in force. Assumes nothing.
use Rattle.std.proofs.Common.{◌≡◌, ℕ, zero, suc, ◌+◌, ◌-◌, ◌<◌, ◌≤◌, min, Bool, true, false, cond, List, [], ◌∷◌, ◌++◌, map, length, get_or, take, drop, set, Ok, Result, sym, refl, ap, ◌∙◌, subst, append_assoc, arith}
use mathlib.Core.Option.{none, some}
use Rattle.std.proofs.Math.Seq.{take-set-lt}
use Rattle.std.proofs.lemmas.List.{length-map, length-append, map-append, take-append-drop, drop_more, drop_all, drop-set, take-set, append-nil, length-take, get_or-take, get_or_default, drop-map, drop-set-lt}
use Rattle.std.proofs.lemmas.Bool.{cond-true, cond-false}
use Rattle.faults.specs.declared.grounds.BookFault.TheVariants.{Absent, Undone}
use Rattle.order.specs.Orders.{Order, AllInRange}
use Rattle.order.specs.Views as order_views
use Rattle.order.specs.Views.{listed, Pushed}
use Rattle.order.specs.declared.kind.Order as code_order
use Rattle.order.specs.declared.kind.Orders.{Orders}
use Rattle.order.proofs.Openings.{in_range}
use Rattle.order.proofs.Listing.{pushed_room}
use Rattle.order_table.specs.Lines.{Line, LinesInRange, orders, line, undo_fault, marked, Around}
use Rattle.order_table.specs.Views.{view, Found}
use Rattle.order_table.specs.declared.line.Line as code

pub orders_append : (xs ys : List Line) → orders (xs ++ ys) ≡ orders xs ++ orders ys
unfolding orders
orders_append [] ys = refl
orders_append (x ∷ xs) ys =
    elim x.undone as (λ b. cond b (orders (xs ++ ys)) (x.order ∷ orders (xs ++ ys)) ≡ cond b (orders xs) (x.order ∷ orders xs) ++ orders ys) [
      | true ↦ orders_append xs ys
      | false ↦ ap (λ os. x.order ∷ os) (orders_append xs ys)
    ]

pub orders_few : (ls : List Line) → length (orders ls) ≤ length ls
unfolding orders
orders_few [] = omega arith
orders_few (l ∷ ls) =
    let h = orders_few ls in
    elim l.undone as (λ b. length (cond b (orders ls) (l.order ∷ orders ls)) ≤ length (l ∷ ls)) [ true ↦ omega arith | false ↦ omega arith ]

-- whatever a table holds is in range, and so is what is in force
pub lines_in_range : (ls : List code.Line) → LinesInRange (map view ls)
lines_in_range [] = tt
lines_in_range (l ∷ ls) = (in_range l.order, lines_in_range ls)

pub orders_in_range : (ls : List Line) → LinesInRange ls → AllInRange (orders ls)
unfolding orders
orders_in_range [] f = tt
orders_in_range (l ∷ ls) f = elim l.undone as (λ b. AllInRange (cond b (orders ls) (l.order ∷ orders ls))) [ true ↦ orders_in_range ls f.1 | false ↦ (f.0, orders_in_range ls f.1) ]

-- ---- a line by its number

line_is : (ls : List code.Line) (i : ℕ) (d : code.Line) → i < length ls → line (map view ls) (suc i) ≡ some (view (get_or ls i d))
unfolding line
line_is [] i d h = absurd (omega arith)
line_is (l ∷ ls) zero d h = refl
line_is (l ∷ ls) (suc i) d h = let k : i < length ls = omega arith in line_is ls i d k

line_zero : (ls : List Line) → line ls 0 ≡ none
unfolding line
line_zero [] = refl
line_zero (l ∷ ls) = refl

line_past : (ls : List Line) (n : ℕ) → length ls < n → line ls n ≡ none
unfolding line
line_past [] n h = refl
line_past (l ∷ ls) zero h = refl
line_past (l ∷ ls) (suc zero) h = absurd (omega arith)
line_past (l ∷ ls) (suc (suc n)) h = let k : length ls < suc n = omega arith in line_past ls (suc n) k

pub found_none : (ls : List code.Line) (n : ℕ) → n < 1 → undo_fault (map view ls) n ≡ some Absent
found_none ls n h = let z : n ≡ 0 = omega arith in let e = line_zero (map view ls) in rw z (rw e)

pub found_past : (ls : List code.Line) (n : ℕ) → length ls < n → undo_fault (map view ls) n ≡ some Absent
found_past ls n h = let k : length (map view ls) < n = simp length-map h in let e = line_past (map view ls) n k in rw e

pub numbered : (ls : List code.Line) (n : ℕ) (d : code.Line) → 1 ≤ n → n ≤ length ls → line (map view ls) n ≡ some (view (get_or ls (n - 1) d))
numbered ls n d p q =
    let k : n - 1 < length ls = omega arith in
    let z : suc (n - 1) ≡ n = omega arith in
    ap (line (map view ls)) (sym z) ∙ line_is ls (n - 1) d k

pub found_undone : (ls : List code.Line) (n : ℕ) (d : code.Line) → 1 ≤ n → n ≤ length ls → (get_or ls (n - 1) d).undone ≡ true → undo_fault (map view ls) n ≡ some Undone
found_undone ls n d p q u = rw (numbered ls n d p q) (rw u)

pub found_standing : (ls : List code.Line) (n : ℕ) (d : code.Line) → 1 ≤ n → n ≤ length ls → (get_or ls (n - 1) d).undone ≡ false → undo_fault (map view ls) n ≡ none
found_standing ls n d p q u = rw (numbered ls n d p q) (rw u)

-- ---- the orders in force among lines, one line more

orders_more : (ls : List code.Line) (i : ℕ) (d : code.Line) → i < length ls → d ≡ get_or ls i d
    → orders (map view (drop i ls)) ≡ cond d.undone (orders (map view (drop (i + 1) ls))) (order_views.view d.order ∷ orders (map view (drop (i + 1) ls)))
unfolding orders
orders_more ls i d h at = ap (λ xs. orders (map view xs)) (drop_more ls i d h ∙ ap (λ x. x ∷ drop (i + 1) ls) (sym at))

pub kept_none : (ls : List code.Line) (i : ℕ) (os rest : List Order) → length ls ≤ i → os ++ orders (map view (drop i ls)) ≡ rest → os ≡ rest
unfolding orders
kept_none ls i os rest h e = sym (append-nil os) ∙ ap (λ xs. os ++ orders (map view xs)) (sym (drop_all i ls h)) ∙ e

pub kept_undone : (ls : List code.Line) (i : ℕ) (d : code.Line) (os rest : List Order) → i < length ls → d ≡ get_or ls i d → d.undone ≡ true
    → os ++ orders (map view (drop i ls)) ≡ rest → os ++ orders (map view (drop (i + 1) ls)) ≡ rest
kept_undone ls i d os rest h at u e =
    let q : orders (map view (drop i ls)) ≡ orders (map view (drop (i + 1) ls)) = orders_more ls i d h at ∙ cond-true d.undone _ _ u in
    ap (λ xs. os ++ xs) (sym q) ∙ e

module _ (ls : List code.Line) (i : ℕ) (d : code.Line) (old new : Orders) (r : Result (Unit {0}) code_order.Order)
    (h : i < length ls) (few : length ls ≤ 64) (at : d ≡ get_or ls i d) (u : d.undone ≡ false) (p : Pushed old new d.order r)
    (e : listed old ++ orders (map view (drop i ls)) ≡ orders (map view ls)) where
  next : orders (map view (drop i ls)) ≡ order_views.view d.order ∷ orders (map view (drop (i + 1) ls))
  next = orders_more ls i d h at ∙ cond-false d.undone _ _ u

  room : length (listed old) < 64
  room =
      let a : length (listed old) + length (orders (map view (drop i ls))) ≡ length (orders (map view ls)) = sym (length-append (listed old) (orders (map view (drop i ls)))) ∙ ap length e in
      omega (arith, ap length next, orders_few (map view ls), length-map ls view)

  pub kept_pushed : listed new ++ orders (map view (drop (i + 1) ls)) ≡ orders (map view ls)
  kept_pushed =
      ap (λ xs. xs ++ orders (map view (drop (i + 1) ls))) (pushed_room old new d.order r p room)
      ∙ append_assoc (listed old) (order_views.view d.order ∷ []) (orders (map view (drop (i + 1) ls)))
      ∙ ap (λ xs. listed old ++ xs) (sym next)
      ∙ e

-- ---- a line marked undone

marked_is : (ls : List code.Line) (i : ℕ) (d : code.Line) → i < length ls → marked (map view ls) (suc i) ≡ map view (set ls i (record { order = (get_or ls i d).order; undone = true }))
unfolding marked
marked_is [] i d h = absurd (omega arith)
marked_is (l ∷ ls) zero d h = refl
marked_is (l ∷ ls) (suc i) d h = let k : i < length ls = omega arith in ap (λ xs. view l ∷ xs) (marked_is ls i d k)

module _ (ls : List code.Line) (i : ℕ) (d : code.Line) (h : i < length ls) (at : d ≡ get_or ls i d) (u : d.undone ≡ false) where
  abbrev x : code.Line
  x = record { order = d.order; undone = true }

  old_parts : map view ls ≡ map view (take i ls) ++ map view (drop i ls)
  old_parts = ap (map view) (sym (take-append-drop i ls)) ∙ map-append view (take i ls) (drop i ls)

  new_parts : map view (set ls i x) ≡ map view (take i ls) ++ map view (x ∷ drop (i + 1) ls)
  new_parts =
      ap (map view) (sym (take-append-drop i (set ls i x)))
      ∙ map-append view (take i (set ls i x)) (drop i (set ls i x))
      ∙ (λ j. map view (take-set ls i x j) ++ map view (drop-set ls i x h j))

  -- the orders in force before the line stay in front, and those behind it stay behind
  pub around : Around (map view ls) (map view (set ls i x)) (order_views.view d.order) (orders (map view (drop (i + 1) ls)))
  unfolding orders
  around = record {
    before = orders (map view (take i ls));
    were =
        ap orders old_parts
        ∙ orders_append (map view (take i ls)) (map view (drop i ls))
        ∙ ap (λ xs. orders (map view (take i ls)) ++ xs) (orders_more ls i d h at ∙ cond-false d.undone _ _ u);
    are = ap orders new_parts ∙ orders_append (map view (take i ls)) (map view (x ∷ drop (i + 1) ls));
  }

none_undone : (b : Bool) → cond b (some Undone) none ≡ none → b ≡ false
none_undone true e = let z : ◌≡◌ {A = ℕ} 0 1 = cc in absurd (omega arith)
none_undone false e = refl

standing : (ls : List code.Line) (n i : ℕ) (d : code.Line) → n ≡ i + 1 → i < length ls → undo_fault (map view ls) n ≡ none → (get_or ls i d).undone ≡ false
standing ls n i d e h f =
    let z : n - 1 ≡ i = omega arith in
    let l : line (map view ls) n ≡ some (view (get_or ls i d)) = numbered ls n d (omega arith) (omega arith) ∙ ap (λ k. some (view (get_or ls k d))) z in
    none_undone (get_or ls i d).undone (rw l at f)

-- line n, at place i of a table of which `count` lines are written, is marked: d and e are what was read there, us the
-- lines as they were looked through, and vs the lines after it
module _ (count : ℕ) (xs us vs : List code.Line) (n i : ℕ) (d e : code.Line) (same : map view us ≡ map view (take count xs)) (found : Found us n (Ok i)) where
  abbrev ls : List code.Line
  ls = take count xs

  here : i < length ls
  here = let long : length us ≡ length ls = sym (length-map us view) ∙ ap length same ∙ length-map ls view in omega (arith, found.1)

  abbrev there : code.Line
  there = get_or ls i d

  abbrev after : code.Line
  after = record { order = there.order; undone = true }

  pub fault : undo_fault (map view ls) n ≡ none
  fault = ap (λ l. undo_fault l n) (sym same) ∙ found.2

  stands : there.undone ≡ false
  stands = standing ls n i d found.0 here fault

  at : there ≡ get_or ls i there
  at = get_or_default ls i d there here

  below : i < count
  below = let k : i < min count (length xs) = subst (λ (m : ℕ). i < m) (length-take count xs) here in omega arith

  -- whatever the default, this was read
  read : (x : code.Line) → (get_or xs i x).order ≡ there.order
  read x =
      ap (λ (l : code.Line). l.order) (sym (get_or-take count xs i x below) ∙ get_or_default ls i x d here)

  written : map view (take count (set xs i (record { order = (get_or xs i e).order; undone = true }))) ≡ map view (set ls i after)
  written =
      ap (map view) (take-set-lt count xs i (record { order = (get_or xs i e).order; undone = true }) below)
      ∙ ap (λ o. map view (set ls i (record { order = o; undone = true }))) (read e)

  pub marks : map view (take count (set xs i (record { order = (get_or xs i e).order; undone = true }))) ≡ marked (map view ls) n
  marks =
      let z : suc i ≡ n = omega (arith, found.0) in
      written ∙ sym (ap (marked (map view ls)) (sym z) ∙ marked_is ls i d here)

  pub numbers : line (map view ls) n ≡ some (record { order = order_views.view (get_or xs i d).order; undone = false })
  numbers =
      let z : n - 1 ≡ i = omega (arith, found.0) in
      numbered ls n d (omega (arith, found.0)) (omega (arith, found.0, here))
      ∙ ap (λ k. some (view (get_or ls k d))) z
      ∙ (λ j. some (record { order = order_views.view (sym (read d) j); undone = stands j }))

  pub leaves : (later : List Order) → map view vs ≡ map view (take count (set xs i (record { order = (get_or xs i e).order; undone = true }))) → later ≡ orders (map view (drop (i + 1) vs))
      → Around (map view ls) (map view (take count (set xs i (record { order = (get_or xs i e).order; undone = true })))) (order_views.view (get_or xs i d).order) later
  leaves later s l =
      let behind : later ≡ orders (map view (drop (i + 1) ls)) =
      l ∙ ap orders (sym (drop-map view (i + 1) vs) ∙ ap (drop (i + 1)) (s ∙ written) ∙ drop-map view (i + 1) (set ls i after) ∙ ap (map view) (drop-set-lt (i + 1) ls i after (omega arith))) in
      let a = around ls i there here at stands in
      record {
        before = a.before;
        were = a.were ∙ (λ j. a.before ++ order_views.view (sym (read d) j) ∷ sym behind j);
        are = ap orders written ∙ a.are ∙ ap (λ os. a.before ++ os) (sym behind);
      }
