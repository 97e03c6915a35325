-- What `max_by_key` picks among the delays in force is the best line, which is defined from the back. Assumes nothing.
use Rattle.std.proofs.Common.{◌≡◌, ℕ, ◌+◌, ◌<◌, ◌≤◌, Bool, true, false, cond, ◌&&◌, ltb, List, [], ◌∷◌, map, Option, None, Some, Bor, refl, sym, ap, ◌∙◌, subst, arith, nat_cmp, Ordering, Less, Equal, Greater, unwrap_or}
use denote.Param.Members.{Mut}
use Rattle.std.specs.Iterator.{KeyTurn, PicksMaxByKey}
use Rattle.std.specs.Fn.{CalledAt}
use Rattle.std.specs.List.{FoldsTo, fold, filter, enumerate_from}
use Rattle.std.specs.Option.{MatchOption, option_map}
use Rattle.std.specs.Ordering.{max_by_ordering}
use Rattle.std.proofs.lemmas.Bool.Decides.{nat_tests}
use Rattle.std.proofs.lemmas.Cmp.{ranked}
use Rattle.std.proofs.lemmas.Simd.{map-map}
use Rattle.std.proofs.lemmas.Iterator.{YieldsList, items_from_drains}
use Rattle.order_table.specs.Lines.{LinesInRange, delays, best}
use Rattle.order_table.specs.Views.{view, Picks}
use Rattle.order_table.proofs.Lined.{lines_in_range}
use Rattle.order_table.proofs.Relieved.{some_hours, picks}
use Rattle.order_table.specs.declared.line.Line as code

-- ---- `max_by_key` of items that stand for numbers with their hours

-- of two the one of more hours, and of equals the second
abbrev later : ℕ × ℕ → ℕ × ℕ → ℕ × ℕ
later p q = cond (ltb q.1 p.1) p q

of_two : (o : Ordering) (p q : ℕ × ℕ) → nat_cmp p.1 q.1 ≡ o → max_by_ordering o p q ≡ later p q
of_two Less p q e = let h : p.1 < q.1 = ranked p.1 q.1 Less (sym e) in grind (arith, nat_tests)
of_two Equal p q e = let h : p.1 ≡ q.1 = ranked p.1 q.1 Equal (sym e) in grind (arith, nat_tests)
of_two Greater p q e = let h : q.1 < p.1 = ranked p.1 q.1 Greater (sym e) in grind (arith, nat_tests)

from_none : (p : ℕ × ℕ) → later (0, 0) p ≡ p
from_none p = grind (arith, nat_tests)

commute : {A B : Type 0} (h : A → B) (o : Ordering) (x y : A) → max_by_ordering o (h x) (h y) ≡ h (max_by_ordering o x y)
commute h Less x y = refl
commute h Equal x y = refl
commute h Greater x y = refl

module _ {A F : Type 0} (v : A → ℕ × ℕ) (g : Mut F (Bor A × Unit {0}) ℕ) (f : F) (k : (x : A) (n : ℕ) (q : F) → CalledAt g f x n q → (q ≡ f) × (n ≡ (v x).1)) where
  abbrev key : A → ℕ
  key x = (v x).1

  turns : (xs : List A) (p q : (F × ℕ) × A) → p.0.0 ≡ f → p.0.1 ≡ key p.1 → FoldsTo {P = (F × ℕ) × A} (KeyTurn max_by_ordering max_by_ordering g nat_cmp) p xs q → v q.1 ≡ fold later (v p.1) (map v xs)
  turns [] p q same held c = ap (λ w. v w.1) (sym c)
  turns (x ∷ xs) p q same held c =
      let (next, (n, o, call, is, next_key, next_item), rest) = c in
      let m = k x n next.0.0 (subst (λ w. CalledAt g w x n next.0.0) same call) in
      let o_is : nat_cmp (key p.1) (key x) ≡ o = sym (λ i. nat_cmp (held i) (m.1 i)) ∙ is in
      turns xs next q m.0 (next_key ∙ (λ i. max_by_ordering o (held i) (m.1 i)) ∙ commute key o p.1 x ∙ sym (ap key next_item)) rest
      ∙ ap (λ w. fold later w (map v xs)) (ap v next_item ∙ sym (commute v o p.1 x) ∙ of_two o (v p.1) (v x) o_is)

-- from the clause `ran`: what came is folded from no number and no hours on
pub greatest : {S A B F : Type 0} {steps : S → Option A → S → Type 0} {w : A → B} {s : S} {all : List B} (h : B → ℕ × ℕ) {g : Mut F (Bor A × Unit {0}) ℕ} {f : F} (r : Option A)
    → PicksMaxByKey steps g nat_cmp s f r → YieldsList steps w s all → ((x : A) (n : ℕ) (q : F) → CalledAt g f x n q → (q ≡ f) × (n ≡ (h (w x)).1)) → unwrap_or (option_map (λ x. h (w x)) r) (0, 0) ≡ fold later (0, 0) (map h all)
greatest h None d e k = ap (λ l. fold later (0, 0) (map h l)) (items_from_drains [] (d.1.0, d.1.1, λ _. (d.0, d.1.2)) e)
greatest {A = A} {w = w} h {g} {f} (Some y) d e k =
    let v = λ (x : A). h (w x) in
    let (x, xs, n, q, last, drains, call, ran) = d in
    let m = k x n q call in
    turns v g f k xs ((q, n), x) (last, y) m.0 m.1 ran
    ∙ ap (λ p. fold later p (map v xs)) (sym (from_none (v x)))
    ∙ ap (fold later (0, 0)) (sym (map-map h w (x ∷ xs)) ∙ ap (map h) (items_from_drains (x ∷ xs) (drains.1.0, drains.1.1, λ _. (drains.0, drains.1.2)) e))

-- ---- the delays in force

abbrev pub in_force : ℕ × code.Line → Bool
in_force p = delays (view p.1)

-- a line at its place, as a number with hours
abbrev pub numbered : ℕ × code.Line → ℕ × ℕ
numbered p = (p.0 + 1, (view p.1).order.amount)

abbrev kept : ℕ → List code.Line → List (ℕ × ℕ)
kept n ls = map numbered (filter in_force (enumerate_from n ls))

-- what was found before the lines gives way to the best of these, unless it is longer
follows : (n : ℕ) (ls : List code.Line) → LinesInRange (map view ls) → (p : ℕ × ℕ) → later p (0, 0) ≡ p → fold later p (kept n ls) ≡ later p (best (n + 1) (map view ls))
unfolding best
follows n [] f p h = sym h
follows n (l ∷ ls) f p h = go (delays (view l)) refl (follows (n + 1) ls f.1)
  where
    x : ℕ × ℕ
    x = numbered (n, l)

    back : ℕ × ℕ
    back = best (n + 1 + 1) (map view ls)

    more : List (ℕ × code.Line)
    more = filter in_force (enumerate_from (n + 1) ls)

    stays : 1 ≤ x.1 → later (later p x) (0, 0) ≡ later p x
    stays some = grind (arith, nat_tests)

    three : later (later p x) back ≡ later p (cond (ltb back.1 x.1) x back)
    three = grind (arith, nat_tests)

    go : (b : Bool) → delays (view l) ≡ b → ((q : ℕ × ℕ) → later q (0, 0) ≡ q → fold later q (map numbered more) ≡ later q back) → fold later p (map numbered (cond b ((n, l) ∷ more) more)) ≡ later p (cond (b && ltb back.1 x.1) x back)
    go true e rest = rest (later p x) (stays (some_hours (view l) f.0 e)) ∙ three
    go false e rest = rest p h

-- the number of what `longest_of` picks
pub picks_last : (ls : List code.Line) (r : Option (ℕ × Bor code.Line)) (o : Option ℕ) → unwrap_or (option_map (λ x. numbered (x.0, x.1.now)) r) (0, 0) ≡ fold later (0, 0) (kept 0 ls) → MatchOption r (o ≡ None) (λ x. o ≡ Some (x.0 + 1)) → Picks (map view ls) o
picks_last ls r o e told = go r (e ∙ follows 0 ls range (0, 0) refl ∙ from_none (best 1 (map view ls))) told
  where
    range : LinesInRange (map view ls)
    range = lines_in_range ls

    go : (q : Option (ℕ × Bor code.Line)) → unwrap_or (option_map (λ x. numbered (x.0, x.1.now)) q) (0, 0) ≡ best 1 (map view ls) → MatchOption q (o ≡ None) (λ x. o ≡ Some (x.0 + 1)) → Picks (map view ls) o
    go None is h = subst (Picks (map view ls)) (sym h) ((picks (map view ls) (0, 0) range is).0 refl)
    go (Some x) is h = subst (Picks (map view ls)) (sym h) ((picks (map view ls) (numbered (x.0, x.1.now)) range is).1 (omega arith))
