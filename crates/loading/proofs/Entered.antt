-- Orders entered one after the other. Assumes nothing.
use Rattle.std.proofs.Common.{◌≡◌, ℕ, suc, ◌<◌, ◌≤◌, true, false, List, [], ◌∷◌, ◌++◌, length, sym, refl, ap, ◌∙◌, subst, arith}
use Rattle.cipher.specs.Meaning.{Meaning}
use Rattle.timetable.specs.Hours.{ever_open}
use Rattle.order.specs.Orders.{Order, InRange, lettered, ranged}
use Rattle.ledger.specs.Ledgers.{Given, Ledger, blank}
use Rattle.ledger.specs.Calls.{Call, Answer, enter, set_up, after, change}
use Rattle.ledger.proofs.Granted.{granted, enter_granted, set_up_granted}
use Rattle.book.specs.Told.{told, Does}
use Rattle.book.specs.declared.state.Book.{Book}
use Rattle.loading.specs.Loaded.{entered}

entered_push : (os : List Order) (o : Order) → entered (os ++ o ∷ []) ≡ entered os ++ (record { order = o; undone = false }) ∷ []
unfolding entered
entered_push [] o = refl
entered_push (x ∷ os) o = ap (λ ls. (record { order = x; undone = false }) ∷ ls) (entered_push os o)

length_entered : (os : List Order) → length (entered os) ≡ length os
unfolding entered
length_entered [] = refl
length_entered (o ∷ os) = ap suc (length_entered os)

pub entered_none : [] ≡ entered []
unfolding entered
entered_none = refl

-- one order more is entered behind the others
pub enters_next : (m : Meaning) (l new : Ledger) (g : Given) (os : List Order) (o : Order) (c a : ℕ) → l ≡ record { given = g; lines = entered os } → InRange o
    → c ≡ o.letter → a ≡ o.amount → length os < 64 → new ≡ after m (enter c a) l → new ≡ record { given = g; lines = entered (os ++ o ∷ []) }
unfolding change
enters_next m l new g os o c a is fits ec ea few e =
    let long : length l.lines ≡ length os = ap (λ (x : Ledger). length x.lines) is ∙ length_entered os in
    let named : lettered c ≡ true = ap lettered ec ∙ fits.letter in
    let sized : ranged c a ≡ true = (λ j. ranged (ec j) (ea j)) ∙ fits.amount in
    let p = granted m (enter c a) l (enter_granted m c a l named sized (omega arith)) in
    let line : ((record { order = record { letter = c; amount = a }; undone = false }) ∷ []) ≡ ((record { order = o; undone = false }) ∷ []) =
    λ j. (record { order = record { letter = ec j; amount = ea j }; undone = false }) ∷ [] in
    e
    ∙ p.0
    ∙ (λ j. record { given = (is j).given; lines = (is j).lines ++ line j })
    ∙ (λ j. record { given = g; lines = sym (entered_push os o) j })

-- a blank ledger is set up
pub sets_blank : (m : Meaning) (new : Ledger) (g : Given) → length g.start ≡ m.width → g.base ≤ 1000000 → ever_open g.table ≡ true → new ≡ after m (set_up g) (blank m) → new ≡ record { given = g; lines = [] }
unfolding change blank
sets_blank m new g wide based opens e = e ∙ (granted m (set_up g) (blank m) (set_up_granted m g (blank m) wide based opens refl)).0

-- a call's change, by the cipher that a book began with
pub by_first : {C : Type 0} (meaning : C → Meaning) (first : C) (call : Call) (old new : Book C) (a : Answer) → old.cipher ≡ first → Does meaning call old new a → told (meaning first) new ≡ after (meaning first) call (told (meaning first) old)
by_first meaning first call old new a e did = subst (λ c. told (meaning c) new ≡ after (meaning c) call (told (meaning c) old)) e did.ledger

-- a new book that is set up from a faultless sheet
pub opened : {C : Type 0} (meaning : C → Meaning) (cipher : C) (blank_book new : Book C) (g : Given) (a : Answer) → blank_book.cipher ≡ cipher → told (meaning cipher) blank_book ≡ blank (meaning cipher) → Does meaning (set_up g) blank_book new a
    → length g.start ≡ (meaning cipher).width → g.base ≤ 1000000 → ever_open g.table ≡ true → (new.cipher ≡ cipher) × (told (meaning new.cipher) new ≡ record { given = g; lines = [] })
opened meaning cipher blank_book new g a same is did wide based opens =
    let one = did.same ∙ same in
    let e = by_first meaning cipher (set_up g) blank_book new a same did ∙ ap (after (meaning cipher) (set_up g)) is in
    (one, subst (λ c. told (meaning c) new ≡ record { given = g; lines = [] }) (sym one) (sets_blank (meaning cipher) (told (meaning cipher) new) g wide based opens e))
