-- What a call does to the ledger that a book tells. Assumes nothing.
use Rattle.std.proofs.Common.{◌≡◌, ℕ, ◌+◌, false, List, [], ◌∷◌, ◌++◌, length, replicate, sym, refl, ap, ◌∙◌, subst, arith}
use Rattle.std.proofs.lemmas.List.{append-nil, length_push}
use Rattle.words.specs.Words.{Row}
use Rattle.cipher.specs.Meaning.{Meaning, Lawful}
use Rattle.order.specs.Orders.{Order, AllInRange, key}
use Rattle.order_table.specs.Lines.{Line, LinesInRange, orders, marked, Around, pick}
use Rattle.order_table.proofs.Lined.{orders_append, orders_in_range}
use Rattle.turning.specs.Turned.{Name, turned, back}
use Rattle.turning.proofs.Turning.{replaced}
use Rattle.ledger.specs.Ledgers.{Given, Ledger, blank, opening}
use Rattle.ledger.specs.Calls.{set_up, enter, undo, relieve, done, number, hour, change, reply}
use Rattle.ledger.specs.Told.{tells}

pub begins : (m : Meaning) (base : ℕ) (table r : List ℕ) (ls : List Line) → base ≡ 0 → table ≡ replicate 21 255 → r ≡ replicate m.width 0 → ls ≡ [] → tells m (replicate 8 0) base table r ls ≡ blank m
unfolding tells blank back orders
begins m base table r ls b t e l = (λ i. tells m (replicate 8 0) (b i) (t i) (e i) (l i))

pub sets_up : (m : Meaning) (g : Given) (l : Ledger) (base : ℕ) (table r : List ℕ) (ls : List Line) → base ≡ g.base → table ≡ g.table → r ≡ g.start → l.lines ≡ ls → length ls ≡ 0
    → tells m g.name base table r ls ≡ change (set_up g) l
unfolding tells change back orders
sets_up m g l base table r [] b t e s z = (λ i. record { given = record { name = g.name; base = b i; table = t i; start = e i }; lines = sym s i })
sets_up m g l base table r (x ∷ ls) b t e s z = absurd (omega arith)

-- the last of the orders in range are in range
tail_in_range : (xs ys : List Order) → AllInRange (xs ++ ys) → AllInRange ys
tail_in_range [] ys h = h
tail_in_range (x ∷ xs) ys h = tail_in_range xs ys h.1

module _ (m : Meaning) (law : Lawful m) (name : List ℕ) (named : Name name) (base : ℕ) (table r : List ℕ) (row : Row m.width r) where
  -- a line in force behind the others: s is the register turned by its order
  pub enters : (ls new : List Line) (o : Order) (s : List ℕ) → AllInRange (o ∷ []) → new ≡ ls ++ (record { order = o; undone = false }) ∷ [] → s ≡ turned m name r (o ∷ [])
      → tells m name base table s new ≡ change (enter o.letter o.amount) (tells m name base table r ls)
  unfolding tells change back orders
  enters ls new o s fits e t =
      let x : Line = record { order = o; undone = false } in
      let b : back m name s (orders new) ≡ back m name r (orders ls) =
      (λ i. back m name (t i) (orders (e i)))
      ∙ ap (back m name (turned m name r (o ∷ []))) (orders_append ls (x ∷ []))
      ∙ replaced m law name named r (orders ls) [] (o ∷ []) tt fits row
      ∙ ap (back m name r) (append-nil (orders ls)) in
      (λ i. record { given = record { name = name; base = base; table = table; start = b i }; lines = e i })

  -- a line undone: the register is turned back by the orders behind it, then by its own, and on by those behind it
  pub undoes : (ls new : List Line) (n : ℕ) (o : Order) (later : List Order) (s t u : List ℕ) → LinesInRange ls → new ≡ marked ls n → Around ls new o later
      → s ≡ back m name r later → t ≡ back m name s (o ∷ []) → u ≡ turned m name t later → tells m name base table u new ≡ change (undo n) (tells m name base table r ls)
  unfolding tells change back
  undoes ls new n o later s t u fits e a es et eu =
      let all : AllInRange (a.before ++ (o ∷ later)) = subst AllInRange a.were (orders_in_range ls fits) in
      let ends = tail_in_range a.before (o ∷ later) all in
      let both : t ≡ back m name r (o ∷ later) = et ∙ ap (m.dec (key name o)) es in
      let b : back m name u (orders new) ≡ back m name r (orders ls) =
      (λ i. back m name (eu i) (a.are i))
      ∙ ap (λ x. back m name (turned m name x later) (a.before ++ later)) both
      ∙ replaced m law name named r a.before (o ∷ later) later ends ends.1 row
      ∙ ap (back m name r) (sym a.were) in
      (λ i. record { given = record { name = name; base = base; table = table; start = b i }; lines = e i })

-- ---- answers

pub set_up_replies : (m : Meaning) (g : Given) (l k : Ledger) → done ≡ reply m (set_up g) l k
unfolding reply
set_up_replies m g l k = refl

pub enter_replies : (m : Meaning) (c a n h : ℕ) (l k : Ledger) → k ≡ change (enter c a) l → n ≡ length l.lines + 1 → h ≡ opening k → number n h ≡ reply m (enter c a) l (change (enter c a) l)
unfolding reply change
enter_replies m c a n h l k e p q = (λ i. number ((p ∙ sym (length_push l.lines (record { order = record { letter = c; amount = a }; undone = false }))) i) ((q ∙ ap opening e) i))

pub undo_replies : (m : Meaning) (n h : ℕ) (l k : Ledger) → k ≡ change (undo n) l → h ≡ opening k → hour h ≡ reply m (undo n) l (change (undo n) l)
unfolding reply
undo_replies m n h l k e q = ap hour (q ∙ ap opening e)

-- relieve is an undo of the line that is picked
pub relieves : (n : ℕ) (l : Ledger) → n ≡ pick l.lines → change (undo n) l ≡ change relieve l
unfolding change
relieves n l e = ap (λ k. change (undo k) l) e

pub relieve_replies : (m : Meaning) (n h : ℕ) (l k : Ledger) → n ≡ pick l.lines → hour h ≡ reply m (undo n) l k → number n h ≡ reply m relieve l k
unfolding reply
relieve_replies m n h l k e r = let q : h ≡ opening k = cc in (λ i. number (e i) (q i))
