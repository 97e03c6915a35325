-- The line that is picked is the longest delay in force. Assumes nothing.
use Rattle.std.proofs.Common.{◌≡◌, ℕ, zero, suc, ◌+◌, ◌<◌, ◌≤◌, Bool, true, false, cond, not, ◌&&◌, eqb, ltb, leb, ◌⊎◌, List, [], ◌∷◌, Some, None, refl, ap, subst, inl, inr, arith}
use mathlib.Core.Option.{none, some}
use Rattle.std.proofs.lemmas.Bool.{false≢true, both_ways, leb-true, ltb-true, ltb-false, and_parts, and_cases}
use Rattle.order.specs.Orders.{InRange, delay}
use Rattle.order_table.specs.Lines.{Line, LinesInRange, line, delays, NoneDelays, Longest, best}
use Rattle.order_table.specs.Views.{Picks}

-- what the search over the lines from number n on has found
record Best (n : ℕ) (ls : List Line) (r : ℕ × ℕ) : Type 0 where
  at : ℕ
  line : Line
  is_longest : Longest ls (suc at) line
  fits : InRange line.order
  number : r.0 ≡ n + at
  amount : r.1 ≡ line.order.amount

-- no delay, or the best one
Found : ℕ → List Line → ℕ × ℕ → Type 0
Found n ls r = ((r.0 ≡ 0) × (r.1 ≡ 0) × NoneDelays ls) ⊎ Best n ls r

no_line : {o : Line} {A : Type 0} → none ≡ some o → A
no_line e = let z : ◌≡◌ {A = ℕ} 0 1 = cc in absurd (omega arith)

some_line : (l o : Line) → some l ≡ some o → l ≡ o
some_line l o e = cc

-- a delay in range is of one hour or more
at_least : (b : Bool) (a : ℕ) → b ≡ true → cond b (leb 1 a && leb a 720) (leb a 1000000) ≡ true → 1 ≤ a
at_least true a e h = leb-true 1 a (and_parts (leb 1 a) (leb a 720) h).0
at_least false a e h = absurd (false≢true e)

pub some_hours : (l : Line) → InRange l.order → delays l ≡ true → 1 ≤ l.order.amount
some_hours l r d = at_least (eqb l.order.letter delay) l.order.amount (and_parts (not l.undone) (eqb l.order.letter delay) d).1 r.amount

-- what holds of the first line and of each line after it holds of every line
each : (P : ℕ → Line → Type 0) (l : Line) (ls : List Line) → P 1 l → ((k : ℕ) (o : Line) → line ls (suc k) ≡ some o → P (suc (suc k)) o)
    → (k : ℕ) (o : Line) → line (l ∷ ls) k ≡ some o → P k o
unfolding line
each P l ls here rest zero o e = no_line e
each P l ls here rest (suc zero) o e = subst (P 1) (some_line l o e) here
each P l ls here rest (suc (suc k)) o e = rest k o e

module _ (n : ℕ) (l : Line) (ls : List Line) (r : ℕ × ℕ) (fits : InRange l.order) where
  -- the first line is a delay longer than any after it
  take_first : Found (n + 1) ls r → delays l ≡ true → r.1 < l.order.amount → Best n (l ∷ ls) (n, l.order.amount)
  unfolding Found line
  take_first f d h =
      let shorter : (k : ℕ) (o : Line) → line ls (suc k) ≡ some o → delays o ≡ true → o.order.amount < l.order.amount =
      λ k o e g. elim f [ inl z ↦ absurd (z.2 (suc k) o e g) | inr b ↦ omega (arith, b.is_longest.longest (suc k) o e g, b.amount) ] in
      record {
        at = 0;
        line = l;
        is_longest = record {
          here = refl;
          is_delay = d;
          longest = each (λ k o. delays o ≡ true → o.order.amount ≤ l.order.amount) l ls (λ g. omega arith) (λ k o e g. omega (arith, shorter k o e g));
          latest = each (λ k o. delays o ≡ true → o.order.amount ≡ l.order.amount → k ≤ 1) l ls (λ g s. omega arith) (λ k o e g s. absurd (omega (arith, shorter k o e g)));
        };
        fits = fits;
        number = omega arith;
        amount = refl;
      }

  -- the first line is no delay, or no longer than the best after it
  pass_first : Found (n + 1) ls r → (delays l ≡ true → l.order.amount ≤ r.1) → Found n (l ∷ ls) r
  unfolding Found line
  pass_first (inl z) h =
      inl (z.0, z.1, each (λ k o. delays o ≡ true → ⊥) l ls (λ d. omega (arith, h d, some_hours l fits d)) (λ k o e. z.2 (suc k) o e))
  pass_first (inr b) h =
      inr (record {
        at = suc b.at;
        line = b.line;
        is_longest = record {
          here = b.is_longest.here;
          is_delay = b.is_longest.is_delay;
          longest = each (λ k o. delays o ≡ true → o.order.amount ≤ b.line.order.amount) l ls (λ d. omega (arith, h d, b.amount)) (λ k o e. b.is_longest.longest (suc k) o e);
          latest = each (λ k o. delays o ≡ true → o.order.amount ≡ b.line.order.amount → k ≤ suc (suc b.at)) l ls (λ d s. omega arith) (λ k o e d s. omega (arith, b.is_longest.latest (suc k) o e d s));
        };
        fits = b.fits;
        number = omega (arith, b.number);
        amount = b.amount;
      })

  -- one line more
  one_more : Found (n + 1) ls r → Found n (l ∷ ls) (cond (delays l && ltb r.1 l.order.amount) (n, l.order.amount) r)
  unfolding Found
  one_more f = go (delays l && ltb r.1 l.order.amount) refl
    where
      go : (b : Bool) → (delays l && ltb r.1 l.order.amount) ≡ b → Found n (l ∷ ls) (cond b (n, l.order.amount) r)
      go true e =
          let p = and_parts (delays l) (ltb r.1 l.order.amount) e in
          inr (take_first f p.0 (ltb-true r.1 l.order.amount p.1))
      go false e =
          pass_first f (λ d. elim (and_cases (delays l) (ltb r.1 l.order.amount) e) [ inl z ↦ absurd (both_ways (delays l) z d) | inr z ↦ ltb-false r.1 l.order.amount z ])

-- the search finds the longest delay, or that there is none
finds : (n : ℕ) (ls : List Line) → LinesInRange ls → Found n ls (best n ls)
unfolding Found best line
finds n [] f = inl (refl, refl, λ k o e. no_line e)
finds n (l ∷ ls) f = one_more n l ls (best (n + 1) ls) f.0 (finds (n + 1) ls f.1)

-- a search that found number 0 picks none, and any other the longest delay
pub picks : (ls : List Line) (r : ℕ × ℕ) → LinesInRange ls → r ≡ best 1 ls → ((r.0 ≡ 0) → Picks ls None) × ((1 ≤ r.0) → Picks ls (Some r.0))
unfolding Found
picks ls r f e =
    let number = ap (λ (p : ℕ × ℕ). p.0) e in
    elim (finds 1 ls f) [
      | inl z ↦ (λ h. (z.0, z.2), λ h. absurd (omega (arith, number, z.0)))
      | inr b ↦ (
        λ h. absurd (omega (arith, number, b.number)),
        λ h. (number, h, (b.line, subst (λ (n : ℕ). Longest ls n b.line) (omega (arith, number, b.number)) b.is_longest)),
      )
    ]
