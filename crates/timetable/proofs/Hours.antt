-- The next open hour is there, is one, and is less than a week away. Assumes nothing.
use Rattle.std.proofs.Common.{◌≡◌, ℕ, zero, suc, ◌+◌, ◌-◌, ◌%◌, ◌^◌, ◌<◌, ◌≤◌, Bool, true, false, List, length, replicate, slice_index, Option, Some, None, MatchBool, MatchOption, unwrap_or, sym, refl, ap, ◌∙◌, inl, inr, arith}
use Rattle.std.proofs.lemmas.Bool.{both_ways, cases_order}
use Rattle.std.proofs.lemmas.Bool.Decides.{Decides-below_or}
use Rattle.std.proofs.lemmas.List.FromFn.{length-range_with_len, get_or-range_with_len}
use Rattle.std.specs.List.{range_with_len, HoldsAt, AllWithin}
use Rattle.timetable.specs.Hours.{bit_at, opens_at, some_open, ever_open, Next, seek, next}

-- hours of the same week hour are open alike
pub same_week : (table : List ℕ) (h k : ℕ) → h % 168 ≡ k % 168 → opens_at table h ≡ opens_at table k
unfolding opens_at
same_week table h k e = ap (bit_at table) e

-- the check over the week's hours finds an open hour exactly where there is one
some_open_decides : (table : List ℕ) (n : ℕ) → (some_open table n ≡ true → (k : ℕ) × (k < n) × (opens_at table k ≡ true)) × ((k : ℕ) × (k < n) × (opens_at table k ≡ true) → some_open table n ≡ true)
unfolding some_open
some_open_decides table n = Decides-below_or (opens_at table) (λ k. opens_at table k ≡ true) (some_open table) (λ k. (λ e. e, λ e. e)) refl (λ n. refl) n

-- the hours of the week in a row
hour_at : (k : ℕ) → k < 168 → slice_index (range_with_len 0 168) k ≡ k
hour_at k h = get_or-range_with_len 0 168 k 0 h ∙ omega arith

-- some hour of the week is open or none is, and the answer of a search says which
pub ever_open_found : (table : List ℕ) (r : Bool) → let hours = range_with_len 0 168 in
    MatchBool r ((k : ℕ) × (k < length hours) × HoldsAt (λ h. opens_at table h ≡ true) hours k) (AllWithin (λ h. opens_at table h ≡ false) hours 0 (length hours)) → r ≡ ever_open table
unfolding ever_open
ever_open_found table true (k, h, opens) =
    let below : k < 168 = omega (arith, length-range_with_len 0 168, h) in
    sym ((some_open_decides table 168).1 (k, below, ap (opens_at table) (sym (hour_at k below)) ∙ opens 0))
ever_open_found table false shut = none_open (some_open table 168) refl
  where
    none_open : (b : Bool) → some_open table 168 ≡ b → false ≡ b
    none_open false e = refl
    none_open true e =
        let (k, h, o) = (some_open_decides table 168).0 e in
        absurd (both_ways (opens_at table k) (ap (opens_at table) (sym (hour_at k h)) ∙ shut k 0 (omega arith) (omega (arith, length-range_with_len 0 168, h))) o)

open_week_hour : (table : List ℕ) → ever_open table ≡ true → (k : ℕ) × (k < 168) × (opens_at table k ≡ true)
unfolding ever_open
open_week_hour table e = (some_open_decides table 168).0 e

-- a timetable that is ever open has an open hour among any 168 in a row
pub open_within : (table : List ℕ) (t : ℕ) → ever_open table ≡ true → (h : ℕ) × (t ≤ h) × (h ≤ t + 167) × (opens_at table h ≡ true)
open_within table t e =
    let w = open_week_hour table e in
    let below : w.0 < 168 = w.1 in
    (t + (w.0 + 168 - t % 168) % 168, omega arith, omega arith, same_week table (t + (w.0 + 168 - t % 168) % 168) w.0 (omega arith) ∙ w.2)

-- the search among n hours finds the first open one, if one of them or the hour after them is open
seeks : (table : List ℕ) (n t h : ℕ) → t ≤ h → h ≤ t + n → opens_at table h ≡ true → Next table t (seek table n t) × (seek table n t ≤ t + n)
unfolding seek
seeks table zero t h a b e =
    let same : h ≡ t = omega arith in
    (record { later = omega arith; opens = ap (opens_at table) (sym same) ∙ e; first = λ k l m. absurd (omega arith) }, omega arith)
seeks table (suc n) t h a b e = go (opens_at table t) refl (λ late. seeks table n (t + 1) h late (omega arith) e)
  where
    go : (b : Bool) → opens_at table t ≡ b → (t + 1 ≤ h → Next table (t + 1) (seek table n (t + 1)) × (seek table n (t + 1) ≤ t + 1 + n))
        → let s : ℕ = elim b [ true ↦ t | false ↦ seek table n (t + 1) ] in Next table t s × (s ≤ t + suc n)
    go true o rest = (record { later = omega arith; opens = o; first = λ k l m. absurd (omega arith) }, omega arith)
    go false o rest =
        let apart : t ≡ h → ⊥ = λ s. both_ways (opens_at table t) o (ap (opens_at table) s ∙ e) in
        let r = rest (elim (cases_order t h) [ inl s ↦ absurd (apart s) | inr (inl l) ↦ omega arith | inr (inr l) ↦ absurd (omega arith) ]) in
        let first : (k : ℕ) → t ≤ k → k < seek table n (t + 1) → opens_at table k ≡ false =
        λ k l m. elim (cases_order t k) [ inl s ↦ ap (opens_at table) (sym s) ∙ o | inr (inl p) ↦ r.0.first k (omega arith) m | inr (inr p) ↦ absurd (omega arith) ] in
        (record { later = omega (arith, r.0.later); opens = r.0.opens; first = first }, omega (arith, r.1))

-- the next hour of a timetable that is ever open: it is the next open hour, and less than a week away
pub next_open : (table : List ℕ) (t : ℕ) → ever_open table ≡ true → Next table t (next table t) × (next table t ≤ t + 167)
unfolding next
next_open table t e = let w = open_within table t e in seeks table 167 t w.0 w.1 w.2 w.3

-- one next hour is not before another
not_before : (table : List ℕ) (t h k : ℕ) → Next table t h → Next table t k → h < k → ⊥
not_before table t h k n m l = both_ways (opens_at table h) (m.first h n.later l) n.opens

-- there is one next open hour
pub next_once : (table : List ℕ) (t h k : ℕ) → Next table t h → Next table t k → h ≡ k
next_once table t h k n m =
    elim (cases_order h k) [ inl e ↦ e | inr (inl l) ↦ absurd (not_before table t h k n m l) | inr (inr l) ↦ absurd (not_before table t k h m n l) ]

-- from an open hour, at most five weeks on, the next open hour is no later than that
pub within_weeks : (table : List ℕ) (t u : ℕ) → ever_open table ≡ true → opens_at table t ≡ true → u ≤ t + 840 → next table u ≤ t + 840
within_weeks table t u ever e h =
    let n = (next_open table u ever).0 in
    elim (cases_order (t + 840) (next table u)) [
      | inl l ↦ omega arith
      | inr (inl l) ↦ absurd (both_ways (opens_at table (t + 840)) (n.first (t + 840) h l) (same_week table (t + 840) t (omega arith) ∙ e))
      | inr (inr l) ↦ omega arith
    ]

-- the n hours from t on are shut
abbrev pub Shut : List ℕ → ℕ → ℕ → Type 0
Shut table t n = (k : ℕ) → k < n → opens_at table (t + k) ≡ false

-- an open hour behind n that are shut is the next one
pub waits : (table : List ℕ) (t n : ℕ) → Shut table t n → opens_at table (t + n) ≡ true → Next table t (t + n)
waits table t n shut e = record {
  later = omega arith;
  opens = e;
  first = λ k l m. let s : t + (k - t) ≡ k = omega arith in ap (opens_at table) (sym s) ∙ shut (k - t) (omega arith);
}

-- and is the number that is sought
pub waits_next : (table : List ℕ) (t n : ℕ) → ever_open table ≡ true → Next table t (t + n) → t + n ≡ next table t
waits_next table t n ever next-is = next_once table t (t + n) (next table t) next-is (next_open table t ever).0

-- of 168 hours in a row the last is open if the others are shut
pub last_opens : (table : List ℕ) (t n : ℕ) → n ≡ 167 → ever_open table ≡ true → Shut table t n → opens_at table (t + 167) ≡ true
last_opens table t n e ever shut =
    let w = open_within table t ever in
    let late = w.1 in
    let near = w.2 in
    let s : t + (w.0 - t) ≡ w.0 = omega arith in
    elim (cases_order w.0 (t + 167)) [
      | inl same ↦ ap (opens_at table) (sym same) ∙ w.3
      | inr (inl l) ↦ absurd (both_ways (opens_at table w.0) (ap (opens_at table) (sym s) ∙ shut (w.0 - t) (omega arith)) w.3)
      | inr (inr l) ↦ absurd (omega arith)
    ]

-- the first open hour of those from an hour of the same week hour on, or the one behind them
abbrev pub Found : List ℕ → ℕ → Option ℕ → Type 0
Found table from r = MatchOption r ((k : ℕ) → 0 ≤ k → k < 167 → opens_at table (from + k) ≡ false)
    (λ n. (0 ≤ n) × (n < 167) × (opens_at table (from + n) ≡ true) × ((k : ℕ) → 0 ≤ k → k < n → opens_at table (from + k) ≡ false))

-- is the next one
pub waits_found : (table : List ℕ) (t : ℕ) (r : Option ℕ) → ever_open table ≡ true → Found table (t % 168) r → Next table t (t + unwrap_or r 167) × (unwrap_or r 167 ≤ 167)
waits_found table t (Some n) ever (low, high, opens, shut) = (
  waits table t n (λ k h. same_week table (t + k) (t % 168 + k) (omega arith) ∙ shut k (omega arith) h) (same_week table (t + n) (t % 168 + n) (omega arith) ∙ opens),
  omega arith,
)
waits_found table t None ever shut =
    let all : Shut table t 167 = λ k h. same_week table (t + k) (t % 168 + k) (omega arith) ∙ shut k (omega arith) h in
    (waits table t 167 all (last_opens table t 167 refl ever all), omega arith)

-- every byte of the timetable that is open at every hour fits
pub ones_fit : (n k : ℕ) → slice_index (replicate n 255) k < 2 ^ 8
ones_fit zero k = omega arith
ones_fit (suc n) zero = omega arith
ones_fit (suc n) (suc k) = ones_fit n k
