-- Hours, timetables and the next open hour. Assumes nothing.
-- An hour is counted from a Monday 00:00; a timetable is 21 bytes, a bit for each hour of the week.
use Rattle.std.specs.Prelude.{◌≡◌, ℕ, zero, suc, ◌+◌, ◌-◌, ◌/◌, ◌%◌, ◌^◌, ◌<◌, ◌≤◌, Bool, true, false, ◌||◌, List, ◌==◌, slice_index}

-- the bit of an hour of the week, bit 7 of a byte being the first of its eight hours
abbrev pub bit_at : List ℕ → ℕ → Bool
bit_at table w = slice_index table (w / 8) / 2 ^ (7 - w % 8) % 2 == 1

-- whether an hour is open
unfoldable pub opens_at : List ℕ → ℕ → Bool
opens_at table h = bit_at table (h % 168)

-- whether one of the first n hours of the week is open
unfoldable pub some_open : List ℕ → ℕ → Bool
some_open table zero = false
some_open table (suc n) = opens_at table n || some_open table n

unfoldable pub ever_open : List ℕ → Bool
ever_open table = some_open table 168

-- h is the smallest open hour that is t or later
pub record Next (table : List ℕ) (t h : ℕ) : Type 0 where
  pub later : t ≤ h
  pub opens : opens_at table h ≡ true
  pub first : (k : ℕ) → t ≤ k → k < h → opens_at table k ≡ false

-- the same as a number, looked for in the n hours from t on
unfoldable pub seek : List ℕ → ℕ → ℕ → ℕ
seek table zero t = t
seek table (suc n) t = elim (opens_at table t) [ true ↦ t | false ↦ seek table n (t + 1) ]

unfoldable pub next : List ℕ → ℕ → ℕ
next table t = seek table 167 t
