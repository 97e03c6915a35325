-- Orders, the opening hour that they lead to, and their keys. Assumes nothing.
use Rattle.std.specs.Prelude.{◌≡◌, ℕ, ◌+◌, max, Bool, true, cond, ◌&&◌, ◌||◌, List, [], ◌∷◌, ◌++◌, replicate, ◌==◌, nat_le}
use Rattle.words.specs.Words.{words, word_bytes}
use Rattle.timetable.specs.Hours.{next}

pub record Order : Type 0 where
  pub letter : ℕ
  pub amount : ℕ

-- 'D', wait so many hours
abbrev pub delay : ℕ
delay = 0x44

-- 'N', not before an hour
abbrev pub not_before : ℕ
not_before = 0x4E

abbrev pub lettered : ℕ → Bool
lettered c = c == delay || c == not_before

-- an amount in its letter's range
abbrev pub ranged : ℕ → ℕ → Bool
ranged c a = cond (c == delay) (nat_le 1 a && nat_le a 720) (nat_le a 1000000)

pub record InRange (o : Order) : Type 0 where
  pub letter : lettered o.letter ≡ true
  pub amount : ranged o.letter o.amount ≡ true

abbrev pub AllInRange : List Order → Type 0
AllInRange [] = Unit {0}
AllInRange (o ∷ os) = InRange o × AllInRange os

-- the hour from which an order lets the lock open, from the opening hour before it
abbrev pub earliest : ℕ → Order → ℕ
earliest t o = cond (o.letter == delay) (t + o.amount) (max t o.amount)

-- the opening hour after an order, from the one before it
unfoldable pub apply : List ℕ → ℕ → Order → ℕ
apply table t o = next table (earliest t o)

unfoldable pub applied : List ℕ → ℕ → List Order → ℕ
applied table t [] = t
applied table t (o ∷ os) = applied table (apply table t o) os

-- the opening hour of a base hour and a list of orders
unfoldable pub opening : List ℕ → ℕ → List Order → ℕ
opening table base os = applied table (next table base) os

-- the key of an order under a lock's name: sixteen bytes, and the sixteen words that they fill up to
abbrev pub key_bytes : List ℕ → Order → List ℕ
key_bytes name o = o.letter ∷ 0 ∷ 0 ∷ 0 ∷ word_bytes o.amount ++ name

unfoldable pub key : List ℕ → Order → List ℕ
key name o = words (key_bytes name o ++ replicate 48 0)
