-- The sheet: set-up and orders as bytes. Assumes nothing.
use Rattle.std.specs.Prelude.{ℕ, ◌+◌, ◌*◌, ◌/◌, ◌%◌, ◌^◌, List, [], ◌∷◌, ◌++◌, length}
use Rattle.words.specs.Words.{word_bytes}
use Rattle.order.specs.Orders.{Order}

abbrev pub half_bytes : ℕ → List ℕ
half_bytes n = n / 2 ^ 8 % 2 ^ 8 ∷ n % 2 ^ 8 ∷ []

abbrev pub letters : List Order → List ℕ
letters [] = []
letters (o ∷ os) = o.letter ∷ letters os

abbrev pub amounts : List Order → List ℕ
amounts [] = []
amounts (o ∷ os) = word_bytes o.amount ++ amounts os

-- number of orders, total length, base hour, name, timetable: 37 bytes
abbrev pub head : ℕ → ℕ → List ℕ → List ℕ → List ℕ
head n base name table = half_bytes n ++ half_bytes (37 + 5 * n) ++ word_bytes base ++ name ++ table

-- and then all letters, and all amounts
unfoldable pub sheet : List ℕ → ℕ → List ℕ → List Order → List ℕ
sheet name base table os = head (length os) base name table ++ letters os ++ amounts os
