-- That what a book keeps of its name and register has one proof at most. Assumes nothing.
use Rattle.std.specs.Prelude.{ℕ, List, [], ◌∷◌, ◌^◌, length}
use Rattle.std.specs.Coded.{Coded-set, coded_ℕ, ×_prop, Unit-prop, le_prop}
use Rattle.words.specs.Words.{Below, Row}
use Rattle.turning.specs.Turned.{Name}

below_prop : (b : ℕ) (xs : List ℕ) → IsProp (Below b xs)
below_prop b [] = Unit-prop
below_prop b (x ∷ xs) = ×_prop le_prop (below_prop b xs)

pub name_prop : (xs : List ℕ) → IsProp (Name xs)
name_prop xs p q = λ i. record { long = Coded-set coded_ℕ (length xs) 8 p.long q.long i; bytes = below_prop (2 ^ 8) xs p.bytes q.bytes i }

pub row_prop : (n : ℕ) (xs : List ℕ) → IsProp (Row n xs)
row_prop n xs p q = λ i. record { long = Coded-set coded_ℕ (length xs) n p.long q.long i; words = below_prop (2 ^ 32) xs p.words q.words i }
