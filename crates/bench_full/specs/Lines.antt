-- The lines of a book that the bench prints. Assumes nothing.
use Rattle.std.specs.Prelude.{ℕ, zero, suc, ◌+◌, ◌/◌, ◌%◌, List, [], ◌∷◌, ◌++◌, codes}
use Rattle.words.specs.Hex.{hex}

-- the last n decimal digits of a number
unfoldable pub last_digits : ℕ → ℕ → List ℕ
last_digits zero x = []
last_digits (suc n) x = last_digits n (x / 10) ++ (48 + x % 10) ∷ []

-- "code DDDDDD" and a line end, leading zeros kept
unfoldable pub code_line : ℕ → List ℕ
code_line n = codes "code " ++ last_digits 6 n ++ codes "\n"

-- "seal HEX" and a line end
unfoldable pub seal_line : List ℕ → List ℕ
seal_line bs = codes "seal " ++ hex bs ++ codes "\n"
