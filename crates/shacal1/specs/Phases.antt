-- What the parts of the code compute: steps of one phase. Assumes nothing.
use Rattle.std.specs.Prelude.{ℕ, List, [], ◌∷◌}
use Rattle.words.specs.Steps.{Mix}
use Rattle.shacal1.specs.Shacal1.{turn, unturn}
use Rattle.shacal1.specs.declared.steps.State.{State}

abbrev pub row : State → List ℕ
row s = s.a ∷ s.b ∷ s.c ∷ s.d ∷ s.e ∷ []

unfoldable pub phase : Mix → ℕ → List ℕ → List ℕ → List ℕ
phase f k [] s = s
phase f k (w ∷ ws) s = phase f k ws (turn f k w s)

unfoldable pub unphase : Mix → ℕ → List ℕ → List ℕ → List ℕ
unphase f k [] s = s
unphase f k (w ∷ ws) s = unturn f k w (unphase f k ws s)
