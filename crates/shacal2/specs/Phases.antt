-- What the parts of the code compute: steps over some words, each with its constant. Assumes nothing.
use Rattle.std.specs.Prelude.{ℕ, List, [], ◌∷◌}
use Rattle.shacal2.specs.Shacal2.{turn, unturn}
use Rattle.shacal2.specs.declared.steps.State.{State}

abbrev pub row : State → List ℕ
row s = s.a ∷ s.b ∷ s.c ∷ s.d ∷ s.e ∷ s.f ∷ s.g ∷ s.h ∷ []

unfoldable pub phase : List ℕ → List ℕ → List ℕ → List ℕ
phase [] ws s = s
phase (k ∷ ks) [] s = s
phase (k ∷ ks) (w ∷ ws) s = phase ks ws (turn k w s)

unfoldable pub unphase : List ℕ → List ℕ → List ℕ → List ℕ
unphase [] ws s = s
unphase (k ∷ ks) [] s = s
unphase (k ∷ ks) (w ∷ ws) s = unturn k w (unphase ks ws s)
