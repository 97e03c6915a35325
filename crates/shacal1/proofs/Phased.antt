-- One step more of a phase, forward and back. Assumes nothing.
use Rattle.std.proofs.Common.{◌≡◌, ℕ, List, [], ◌∷◌, ◌++◌, reverse, refl, ap}
use Rattle.std.proofs.lemmas.List.{reverse-append}
use Rattle.words.specs.Steps.{Mix}
use Rattle.shacal1.specs.Shacal1.{turn, unturn}
use Rattle.shacal1.specs.Phases.{phase, unphase}

pub phase_push : (f : Mix) (k : ℕ) (ws : List ℕ) (w : ℕ) (s : List ℕ) → phase f k (ws ++ w ∷ []) s ≡ turn f k w (phase f k ws s)
unfolding phase
phase_push f k [] w s = refl
phase_push f k (x ∷ ws) w s = phase_push f k ws w (turn f k x s)

-- the words come the last first
pub unphase_push : (f : Mix) (k : ℕ) (ws : List ℕ) (w : ℕ) (s : List ℕ) → unphase f k (reverse (ws ++ w ∷ [])) s ≡ unturn f k w (unphase f k (reverse ws) s)
unfolding unphase
unphase_push f k ws w s = ap (λ xs. unphase f k xs s) (reverse-append ws (w ∷ []))
