-- The practice cipher: two words, and the key's first two added to them or taken from them. Assumes nothing.
use Rattle.std.specs.Prelude.{List, [], ◌∷◌, ℕ}
use Rattle.words.specs.Words.{add}
use Rattle.words.specs.Steps.{at, sub}
use Rattle.cipher.specs.Meaning.{Meaning}

abbrev pub plus : List ℕ → List ℕ → List ℕ
plus k b = add (at b 0) (at k 0) ∷ add (at b 1) (at k 1) ∷ []

abbrev pub less : List ℕ → List ℕ → List ℕ
less k b = sub (at b 0) (at k 0) ∷ sub (at b 1) (at k 1) ∷ []

abbrev pub practice : Meaning
practice = record { width = 2; initial = 1 ∷ 2 ∷ []; enc = plus; dec = less }
