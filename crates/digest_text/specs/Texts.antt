-- The argument of each hash, and the text of a digest. Assumes nothing.
use Rattle.std.specs.Prelude.{◌≡◌, ℕ, List, [], ◌∷◌, ◌++◌, Ok, Err, codes, Result, ◌≢◌}
use Rattle.words.specs.Hex.{hex}
use Rattle.words.specs.Words.{bytes}
use Rattle.digest_text.specs.declared.choices.Choice.{Choice}
use Rattle.digest_text.specs.declared.choices.UnknownChoice.{UnknownChoice}
use Rattle.digest_text.specs.declared.choices.Choice.TheVariants.{Sha1, Sha256, Practice}

abbrev pub named : Choice → List ℕ
named Sha1 = codes "1"
named Sha256 = codes "2"
named Practice = codes "P"

-- the choice that is named so, or an error where none is
abbrev pub Chosen : List ℕ → Result Choice UnknownChoice → Type 0
Chosen argument (Ok c) = argument ≡ named c
Chosen argument (Err e) = (c : Choice) → argument ≢ named c

-- the digits of the words, the most significant byte first, and a line end
abbrev pub text : List ℕ → List ℕ
text ws = hex (bytes ws) ++ 10 ∷ []
