-- Values that the definitions have to have: of the schedule, of the first step, and of the standard's first example. Assumes nothing.
use Rattle.std.specs.Prelude.{◌≡◌, ℕ, List, [], ◌∷◌, ◌++◌, replicate}
use Rattle.words.specs.Steps.{at, added}
use Rattle.shacal1.specs.Shacal1.{words, step, shacal1}

-- a key of which word 0 is 1
abbrev pub one : List ℕ
one = 1 ∷ replicate 15 0

-- the one block of the message "abc", padded
abbrev pub abc : List ℕ
abc = 0x61626380 ∷ replicate 14 0 ++ 24 ∷ []

pub record Known : Type 0 where
  pub w16 : at (words one 64) 16 ≡ 2
  pub w19 : at (words one 64) 19 ≡ 4
  pub first : step 0 0 (replicate 5 0) ≡ 0x5A827999 ∷ 0 ∷ 0 ∷ 0 ∷ 0 ∷ []
  -- SHA-1 of "abc"
  pub digest : added (shacal1.enc abc shacal1.initial) shacal1.initial ≡ 0xA9993E36 ∷ 0x4706816A ∷ 0xBA3E2571 ∷ 0x7850C26C ∷ 0x9CD0D89D ∷ []
