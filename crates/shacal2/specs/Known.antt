-- Values that the definitions have to have: of the first step and of the standard's first example. Assumes nothing.
use Rattle.std.specs.Prelude.{◌≡◌, ℕ, List, [], ◌∷◌, ◌++◌, replicate}
use Rattle.words.specs.Steps.{added}
use Rattle.shacal2.specs.Shacal2.{step, shacal2}

-- the one block of the message "abc", padded
abbrev pub abc : List ℕ
abc = 0x61626380 ∷ replicate 14 0 ++ 24 ∷ []

pub record Known : Type 0 where
  pub first : step 0 0 (replicate 8 0) ≡ 0x428A2F98 ∷ 0 ∷ 0 ∷ 0 ∷ 0x428A2F98 ∷ 0 ∷ 0 ∷ 0 ∷ []
  -- SHA-256 of "abc"
  pub digest : added (shacal2.enc abc shacal2.initial) shacal2.initial ≡ 0xBA7816BF ∷ 0x8F01CFEA ∷ 0x414140DE ∷ 0x5DAE2223 ∷ 0xB00361A3 ∷ 0x96177A9C ∷ 0xB410FF61 ∷ 0xF20015AD ∷ []
