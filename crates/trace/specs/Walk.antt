-- The walk back from the ends of two messages, as a relation over places. Assumes nothing.
use Rattle.std.specs.Prelude.{◌≡◌, ℕ, ◌+◌, ◌<◌, ◌≤◌, ◌⊎◌, List, [], length, take, Some, None, Ok, Err, Option, Result, ◌≢◌, slice_index_or}
use Rattle.faults.specs.declared.grounds.TraceFault.{TraceFault}
use Rattle.faults.specs.declared.grounds.TraceFault.TheVariants.{Long, Equal, Differ}
use Rattle.cipher.specs.Meaning.{Meaning}
use Rattle.hash.specs.Digests.{blocks, chain, forward, digest}
use Rattle.hash.specs.Messages.{limit}

-- the chaining value before block i of a message, and the block
abbrev pub before : Meaning → List ℕ → ℕ → List ℕ
before m msg i = chain m m.initial (take i (blocks msg))

abbrev pub block : List ℕ → ℕ → List ℕ
block msg i = slice_index_or (blocks msg) i []

-- the pair is the same at block i of x and block j of y
abbrev pub Agree : Meaning → List ℕ → List ℕ → ℕ → ℕ → Type 0
Agree m x y i j = (before m x i ≡ before m y j) × (block x i ≡ block y j)

-- walking back from both ends in step, i and j are the first blocks at which the pair differs
pub record Stops (m : Meaning) (x y : List ℕ) (i j : ℕ) : Type 0 where
  pub left : ℕ
  pub x_left : i + left + 1 ≡ length (blocks x)
  pub y_left : j + left + 1 ≡ length (blocks y)
  pub differs : Agree m x y i j → ⊥
  pub agree : (k : ℕ) → k < left → Agree m x y (i + 1 + k) (j + 1 + k)

-- there the step collides
pub record Collides (m : Meaning) (x y : List ℕ) (i j : ℕ) : Type 0 where
  pub stops : Stops m x y i j
  pub step : forward m (before m x i) (block x i) ≡ forward m (before m y j) (block y j)

-- and at no other place does the walk stop
abbrev pub Only : Meaning → List ℕ → List ℕ → ℕ → ℕ → Type 0
Only m x y i j = (k l : ℕ) → Stops m x y k l → (k ≡ i) × (l ≡ j)

abbrev pub Within : List ℕ → List ℕ → Type 0
Within x y = (length x ≤ limit) × (length y ≤ limit)

pub record Found (m : Meaning) (x y : List ℕ) (i j : ℕ) : Type 0 where
  pub within : Within x y
  pub unlike : x ≡ y → ⊥
  pub shared : digest m x ≡ digest m y
  pub collides : Collides m x y i j
  pub only : Only m x y i j

-- the collision, or the first ground that holds
abbrev pub Traces : Meaning → List ℕ → List ℕ → Result (ℕ × ℕ) TraceFault → Type 0
Traces m x y (Ok p) = Found m x y p.0 p.1
Traces m x y (Err Long) = (limit < length x) ⊎ (limit < length y)
Traces m x y (Err Equal) = Within x y × (x ≡ y)
Traces m x y (Err Differ) = Within x y × (x ≢ y) × (digest m x ≢ digest m y)

-- of k places from i and j on, the last at which the pair differs
abbrev pub Last : Meaning → List ℕ → List ℕ → ℕ → ℕ → ℕ → Option ℕ → Type 0
Last m x y i j k None = (q : ℕ) → q < k → Agree m x y (i + q) (j + q)
Last m x y i j k (Some p) = (p < k) × (Agree m x y (i + p) (j + p) → ⊥) × ((q : ℕ) → p < q → q < k → Agree m x y (i + q) (j + q))
