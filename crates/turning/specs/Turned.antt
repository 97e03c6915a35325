-- A register turned by orders, and turned back. Assumes nothing.
use Rattle.std.specs.Prelude.{◌≡◌, ℕ, ◌^◌, List, [], ◌∷◌, length}
use Rattle.words.specs.Words.{Below}
use Rattle.cipher.specs.Meaning.{Meaning}
use Rattle.order.specs.Orders.{Order, key}

-- a lock's name: eight bytes
pub record Name (name : List ℕ) : Type 0 where
  pub long : length name ≡ 8
  pub bytes : Below (2 ^ 8) name

-- encrypted under the key of each order, in sequence
unfoldable pub turned : Meaning → List ℕ → List ℕ → List Order → List ℕ
turned m name r [] = r
turned m name r (o ∷ os) = turned m name (m.enc (key name o) r) os

-- decrypted under the key of each order, the last first
unfoldable pub back : Meaning → List ℕ → List ℕ → List Order → List ℕ
back m name r [] = r
back m name r (o ∷ os) = m.dec (key name o) (back m name r os)
