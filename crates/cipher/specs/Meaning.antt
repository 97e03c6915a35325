-- What a cipher means, and the laws of it. Assumes nothing.
use Rattle.std.specs.Prelude.{◌≡◌, ℕ, ◌≤◌, List}
use Rattle.words.specs.Words.{Row}

-- how many words a block has, the initial value, and encryption and decryption of a block under a key of sixteen words
pub record Meaning : Type 0 where
  pub width : ℕ
  pub initial : List ℕ
  pub enc : List ℕ → List ℕ → List ℕ
  pub dec : List ℕ → List ℕ → List ℕ

pub record Lawful (m : Meaning) : Type 0 where
  pub least : 1 ≤ m.width
  pub most : m.width ≤ 8
  pub starts : Row m.width m.initial
  pub enc_row : (k b : List ℕ) → Row 16 k → Row m.width b → Row m.width (m.enc k b)
  pub dec_row : (k b : List ℕ) → Row 16 k → Row m.width b → Row m.width (m.dec k b)
  pub dec_enc : (k b : List ℕ) → Row 16 k → Row m.width b → m.dec k (m.enc k b) ≡ b
  pub enc_dec : (k b : List ℕ) → Row 16 k → Row m.width b → m.enc k (m.dec k b) ≡ b

-- two ciphers are one where all that can be asked of them agrees
pub record Same (m n : Meaning) : Type 0 where
  pub width : m.width ≡ n.width
  pub initial : m.initial ≡ n.initial
  pub enc : (k b : List ℕ) → Row 16 k → Row m.width b → m.enc k b ≡ n.enc k b
  pub dec : (k b : List ℕ) → Row 16 k → Row m.width b → m.dec k b ≡ n.dec k b
