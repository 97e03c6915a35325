-- The questions, by the lists that a book holds. Assumes nothing.
use Rattle.std.proofs.Common.{◌≡◌, ℕ, ◌-◌, ◌%◌, ◌≤◌, List, ◌++◌, length, get_or, take, drop, replicate, Ok, sym, refl, ap, ◌∙◌, arith}
use Rattle.std.proofs.lemmas.List.{take_at, get_or_append_left, length-take-le}
use Rattle.words.specs.Words.{bytes}
use Rattle.words.specs.Blocks.{held}
use Rattle.words.specs.Buffer.{Fills}
use Rattle.words.specs.declared.block.Block.{Block}
use Rattle.cipher.specs.Meaning.{Meaning}
use Rattle.order.specs.Orders as order
use Rattle.order.specs.Orders.{Order}
use Rattle.order_table.specs.Lines.{Line, orders}
use Rattle.hash.specs.Digests.{digest}
use Rattle.sheet.specs.Sheets as sheets
use Rattle.ledger.specs.Ledgers.{Ledger, register, code, opening, sheet}
use Rattle.ledger.specs.Told.{tells}

module _ (m : Meaning) (name : List ℕ) (base : ℕ) (table r : List ℕ) (ls : List Line) where
  pub opening_is : (os : List Order) → os ≡ orders ls → order.opening table base os ≡ opening (tells m name base table r ls)
  unfolding opening tells
  opening_is os e = ap (order.opening table base) e

  pub sheet_is : (os : List Order) → os ≡ orders ls → sheets.sheet name base table os ≡ sheet (tells m name base table r ls)
  unfolding sheet tells
  sheet_is os e = ap (sheets.sheet name base table) e

pub code_is : (m : Meaning) (l : Ledger) (r : List ℕ) → register m l ≡ r → get_or (digest m (bytes r)) 0 0 % 1000000 ≡ code m l
unfolding code
code_is m l r e = ap (λ x. get_or (digest m (bytes x)) 0 0 % 1000000) (sym e)

-- ---- bytes hashed out of a local buffer

-- the front that was written is the answer
pub front_is : (bs old new : List ℕ) (n : ℕ) → Fills bs old new (Ok n) → take n new ≡ bs
front_is bs old new n f = ap (take n) f.2 ∙ take_at bs (drop n old) n (sym f.0)

pub block_words : (b : Block) (eight : List ℕ) → eight ≡ held b ++ replicate (8 - length (held b)) 0 → take (length (held b)) eight ≡ held b
block_words b eight e = ap (take (length (held b))) e ∙ take_at (held b) _ (length (held b)) refl

-- the first word of a block of one or more
pub block_first : (b : Block) (eight : List ℕ) → eight ≡ held b ++ replicate (8 - length (held b)) 0 → 1 ≤ length (held b) → get_or eight 0 0 ≡ get_or (held b) 0 0
block_first b eight e h = ap (λ xs. get_or xs 0 0) e ∙ get_or_append_left (held b) _ 0 0 h

pub held_some : (b : Block) → 1 ≤ length (held b)
held_some b = omega (arith, length-take-le b.count b.words (omega arith))
