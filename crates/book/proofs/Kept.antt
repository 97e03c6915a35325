-- A register of words is one still where its front is turned or replaced. Assumes nothing.
use Rattle.std.proofs.Common.{◌≡◌, ℕ, ◌^◌, ◌≤◌, List, ◌++◌, length, take, drop, sym, ap, ◌∙◌, subst, arith}
use Rattle.std.proofs.lemmas.List.{take-append-drop, length-append, length-drop, length-take-le}
use Rattle.words.specs.Words.{Below, Row}
use Rattle.words.proofs.Bytes.{below_append, below_take, below_drop}
use Rattle.cipher.specs.Meaning.{Meaning, Lawful}
use Rattle.order.specs.Orders.{Order, AllInRange}
use Rattle.turning.specs.Turned.{Name, turned, back}
use Rattle.turning.proofs.Turning.{turned_row, back_row}

pub front_row : (m : Meaning) → Lawful m → (r : List ℕ) → Row 8 r → Row m.width (take m.width r)
front_row m law r row = record { long = length-take-le m.width r (omega (arith, law.most, row.long)); words = below_take (2 ^ 32) m.width r row.words }

-- the front is words, and what lies behind it is as it was
row_from : (n : ℕ) (old new : List ℕ) → n ≤ 8 → Row 8 old → Row n (take n new) → drop n new ≡ drop n old → Row 8 new
row_from n old new h row front rest =
    let whole : take n new ++ drop n old ≡ new = ap (λ (xs : List ℕ). take n new ++ xs) (sym rest) ∙ take-append-drop n new in
    subst (Row 8) whole (record {
      long = length-append (take n new) (drop n old) ∙ omega (arith, front.long, row.long, length-drop n old);
      words = below_append (2 ^ 32) (take n new) (drop n old) front.words (below_drop (2 ^ 32) n old row.words);
    })

pub put_keeps : (ws old new : List ℕ) → length ws ≤ 8 → Row 8 old → Below (2 ^ 32) ws → take (length ws) new ≡ ws → drop (length ws) new ≡ drop (length ws) old → Row 8 new
put_keeps ws old new h row words front rest = row_from (length ws) old new h row (record { long = ap length front; words = subst (Below (2 ^ 32)) (sym front) words }) rest

module _ (m : Meaning) (law : Lawful m) (name : List ℕ) (named : Name name) (old new : List ℕ) (row : Row 8 old) (os : List Order) (ranged : AllInRange os) (rest : drop m.width new ≡ drop m.width old) where
  pub turned_keeps : take m.width new ≡ turned m name (take m.width old) os → Row 8 new
  turned_keeps e =
      row_from m.width old new law.most row (subst (Row m.width) (sym e) (turned_row m law name named (take m.width old) os ranged (front_row m law old row))) rest

  pub back_keeps : take m.width new ≡ back m name (take m.width old) os → Row 8 new
  back_keeps e =
      row_from m.width old new law.most row (subst (Row m.width) (sym e) (back_row m law name named (take m.width old) os ranged (front_row m law old row))) rest
