-- Turning a register on by orders, and back. Assumes nothing.
use Rattle.std.proofs.Common.{◌≡◌, ℕ, ◌^◌, ◌<◌, ◌≤◌, List, [], ◌∷◌, ◌++◌, map, length, get_or, take, replicate, sym, refl, ap, ◌∙◌, arith}
use Rattle.std.proofs.Common.{fold, reverse, Bor}
use Rattle.std.proofs.lemmas.Grind.{reverse_onto}
use Rattle.std.proofs.lemmas.List.{length-append, length-replicate, length-take-le}
use Rattle.std.proofs.lemmas.List.Folds.{fold-map}
use Rattle.std.proofs.lemmas.List.Sums.{fold_push}
use Rattle.words.specs.Words.{Below, Row, word_bytes}
use Rattle.words.proofs.Bytes.{below_append, below_replicate, below_take, below_from, word_bytes_below, words_below, length_words}
use Rattle.cipher.specs.Meaning.{Meaning, Lawful}
use Rattle.order.specs.Orders.{Order, InRange, AllInRange, key_bytes, key}
use Rattle.order.specs.Views.{view}
use Rattle.order.specs.declared.kind.Order as code
use Rattle.order.proofs.Ranges.{letter_below}
use Rattle.turning.specs.Turned.{Name, turned, back}

-- what the types say of each element
pub name_from : (xs : List ℕ) → length xs ≡ 8 → ((k : ℕ) → get_or xs k 0 < 256) → Name xs
name_from xs e h = record { long = e; bytes = below_from 256 xs h }

pub front_from : (n : ℕ) (xs : List ℕ) → n ≤ length xs → ((k : ℕ) → get_or xs k 0 < 4294967296) → Row n (take n xs)
front_from n xs e h = record { long = length-take-le n xs e; words = below_take 4294967296 n xs (below_from 4294967296 xs h) }

-- a key is sixteen words
pub key_row : (name : List ℕ) (o : Order) → Name name → InRange o → Row 16 (key name o)
unfolding key
key_row name o named r =
    let long : length (key_bytes name o ++ replicate 48 0) ≡ 64 = simp (length-append, length-replicate) (omega (arith, named.long)) in
    let front : Below (2 ^ 8) (key_bytes name o) = (letter_below o r, (omega arith, (omega arith, (omega arith, below_append (2 ^ 8) (word_bytes o.amount) name (word_bytes_below o.amount) named.bytes)))) in
    record {
      long = length_words 16 (key_bytes name o ++ replicate 48 0) long;
      words = words_below (key_bytes name o ++ replicate 48 0) (below_append (2 ^ 8) (key_bytes name o) (replicate 48 0) front (below_replicate (2 ^ 8) 48 0 (omega arith)));
    }

pub back_append : (m : Meaning) (name r : List ℕ) (xs ys : List Order) → back m name r (xs ++ ys) ≡ back m name (back m name r ys) xs
unfolding back
back_append m name r [] ys = refl
back_append m name r (x ∷ xs) ys = ap (m.dec (key name x)) (back_append m name r xs ys)

module _ (m : Meaning) (law : Lawful m) (name : List ℕ) (named : Name name) where
  pub back_row : (r : List ℕ) (os : List Order) → AllInRange os → Row m.width r → Row m.width (back m name r os)
  unfolding back
  back_row r [] h row = row
  back_row r (o ∷ os) h row = law.dec_row _ _ (key_row name o named h.0) (back_row r os h.1 row)

  pub turned_row : (r : List ℕ) (os : List Order) → AllInRange os → Row m.width r → Row m.width (turned m name r os)
  unfolding turned
  turned_row r [] h row = row
  turned_row r (o ∷ os) h row = turned_row (m.enc (key name o) r) os h.1 (law.enc_row _ _ (key_row name o named h.0) row)

  pub back_turned : (r : List ℕ) (os : List Order) → AllInRange os → Row m.width r → back m name (turned m name r os) os ≡ r
  unfolding back turned
  back_turned r [] h row = refl
  back_turned r (o ∷ os) h row =
      let k = key_row name o named h.0 in
      ap (m.dec (key name o)) (back_turned (m.enc (key name o) r) os h.1 (law.enc_row _ _ k row)) ∙ law.dec_enc _ _ k row

  pub turned_back : (r : List ℕ) (os : List Order) → AllInRange os → Row m.width r → turned m name (back m name r os) os ≡ r
  unfolding back turned
  turned_back r [] h row = refl
  turned_back r (o ∷ os) h row =
      let k = key_row name o named h.0 in
      ap (λ x. turned m name x os) (law.enc_dec _ _ k (back_row r os h.1 row)) ∙ turned_back r os h.1 row

  -- the end of the orders replaced, and the register turned back along the old and on along the new, leaves the start
  pub replaced : (r : List ℕ) (xs ys zs : List Order) → AllInRange ys → AllInRange zs → Row m.width r → back m name (turned m name (back m name r ys) zs) (xs ++ zs) ≡ back m name r (xs ++ ys)
  replaced r xs ys zs p q row =
      back_append m name _ xs zs ∙ ap (λ x. back m name x xs) (back_turned _ zs q (back_row r ys p row)) ∙ sym (back_append m name r xs ys)

-- ---- the same over the orders of the code, one after the other

module _ (m : Meaning) (name r new : List ℕ) (os : List code.Order) (xs : List (Bor code.Order)) where
  turned_fold : (s : List ℕ) (ys : List code.Order) → fold (λ t o. m.enc (key name (view o)) t) s ys ≡ turned m name s (map view ys)
  unfolding turned
  turned_fold s [] = refl
  turned_fold s (y ∷ ys) = turned_fold (m.enc (key name (view y)) s) ys

  back_fold : (ys : List code.Order) → fold (λ t o. m.dec (key name (view o)) t) r (reverse ys) ≡ back m name r (map view ys)
  unfolding back
  back_fold [] = refl
  back_fold (y ∷ ys) =
      let f : List ℕ → code.Order → List ℕ = λ t o. m.dec (key name (view o)) t in
      ap (fold f r) (reverse_onto ys y []) ∙ fold_push f r (reverse ys) y ∙ ap (m.dec (key name (view y))) (back_fold ys)

  pub turned_along : map (λ o. o.now) xs ≡ os → new ≡ fold (λ t o. m.enc (key name (view o.now)) t) r xs → new ≡ turned m name r (map view os)
  turned_along is e = e ∙ sym (fold-map (λ t o. m.enc (key name (view o)) t) (λ o. o.now) r xs) ∙ ap (fold (λ t o. m.enc (key name (view o)) t) r) is ∙ turned_fold r os

  pub back_along : map (λ o. o.now) xs ≡ reverse os → new ≡ fold (λ t o. m.dec (key name (view o.now)) t) r xs → new ≡ back m name r (map view os)
  back_along is e = e ∙ sym (fold-map (λ t o. m.dec (key name (view o)) t) (λ o. o.now) r xs) ∙ ap (fold (λ t o. m.dec (key name (view o)) t) r) is ∙ back_fold os
