-- What a reader finds in the sheet of contents. Assumes nothing.
use Rattle.std.proofs.Common.{◌≡◌, ℕ, zero, suc, ◌+◌, ◌*◌, ◌^◌, ◌<◌, List, [], ◌∷◌, ◌++◌, length, get_or, take, drop, sym, refl, ap, ◌∙◌, subst, append_assoc, le_of_suc-le-suc, arith, length-append, drop_of_length-le, take_at, get_or-append-add, drop_at}
use Rattle.std.proofs.lemmas.List.{drop_more}
use Rattle.words.specs.Words.{Below, word_bytes}
use Rattle.words.proofs.Bytes.{below_append, word_bytes_below}
use Rattle.timetable.specs.Hours.{ever_open}
use Rattle.order.specs.Orders.{Order, AllInRange}
use Rattle.order.proofs.Ranges.{letter_below, amount_most}
use Rattle.sheet.specs.Sheets.{letters, amounts, head, sheet}
use Rattle.sheet.specs.Contents.{Contents, Holds, Accepted}
use Rattle.sheet.specs.Reading.{word, count, total, order_at, orders_from, orders}
use Rattle.sheet.proofs.Places.{half_read, word_read, word_skip}
use Rattle.sheet.proofs.Faultless.{Sized, fault_none}

pub length_letters : (os : List Order) → length (letters os) ≡ length os
length_letters [] = refl
length_letters (o ∷ os) = ap suc (length_letters os)

pub length_amounts : (os : List Order) → length (amounts os) ≡ 4 * length os
length_amounts [] = refl
length_amounts (o ∷ os) = omega (arith, length_amounts os)

pub length_sheet : (name : List ℕ) (base : ℕ) (table : List ℕ) (os : List Order)
    → length (sheet name base table os) ≡ 8 + length name + length table + 5 * length os
unfolding sheet
length_sheet name base table os = simp (length-append, length_letters, length_amounts) (omega arith)

-- a sheet is bytes
letters_below : (os : List Order) → AllInRange os → Below (2 ^ 8) (letters os)
letters_below [] r = tt
letters_below (o ∷ os) r = (letter_below o r.0, letters_below os r.1)

amounts_below : (os : List Order) → Below (2 ^ 8) (amounts os)
amounts_below [] = tt
amounts_below (o ∷ os) = below_append (2 ^ 8) (word_bytes o.amount) (amounts os) (word_bytes_below o.amount) (amounts_below os)

sheet_below : (name : List ℕ) (base : ℕ) (table : List ℕ) (os : List Order) → Below (2 ^ 8) name → Below (2 ^ 8) table → AllInRange os
    → Below (2 ^ 8) (sheet name base table os)
unfolding sheet
sheet_below name base table os h k r =
    below_append (2 ^ 8) (head (length os) base name table ++ letters os) (amounts os)
    (below_append (2 ^ 8) (head (length os) base name table) (letters os)
    (omega arith, (omega arith, (omega arith, (omega arith, (omega arith, (omega arith, (omega arith, (omega arith, below_append (2 ^ 8) name table h k))))))))
    (letters_below os r))
    (amounts_below os)

-- letters and amounts at their places
letter_at : (os : List Order) (rest : List ℕ) (k : ℕ) (d : Order) → k < length os → get_or (letters os ++ rest) k 0 ≡ (get_or os k d).letter
letter_at [] rest k d h = absurd (omega arith)
letter_at (o ∷ os) rest zero d h = refl
letter_at (o ∷ os) rest (suc k) d h = letter_at os rest k d (le_of_suc-le-suc h)

amount_at : (os : List Order) (k : ℕ) (d : Order) → k < length os → AllInRange os → word (amounts os) (4 * k) ≡ (get_or os k d).amount
amount_at [] k d h r = absurd (omega arith)
amount_at (o ∷ os) zero d h r = word_read o.amount (amounts os) (omega (arith, amount_most o r.0))
amount_at (o ∷ os) (suc k) d h r =
    let e : 4 * suc k ≡ 4 + 4 * k = omega arith in
    ap (word (amounts (o ∷ os))) e ∙ word_skip (word_bytes o.amount) (amounts os) (4 * k) ∙ amount_at os k d (le_of_suc-le-suc h) r.1

-- letters and amounts behind 37 bytes, as many as the bytes count, are read as their orders
module _ (front : List ℕ) (os : List Order) (bs : List ℕ) (long : length front ≡ 37) (is : bs ≡ front ++ letters os ++ amounts os)
    (counted : count bs ≡ length os) (ranged : AllInRange os) where
  order_read : (k : ℕ) (d : Order) → k < length os → order_at bs k ≡ get_or os k d
  order_read k d h =
      let seam : 37 + count bs ≡ length (front ++ letters os) = simp (length-append, length_letters) (omega arith) in
      let letter : get_or bs (37 + k) 0 ≡ (get_or os k d).letter =
      ap (λ (b : List ℕ). get_or b (37 + k) 0) (is ∙ append_assoc front (letters os) (amounts os))
      ∙ ap (λ (n : ℕ). get_or (front ++ (letters os ++ amounts os)) (n + k) 0) (sym long)
      ∙ get_or-append-add front (letters os ++ amounts os) k 0
      ∙ letter_at os (amounts os) k d h in
      let amount : word bs (37 + count bs + 4 * k) ≡ (get_or os k d).amount =
      ap (λ (b : List ℕ). word b (37 + count bs + 4 * k)) is
      ∙ ap (λ (n : ℕ). word (front ++ letters os ++ amounts os) (n + 4 * k)) seam
      ∙ word_skip (front ++ letters os) (amounts os) (4 * k)
      ∙ amount_at os k d h ranged in
      λ i. record { letter = letter i; amount = amount i }

  orders_rest : (i n : ℕ) → i + n ≡ length os → orders_from bs i n ≡ drop i os
  orders_rest i zero e = sym (drop_of_length-le os (omega arith))
  orders_rest i (suc n) e =
      let d : Order = record { letter = 0; amount = 0 } in
      let here = order_read i d (omega arith) in
      let rest = orders_rest (i + 1) n (omega arith) in
      (λ j. here j ∷ rest j) ∙ sym (drop_more os i d (omega arith))

  orders_read : orders bs ≡ os
  orders_read = ap (orders_from bs 0) counted ∙ orders_rest 0 (length os) (omega arith)

module _ (name : List ℕ) (base : ℕ) (table : List ℕ) (os : List Order) (c : Contents name base table os) where
  counted : count (sheet name base table os) ≡ length os
  unfolding sheet
  counted = half_read (length os) [] (omega (arith, c.few))

  totalled : total (sheet name base table os) ≡ 37 + 5 * length os
  unfolding sheet
  totalled = half_read (37 + 5 * length os) [] (omega (arith, c.few))

  behind : drop 8 (sheet name base table os) ≡ name ++ (table ++ (letters os ++ amounts os))
  unfolding sheet
  behind = append_assoc (name ++ table) (letters os) (amounts os) ∙ append_assoc name table (letters os ++ amounts os)

  -- the sheet of contents gives them back
  pub holds : Holds (sheet name base table os) name base table os
  unfolding sheet
  holds = record {
    named = ap (take 8) behind ∙ take_at name _ 8 c.named.0;
    based = word_read base [] (omega (arith, c.based));
    tabled = ap (λ (r : List ℕ). take 21 (drop 8 r)) behind ∙ ap (take 21) (drop_at name _ 8 c.named.0) ∙ take_at table _ 21 c.tabled.0;
    ordered = orders_read (head (length os) base name table) os (sheet name base table os) (simp length-append (omega arith)) refl counted c.ranged;
  }

  sized : Sized (sheet name base table os)
  sized = record {
    few = omega (arith, counted, c.few);
    sums = omega (arith, counted, totalled);
    long = omega (arith, totalled, length_sheet name base table os, c.named.0, c.tabled.0);
  }

  -- and is accepted
  pub accepted : Accepted (sheet name base table os)
  accepted = record {
    bytes = sheet_below name base table os c.named.1 c.tabled.1 c.ranged;
    faultless = fault_none (sheet name base table os) sized
        (record { based = omega (arith, holds.based, c.based); opens = ap ever_open holds.tabled ∙ c.opens })
        (subst AllInRange (sym holds.ordered) c.ranged);
  }

  -- what stands in front of a buffer into which it was written
  pub reads_back : (n : ℕ) (old out : List ℕ) → n ≡ length (sheet name base table os) → out ≡ sheet name base table os ++ drop n old
      → Accepted (take n out) × Holds (take n out) name base table os
  reads_back n old out long is =
      let e : take n out ≡ sheet name base table os = ap (take n) is ∙ take_at (sheet name base table os) (drop n old) n (sym long) in
      (subst Accepted (sym e) accepted, subst (λ (bs : List ℕ). Holds bs name base table os) (sym e) holds)
