-- A sheet written part by part. Assumes nothing.
use Rattle.std.proofs.Common.{◌≡◌, ℕ, ◌+◌, ◌*◌, ◌<◌, ◌≤◌, List, [], ◌∷◌, ◌++◌, map, length, get_or, take, drop, set, sym, refl, ap, ◌∙◌, append_assoc, arith, length-append}
use borrow.Rule.Slice.PartMut.{put_mid}
use Rattle.std.proofs.lemmas.List.{map_more, length-map, length-take-le, drop_more, set_at}
use Rattle.words.specs.Words.{word_bytes}
use Rattle.words.proofs.Puts.{put_next, put_rest}
use Rattle.order.specs.Orders as orders
use Rattle.order.specs.Views.{view}
use Rattle.order.specs.declared.kind.Order.{Order}
use Rattle.sheet.specs.Sheets.{letters, amounts, head, sheet}
use Rattle.sheet.proofs.Written.{length_letters, length_amounts}

letters-++ : (xs ys : List orders.Order) → letters (xs ++ ys) ≡ letters xs ++ letters ys
letters-++ [] ys = refl
letters-++ (x ∷ xs) ys = ap (λ (bs : List ℕ). x.letter ∷ bs) (letters-++ xs ys)

amounts-++ : (xs ys : List orders.Order) → amounts (xs ++ ys) ≡ amounts xs ++ amounts ys
amounts-++ [] ys = refl
amounts-++ (x ∷ xs) ys = ap (λ (bs : List ℕ). word_bytes x.amount ++ bs) (amounts-++ xs ys)

module _ (os : List Order) (old out : List ℕ) (i : ℕ) (d : Order) (h : i < length os) where
  front_long : length (map view (take i os)) ≡ i
  front_long = length-map (take i os) view ∙ length-take-le i os (omega arith)

  -- one letter more
  pub letters_more : length os ≤ length old → out ≡ letters (map view (take i os)) ++ drop i old
      → set out i (view (get_or os i d)).letter ≡ letters (map view (take (i + 1) os)) ++ drop (i + 1) old
  letters_more room is =
      let front = letters (map view (take i os)) in
      let l = (view (get_or os i d)).letter in
      let long : length front ≡ i = length_letters (map view (take i os)) ∙ front_long in
      let more : letters (map view (take (i + 1) os)) ≡ front ++ l ∷ [] = ap letters (map_more view os i d h) ∙ letters-++ (map view (take i os)) (view (get_or os i d) ∷ []) in
      ap (λ (o : List ℕ). set o i l) (is ∙ ap (λ (r : List ℕ). front ++ r) (drop_more old i 0 (omega arith)))
      ∙ set_at front (get_or old i 0) (drop (i + 1) old) l i long
      ∙ sym (append_assoc front (l ∷ []) (drop (i + 1) old))
      ∙ ap (λ (f : List ℕ). f ++ drop (i + 1) old) (sym more)

  -- one amount more
  pub amounts_more : (ys : List ℕ) (k : ℕ) → k ≡ 4 → ys ≡ word_bytes (view (get_or os i d)).amount → out ≡ amounts (map view (take i os)) ++ drop (4 * i) old
      → put_mid (4 * i) k out ys ≡ amounts (map view (take (i + 1) os)) ++ drop (4 * (i + 1)) old
  amounts_more ys k four word is =
      let front = amounts (map view (take i os)) in
      let long : length front ≡ 4 * i = length_amounts (map view (take i os)) ∙ ap (λ (n : ℕ). 4 * n) front_long in
      let more : amounts (map view (take (i + 1) os)) ≡ front ++ word_bytes (view (get_or os i d)).amount = ap amounts (map_more view os i d h) ∙ amounts-++ (map view (take i os)) (view (get_or os i d) ∷ []) in
      let next : 4 * i + k ≡ 4 * (i + 1) = omega arith in
      put_next front ys old out (4 * i) k long is
      ∙ (λ j. front ++ word j ++ drop (next j) old)
      ∙ ap (λ (f : List ℕ). f ++ drop (4 * (i + 1)) old) (sym more)

-- five parts behind one another
pub put_five : (old a b c d e : List ℕ) → length a ≡ 2 → length b ≡ 2 → length c ≡ 4 → length d ≡ 8
    → put_mid 16 21 (put_mid 8 8 (put_mid 4 4 (put_mid 2 2 (put_mid 0 2 old a) b) c) d) e ≡ a ++ b ++ c ++ d ++ e ++ drop 37 old
put_five old a b c d e la lb lc ld =
    let p = put_next [] a old old 0 2 refl refl in
    let q = put_next a b old _ 2 2 la p in
    let r = put_next (a ++ b) c old _ 4 4 (simp length-append (omega arith)) q in
    let s = put_next (a ++ b ++ c) d old _ 8 8 (simp length-append (omega arith)) r in
    put_next (a ++ b ++ c ++ d) e old _ 16 21 (simp length-append (omega arith)) s

-- letters and amounts behind a head of 37 bytes make the sheet
pub put_sheet : (name : List ℕ) (base : ℕ) (table : List ℕ) (os : List Order) (old out rest written rest' written' : List ℕ) (k k' : ℕ)
    → length name ≡ 8 → length table ≡ 21
    → out ≡ head (length os) base name table ++ drop 37 old → rest ≡ drop 37 out → written ≡ letters (map view os) ++ drop (length os) rest → length out ≤ 37 + k
    → let next : List ℕ = put_mid 37 k out written in
    rest' ≡ drop (37 + length os) next → written' ≡ amounts (map view os) ++ drop (4 * length os) rest' → length next ≤ 37 + length os + k'
    → put_mid (37 + length os) k' next written' ≡ sheet name base table (map view os) ++ drop (37 + 5 * length os) old
unfolding sheet
put_sheet name base table os old out rest written rest' written' k k' ln lt is r w all r' w' all' =
    let front = head (length os) base name table in
    let ls = letters (map view os) in
    let long : length front ≡ 37 = simp length-append (omega arith) in
    let count : length (map view os) ≡ length os = length-map os view in
    let more : length (front ++ ls) ≡ 37 + length os = simp (length-append, length_letters, length-map) (omega arith) in
    let first = put_rest front ls old out rest written 37 (length os) k long is r w all in
    let second = put_rest (front ++ ls) (amounts (map view os)) old _ rest' written' (37 + length os) (4 * length os) k' more first r' w' all' in
    let end : 37 + length os + 4 * length os ≡ 37 + 5 * length os = omega arith in
    second ∙ (λ i. head (count' count i) base name table ++ ls ++ amounts (map view os) ++ drop (end i) old)
  where
    count' : length (map view os) ≡ length os → length os ≡ length (map view os)
    count' e = sym e
