-- Bytes that are accepted are the sheet of what they hold. Assumes nothing.
use Rattle.std.proofs.Common.{◌≡◌, ℕ, zero, suc, ◌+◌, ◌*◌, ◌^◌, ◌≤◌, List, ◌∷◌, ◌++◌, length, get_or, take, drop, sym, refl, ap, ◌∙◌, append_assoc, append-nil, arith, length-drop, take-append-drop, drop_of_length-le, length-take, drop-drop}
use Rattle.std.proofs.lemmas.List.{drop_more}
use Rattle.words.specs.Words.{Below, word_bytes}
use Rattle.words.proofs.Bytes.{below_take, below_drop}
use Rattle.sheet.specs.Sheets.{half_bytes, letters, amounts, sheet}
use Rattle.sheet.specs.Contents.{Contents, Accepted, OneSheet}
use Rattle.sheet.specs.Reading.{word, count, total, base, name, table, orders_from, orders}
use Rattle.sheet.proofs.Places.{half_of, word_of}
use Rattle.sheet.proofs.Faultless.{Sized, none_fault}

pub length_orders : (bs : List ℕ) (i n : ℕ) → length (orders_from bs i n) ≡ n
length_orders bs i zero = refl
length_orders bs i (suc n) = ap suc (length_orders bs (i + 1) n)

-- the letters of the orders read stand where they were read, and the amounts too
letters_of : (bs : List ℕ) (i n : ℕ) → 37 + i + n ≤ length bs → drop (37 + i) bs ≡ letters (orders_from bs i n) ++ drop (37 + i + n) bs
letters_of bs i zero h = ap (λ (k : ℕ). drop k bs) (omega arith)
letters_of bs i (suc n) h =
    let e : 37 + i + 1 ≡ 37 + (i + 1) = omega arith in
    let f : 37 + (i + 1) + n ≡ 37 + i + suc n = omega arith in
    drop_more bs (37 + i) 0 (omega arith)
    ∙ ap (λ (r : List ℕ). get_or bs (37 + i) 0 ∷ r)
    (ap (λ (k : ℕ). drop k bs) e ∙ letters_of bs (i + 1) n (omega arith) ∙ ap (λ (k : ℕ). letters (orders_from bs (i + 1) n) ++ drop k bs) f)

amounts_of : (bs : List ℕ) (i n : ℕ) → Below (2 ^ 8) bs → 37 + count bs + 4 * i + 4 * n ≤ length bs
    → drop (37 + count bs + 4 * i) bs ≡ amounts (orders_from bs i n) ++ drop (37 + count bs + 4 * i + 4 * n) bs
amounts_of bs i zero b h = ap (λ (k : ℕ). drop k bs) (omega arith)
amounts_of bs i (suc n) b h =
    let p : ℕ = 37 + count bs + 4 * i in
    let e : 37 + count bs + 4 * i + 4 ≡ 37 + count bs + 4 * (i + 1) = omega arith in
    let f : 37 + count bs + 4 * (i + 1) + 4 * n ≡ 37 + count bs + 4 * i + 4 * suc n = omega arith in
    word_of bs p b (omega arith)
    ∙ ap (λ (r : List ℕ). word_bytes (word bs p) ++ r)
    (ap (λ (k : ℕ). drop k bs) e ∙ amounts_of bs (i + 1) n b (omega arith) ∙ ap (λ (k : ℕ). amounts (orders_from bs (i + 1) n) ++ drop k bs) f)

-- the front of what stands from a place on
part_of : (bs : List ℕ) (p n : ℕ) → drop p bs ≡ take n (drop p bs) ++ drop (p + n) bs
part_of bs p n = sym (take-append-drop n (drop p bs)) ∙ ap (λ (r : List ℕ). take n (drop p bs) ++ r) (drop-drop n p bs)

module _ (bs : List ℕ) (a : Accepted bs) where
  sizes : Sized bs
  sizes = (none_fault bs a.faultless).0

  -- bytes that are accepted hold contents
  contents : Contents (name bs) (base bs) (table bs) (orders bs)
  contents =
      let s = sizes in
      record {
        named = (simp (length-take, length-drop) (omega arith), below_take (2 ^ 8) 8 (drop 8 bs) (below_drop (2 ^ 8) 8 bs a.bytes));
        based = (none_fault bs a.faultless).1.based;
        tabled = (simp (length-take, length-drop) (omega arith), below_take (2 ^ 8) 21 (drop 16 bs) (below_drop (2 ^ 8) 16 bs a.bytes));
        opens = (none_fault bs a.faultless).1.opens;
        few = omega (arith, length_orders bs 0 (count bs));
        ranged = (none_fault bs a.faultless).2;
      }

  -- the orders end the bytes
  ends : drop 37 bs ≡ letters (orders bs) ++ amounts (orders bs)
  ends =
      let s = sizes in
      letters_of bs 0 (count bs) (omega arith)
      ∙ ap (λ (r : List ℕ). letters (orders bs) ++ r)
      (ap (λ (k : ℕ). drop k bs) (omega arith)
      ∙ amounts_of bs 0 (count bs) a.bytes (omega arith)
      ∙ ap (λ (r : List ℕ). amounts (orders bs) ++ r) (drop_of_length-le bs (omega arith))
      ∙ append-nil (amounts (orders bs)))

  -- behind the sizes and the base
  behind : drop 8 bs ≡ name bs ++ table bs ++ letters (orders bs) ++ amounts (orders bs)
  behind =
      part_of bs 8 8
      ∙ ap (λ (r : List ℕ). name bs ++ r) (part_of bs 16 21 ∙ ap (λ (r : List ℕ). table bs ++ r) ends)
      ∙ sym (append_assoc (name bs) (table bs) (letters (orders bs) ++ amounts (orders bs)))
      ∙ sym (append_assoc (name bs ++ table bs) (letters (orders bs)) (amounts (orders bs)))

  -- and are the sheet of them
  pub written : bs ≡ sheet (name bs) (base bs) (table bs) (orders bs)
  unfolding sheet
  written =
      let s = sizes in
      let n : count bs ≡ length (orders bs) = sym (length_orders bs 0 (count bs)) in
      let t : total bs ≡ 37 + 5 * length (orders bs) = omega arith in
      half_of bs 0 a.bytes (omega arith)
      ∙ ap (λ (r : List ℕ). half_bytes (count bs) ++ r) (half_of bs 2 a.bytes (omega arith))
      ∙ ap (λ (r : List ℕ). half_bytes (count bs) ++ (half_bytes (total bs) ++ r)) (word_of bs 4 a.bytes (omega arith))
      ∙ (λ i. half_bytes (n i) ++ (half_bytes (t i) ++ (word_bytes (base bs) ++ behind i)))

-- accepted bytes are the one sheet of their contents
pub one_sheet : (bs : List ℕ) → Accepted bs → OneSheet bs
one_sheet bs a = record {
  accepted = a;
  contents = contents bs a;
  written = written bs a;
  only = λ cs b k. written cs b ∙ (λ i. sheet (k.named i) (k.based i) (k.tabled i) (k.ordered i)) ∙ sym (written bs a);
}
