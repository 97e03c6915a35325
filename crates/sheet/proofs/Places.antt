-- Halves and words at their places. Assumes nothing.
use Rattle.std.proofs.Common.{◌≡◌, ℕ, ◌+◌, ◌*◌, ◌/◌, ◌%◌, ◌^◌, ◌<◌, ◌≤◌, List, [], ◌∷◌, ◌++◌, length, get_or, drop, sym, ap, ◌∙◌, add_assoc, arith, lit<, get_or-append-add}
use Rattle.std.proofs.lemmas.List.{drop_more}
use Rattle.words.specs.Words.{Below, word_bytes}
use Rattle.sheet.specs.Sheets.{half_bytes}
use Rattle.sheet.specs.Reading.{half, word}
use Rattle.words.proofs.Bytes.{word_joined, below_getD}

-- a number of its bytes
pub half_read : (n : ℕ) (rest : List ℕ) → n < 2 ^ 16 → half (half_bytes n ++ rest) 0 ≡ n
half_read n rest h = omega arith

pub word_read : (w : ℕ) (rest : List ℕ) → w < 2 ^ 32 → word (word_bytes w ++ rest) 0 ≡ w
word_read w rest h = omega (arith, word_joined w h)

-- bytes of their number
half_split : (a b : ℕ) → a < 2 ^ 8 → b < 2 ^ 8 → half_bytes (a * 2 ^ 8 + b) ≡ a ∷ b ∷ []
half_split a b h k =
    let p : (a * 2 ^ 8 + b) / 2 ^ 8 % 2 ^ 8 ≡ a = omega arith in
    let q : (a * 2 ^ 8 + b) % 2 ^ 8 ≡ b = omega arith in
    λ i. p i ∷ q i ∷ []

word_split : (u v : ℕ) → u < 2 ^ 16 → v < 2 ^ 16 → word_bytes (u * 2 ^ 16 + v) ≡ half_bytes u ++ half_bytes v
word_split u v h k =
    let a : (u * 2 ^ 16 + v) / 2 ^ 24 % 2 ^ 8 ≡ u / 2 ^ 8 % 2 ^ 8 = omega arith in
    let b : (u * 2 ^ 16 + v) / 2 ^ 16 % 2 ^ 8 ≡ u % 2 ^ 8 = omega arith in
    let c : (u * 2 ^ 16 + v) / 2 ^ 8 % 2 ^ 8 ≡ v / 2 ^ 8 % 2 ^ 8 = omega arith in
    let d : (u * 2 ^ 16 + v) % 2 ^ 8 ≡ v % 2 ^ 8 = omega arith in
    λ i. a i ∷ b i ∷ c i ∷ d i ∷ []

half_below : (bs : List ℕ) (p : ℕ) → Below (2 ^ 8) bs → half bs p < 2 ^ 16
half_below bs p h = omega (arith, below_getD (2 ^ 8) bs p (lit< tt) h, below_getD (2 ^ 8) bs (p + 1) (lit< tt) h)

-- what stands from a place on: the bytes of the half, or of the word, and the rest
pub half_of : (bs : List ℕ) (p : ℕ) → Below (2 ^ 8) bs → p + 2 ≤ length bs → drop p bs ≡ half_bytes (half bs p) ++ drop (p + 2) bs
half_of bs p h l =
    drop_more bs p 0 (omega arith)
    ∙ ap (λ (r : List ℕ). get_or bs p 0 ∷ r) (drop_more bs (p + 1) 0 (omega arith))
    ∙ ap (λ (q : ℕ). get_or bs p 0 ∷ get_or bs (p + 1) 0 ∷ drop q bs) (add_assoc p 1 1)
    ∙ ap (λ (r : List ℕ). r ++ drop (p + 2) bs) (sym (half_split (get_or bs p 0) (get_or bs (p + 1) 0) (below_getD (2 ^ 8) bs p (lit< tt) h) (below_getD (2 ^ 8) bs (p + 1) (lit< tt) h)))

pub word_of : (bs : List ℕ) (p : ℕ) → Below (2 ^ 8) bs → p + 4 ≤ length bs → drop p bs ≡ word_bytes (word bs p) ++ drop (p + 4) bs
word_of bs p h l =
    half_of bs p h (omega arith)
    ∙ ap (λ (r : List ℕ). half_bytes (half bs p) ++ r) (half_of bs (p + 2) h (omega arith))
    ∙ ap (λ (q : ℕ). half_bytes (half bs p) ++ (half_bytes (half bs (p + 2)) ++ drop q bs)) (add_assoc p 2 2)
    ∙ ap (λ (r : List ℕ). r ++ drop (p + 4) bs) (sym (word_split (half bs p) (half bs (p + 2)) (half_below bs p h) (half_below bs (p + 2) h)))

-- past a front
half_skip : (xs ys : List ℕ) (i : ℕ) → half (xs ++ ys) (length xs + i) ≡ half ys i
half_skip xs ys i =
    let p = get_or-append-add xs ys i 0 in
    let q = ap (λ (k : ℕ). get_or (xs ++ ys) k 0) (add_assoc (length xs) i 1) ∙ get_or-append-add xs ys (i + 1) 0 in
    λ d. p d * 2 ^ 8 + q d

pub word_skip : (xs ys : List ℕ) (i : ℕ) → word (xs ++ ys) (length xs + i) ≡ word ys i
word_skip xs ys i =
    let p = half_skip xs ys i in
    let q = ap (half (xs ++ ys)) (add_assoc (length xs) i 2) ∙ half_skip xs ys (i + 2) in
    λ d. p d * 2 ^ 16 + q d
