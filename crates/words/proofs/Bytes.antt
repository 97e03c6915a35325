-- Facts on bytes, words and the bounds on them. Assumes nothing.
use Rattle.std.proofs.Common.{◌≡◌, ℕ, zero, suc, ◌+◌, ◌*◌, ◌/◌, ◌%◌, ◌^◌, ◌<◌, List, [], ◌∷◌, ◌++◌, length, get_or, take, drop, replicate, refl, ap, arith, lit<}
use mathlib.Core.List.{head-eq_of_cons-eq, tail-eq_of_cons-eq}
use native.Mathlib.Nat.{suc_inj}
use lib.Arith.{mod-mul}
use Rattle.words.specs.Words.{Below, word_bytes, bytes, words}

pub below_append : (b : ℕ) (xs ys : List ℕ) → Below b xs → Below b ys → Below b (xs ++ ys)
below_append b [] ys h k = k
below_append b (x ∷ xs) ys h k = (h.0, below_append b xs ys h.1 k)

pub below_replicate : (b n x : ℕ) → x < b → Below b (replicate n x)
below_replicate b zero x h = tt
below_replicate b (suc n) x h = (h, below_replicate b n x h)

pub below_take : (b n : ℕ) (xs : List ℕ) → Below b xs → Below b (take n xs)
below_take b zero xs h = tt
below_take b (suc n) [] h = tt
below_take b (suc n) (x ∷ xs) h = (h.0, below_take b n xs h.1)

pub below_drop : (b n : ℕ) (xs : List ℕ) → Below b xs → Below b (drop n xs)
below_drop b zero xs h = h
below_drop b (suc n) [] h = tt
below_drop b (suc n) (x ∷ xs) h = below_drop b n xs h.1

pub word_bytes_below : (w : ℕ) → Below (2 ^ 8) (word_bytes w)
word_bytes_below w = (omega arith, (omega arith, (omega arith, (omega arith, tt))))

pub bytes_below : (ws : List ℕ) → Below (2 ^ 8) (bytes ws)
bytes_below [] = tt
bytes_below (w ∷ ws) = below_append (2 ^ 8) (word_bytes w) (bytes ws) (word_bytes_below w) (bytes_below ws)

-- a word of its four bytes
pub word_joined : (w : ℕ) → w < 2 ^ 32 → w / 2 ^ 24 % 2 ^ 8 * 2 ^ 24 + w / 2 ^ 16 % 2 ^ 8 * 2 ^ 16 + w / 2 ^ 8 % 2 ^ 8 * 2 ^ 8 + w % 2 ^ 8 ≡ w
word_joined w h =
    omega (arith, mod-mul w {m = 2 ^ 8} {c = 2 ^ 24} (lit< tt) (lit< tt), mod-mul w {m = 2 ^ 8} {c = 2 ^ 16} (lit< tt) (lit< tt), mod-mul w {m = 2 ^ 8} {c = 2 ^ 8} (lit< tt) (lit< tt))

-- four bytes of their word
pub joined_inj : (a b c d e f g h : ℕ) → a < 2 ^ 8 → b < 2 ^ 8 → c < 2 ^ 8 → d < 2 ^ 8 → e < 2 ^ 8 → f < 2 ^ 8 → g < 2 ^ 8 → h < 2 ^ 8
    → a * 2 ^ 24 + b * 2 ^ 16 + c * 2 ^ 8 + d ≡ e * 2 ^ 24 + f * 2 ^ 16 + g * 2 ^ 8 + h
    → (a ≡ e) × (b ≡ f) × (c ≡ g) × (d ≡ h)
joined_inj a b c d e f g h p q r s t u v w x = (omega arith, omega arith, omega arith, omega arith)

-- words front first: whole groups of four bytes
pub length_words : (q : ℕ) (bs : List ℕ) → length bs ≡ 4 * q → length (words bs) ≡ q
length_words zero [] e = refl
length_words (suc q) [] e = omega arith
length_words q (a ∷ []) e = omega arith
length_words q (a ∷ b ∷ []) e = omega arith
length_words q (a ∷ b ∷ c ∷ []) e = omega arith
length_words zero (a ∷ b ∷ c ∷ d ∷ bs) e = omega arith
length_words (suc q) (a ∷ b ∷ c ∷ d ∷ bs) e = ap suc (length_words q bs (omega arith))

pub words_below : (bs : List ℕ) → Below (2 ^ 8) bs → Below (2 ^ 32) (words bs)
words_below [] h = tt
words_below (a ∷ []) h = tt
words_below (a ∷ b ∷ []) h = tt
words_below (a ∷ b ∷ c ∷ []) h = tt
words_below (a ∷ b ∷ c ∷ d ∷ bs) h = (omega arith, words_below bs h.1.1.1.1)

pub words_append : (q : ℕ) (xs ys : List ℕ) → length xs ≡ 4 * q → words (xs ++ ys) ≡ words xs ++ words ys
words_append zero [] ys e = refl
words_append (suc q) [] ys e = refl
words_append q (a ∷ []) ys e = absurd (omega arith)
words_append q (a ∷ b ∷ []) ys e = absurd (omega arith)
words_append q (a ∷ b ∷ c ∷ []) ys e = absurd (omega arith)
words_append zero (a ∷ b ∷ c ∷ d ∷ xs) ys e = absurd (omega arith)
words_append (suc q) (a ∷ b ∷ c ∷ d ∷ xs) ys e = ap (λ (r : List ℕ). (a * 2 ^ 24 + b * 2 ^ 16 + c * 2 ^ 8 + d) ∷ r) (words_append q xs ys (omega arith))

-- a list of whole groups of four is empty or begins with four
data Fours : List ℕ → Type 0 where
  none : Fours []
  more : (a b c d : ℕ) {rest : List ℕ} → Fours rest → Fours (a ∷ b ∷ c ∷ d ∷ rest)

fours : (q : ℕ) (xs : List ℕ) → length xs ≡ 4 * q → Fours xs
fours zero [] e = none
fours (suc q) [] e = none
fours q (a ∷ []) e = absurd (omega arith)
fours q (a ∷ b ∷ []) e = absurd (omega arith)
fours q (a ∷ b ∷ c ∷ []) e = absurd (omega arith)
fours zero (a ∷ b ∷ c ∷ d ∷ xs) e = absurd (omega arith)
fours (suc q) (a ∷ b ∷ c ∷ d ∷ xs) e = more a b c d (fours q xs (omega arith))

words_inj_fours : {xs ys : List ℕ} → Fours xs → Fours ys → Below (2 ^ 8) xs → Below (2 ^ 8) ys → words xs ≡ words ys → xs ≡ ys
words_inj_fours none none h k e = refl
words_inj_fours none (more a b c d f) h k e = cc
words_inj_fours (more a b c d f) none h k e = cc
words_inj_fours (more a b c d f) (more a' b' c' d' f') h k e =
    let same = joined_inj a b c d a' b' c' d' h.0 h.1.0 h.1.1.0 h.1.1.1.0 k.0 k.1.0 k.1.1.0 k.1.1.1.0 (head-eq_of_cons-eq e) in
    let rest = words_inj_fours f f' h.1.1.1.1 k.1.1.1.1 (tail-eq_of_cons-eq e) in
    λ i. same.0 i ∷ same.1 i ∷ same.2 i ∷ same.3 i ∷ rest i

-- bytes of their words
pub words_inj : (p q : ℕ) (xs ys : List ℕ) → length xs ≡ 4 * p → length ys ≡ 4 * q → Below (2 ^ 8) xs → Below (2 ^ 8) ys → words xs ≡ words ys → xs ≡ ys
words_inj p q xs ys d e = words_inj_fours (fours p xs d) (fours q ys e)

-- lists of which the fronts are as long
pub append_split {ℓ} : {A : Type ℓ} (a b c d : List A) → length a ≡ length b → a ++ c ≡ b ++ d → (a ≡ b) × (c ≡ d)
append_split [] [] c d l e = (refl, e)
append_split [] (y ∷ b) c d l e = absurd (omega arith)
append_split (x ∷ a) [] c d l e = absurd (omega arith)
append_split (x ∷ a) (y ∷ b) c d l e =
    let r = append_split a b c d (suc_inj l) (tail-eq_of_cons-eq e) in
    (λ i. head-eq_of_cons-eq e i ∷ r.0 i, r.1)

-- an element below a bound, at any place
pub below_getD : (b : ℕ) (xs : List ℕ) (i : ℕ) → 0 < b → Below b xs → get_or xs i 0 < b
below_getD b [] i p h = p
below_getD b (x ∷ xs) zero p h = h.0
below_getD b (x ∷ xs) (suc i) p h = below_getD b xs i p h.1

-- and all of them, from what a type says of each
pub below_from : (b : ℕ) (xs : List ℕ) → ((k : ℕ) → get_or xs k 0 < b) → Below b xs
below_from b [] h = tt
below_from b (x ∷ xs) h = (h 0, below_from b xs (λ k. h (suc k)))
