-- The key of an order, byte by byte and word by word. Assumes nothing.
use Rattle.std.proofs.Common.{◌≡◌, ℕ, ◌+◌, ◌*◌, ◌^◌, ◌<◌, List, [], ◌∷◌, length, get_or, replicate, sym, refl, ap, ◌∙◌, arith}
use Rattle.words.specs.Words.{word_bytes}
use Rattle.words.proofs.Bytes.{word_joined}
use Rattle.order.specs.Orders.{Order, key_bytes, key}

abbrev eight_of : List ℕ → List ℕ
eight_of xs = get_or xs 0 0 ∷ get_or xs 1 0 ∷ get_or xs 2 0 ∷ get_or xs 3 0 ∷ get_or xs 4 0 ∷ get_or xs 5 0 ∷ get_or xs 6 0 ∷ get_or xs 7 0 ∷ []

-- eight bytes, one by one
eight : (xs : List ℕ) → length xs ≡ 8 → eight_of xs ≡ xs
eight [] e = absurd (omega arith)
eight (a ∷ []) e = absurd (omega arith)
eight (a ∷ b ∷ []) e = absurd (omega arith)
eight (a ∷ b ∷ c ∷ []) e = absurd (omega arith)
eight (a ∷ b ∷ c ∷ d ∷ []) e = absurd (omega arith)
eight (a ∷ b ∷ c ∷ d ∷ p ∷ []) e = absurd (omega arith)
eight (a ∷ b ∷ c ∷ d ∷ p ∷ q ∷ []) e = absurd (omega arith)
eight (a ∷ b ∷ c ∷ d ∷ p ∷ q ∷ r ∷ []) e = absurd (omega arith)
eight (a ∷ b ∷ c ∷ d ∷ p ∷ q ∷ r ∷ s ∷ []) e = refl
eight (a ∷ b ∷ c ∷ d ∷ p ∷ q ∷ r ∷ s ∷ t ∷ ts) e = absurd (omega arith)

pub key_bytes_are : (name : List ℕ) (o : Order) (letter : ℕ) (ws : List ℕ) → length name ≡ 8 → letter ≡ o.letter → ws ≡ word_bytes o.amount
    → letter ∷ 0 ∷ 0 ∷ 0 ∷ get_or ws 0 0 ∷ get_or ws 1 0 ∷ get_or ws 2 0 ∷ get_or ws 3 0 ∷ eight_of name ≡ key_bytes name o
key_bytes_are name o letter ws e l w =
    (λ i. l i ∷ 0 ∷ 0 ∷ 0 ∷ get_or (w i) 0 0 ∷ get_or (w i) 1 0 ∷ get_or (w i) 2 0 ∷ get_or (w i) 3 0 ∷ eight name e i)

abbrev joined : ℕ → ℕ → ℕ → ℕ → ℕ
joined a b c d = a * 2 ^ 24 + b * 2 ^ 16 + c * 2 ^ 8 + d

abbrev pub key_of : List ℕ → Order → List ℕ
key_of name o =
    joined o.letter 0 0 0
    ∷ o.amount
    ∷ joined (get_or name 0 0) (get_or name 1 0) (get_or name 2 0) (get_or name 3 0)
    ∷ joined (get_or name 4 0) (get_or name 5 0) (get_or name 6 0) (get_or name 7 0)
    ∷ replicate 12 0

pub key_words_are : (name : List ℕ) (o : Order) → length name ≡ 8 → o.amount < 2 ^ 32 → key_of name o ≡ key name o
unfolding key
key_words_are name o e h =
    let w = sym (word_joined o.amount h) in
    (λ i. joined o.letter 0 0 0 ∷ w i ∷ joined (get_or name 0 0) (get_or name 1 0) (get_or name 2 0) (get_or name 3 0) ∷ joined (get_or name 4 0) (get_or name 5 0) (get_or name 6 0) (get_or name 7 0) ∷ replicate 12 0)
    ∙ ap (λ (n : List ℕ). key n o) (eight name e)
