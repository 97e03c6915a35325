-- Figures and hexadecimal digits, one behind the other. Assumes nothing.
use Rattle.std.proofs.Common.{◌≡◌, ℕ, zero, suc, ◌+◌, ◌-◌, ◌/◌, ◌%◌, ◌<◌, List, [], ◌∷◌, ◌++◌, length, get_or, take, sym, refl, ap, ◌∙◌, append_assoc, append-nil, arith}
use Rattle.std.proofs.lemmas.List.{take_more}
use Rattle.words.specs.Hex.{digit, hex}
use Rattle.words.proofs.Hexed.{hex_push}
use Rattle.bench_full.specs.Lines.{last_digits}

pub no_figures : (n x : ℕ) (front : List ℕ) → n ≡ 0 → front ≡ front ++ last_digits n x
unfolding last_digits
no_figures zero x front e = sym (append-nil front)
no_figures (suc n) x front e = absurd (omega arith)

-- one figure more
pub figures_more : (n x : ℕ) (front one two : List ℕ) → (n ≡ 0 → ⊥) → one ≡ front ++ last_digits (n - 1) (x / 10) → two ≡ one ++ (48 + x % 10) ∷ [] → two ≡ front ++ last_digits n x
unfolding last_digits
figures_more zero x front one two h e f = absurd (h refl)
figures_more (suc n) x front one two h e f =
    let z : suc n - 1 ≡ n = omega arith in
    f ∙ ap (λ xs. xs ++ (48 + x % 10) ∷ []) (e ∙ ap (λ k. front ++ last_digits k (x / 10)) z) ∙ append_assoc front (last_digits n (x / 10)) ((48 + x % 10) ∷ [])

pub hex_none : (front : List ℕ) → front ≡ front ++ hex []
unfolding hex
hex_none front = sym (append-nil front)

-- one byte more
pub hex_more : (bs pair front one two : List ℕ) (i : ℕ) → i < length bs → pair ≡ digit (get_or bs i 0 / 16) ∷ digit (get_or bs i 0 % 16) ∷ [] → one ≡ front ++ hex (take i bs) → two ≡ one ++ pair → two ≡ front ++ hex (take (i + 1) bs)
hex_more bs pair front one two i lt p e f =
    f
    ∙ (λ j. e j ++ p j)
    ∙ append_assoc front (hex (take i bs)) (digit (get_or bs i 0 / 16) ∷ digit (get_or bs i 0 % 16) ∷ [])
    ∙ ap (λ xs. front ++ xs) (sym (hex_push (take i bs) (get_or bs i 0)) ∙ ap hex (sym (take_more bs i 0 lt)))

-- three lines, pushed part by part
pub three_lines : (o d n c f s h : List ℕ) → (((((o ++ d ++ n) ++ c) ++ f) ++ (n ++ s)) ++ h) ++ n ≡ (o ++ d ++ n) ++ (c ++ f ++ n) ++ (s ++ h ++ n)
three_lines o d n c f s h = simp append_assoc
