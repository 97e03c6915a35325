-- Parts joined one behind the other. Assumes nothing.
use Rattle.std.proofs.Common.{◌≡◌, ℕ, ◌+◌, ◌<◌, List, [], ◌++◌, length, get_or, take, sym, ap, ◌∙◌, subst, arith, Bor}
use Rattle.std.specs.List.{flat_map}
use Rattle.std.proofs.lemmas.List.{take_more, flat_map_more}
use Rattle.std.proofs.lemmas.List.Folds.{length-flat_map-take}
use Rattle.words.specs.Words.{Below, Row}
use Rattle.cipher.specs.Meaning.{Meaning}
use Rattle.hash.specs.Messages.{Open}

-- one part more
pub joined_front : (parts : List (Bor (List ℕ))) (i : ℕ) (d : Bor (List ℕ)) → i < length parts
    → flat_map (λ x. x.now) (take (i + 1) parts) ≡ flat_map (λ x. x.now) (take i parts) ++ (get_or parts i d).now
joined_front parts i d h = ap (flat_map (λ x. x.now)) (take_more parts i d h) ∙ sym (flat_map_more (λ x. x.now) [] (take i parts) (get_or parts i d))

-- a message over a cipher of the same meaning, and over equal bytes
pub opens_like : (m n : Meaning) (count : ℕ) (tail chain bs cs : List ℕ) → m ≡ n → bs ≡ cs → Open m count tail chain bs → Open n count tail chain cs
opens_like m n count tail chain bs cs e f o = subst (λ (x : Meaning). Open x count tail chain cs) e (subst (Open m count tail chain) f o)

-- equal bytes keep a bound
pub below_like : (b : ℕ) (xs ys : List ℕ) → xs ≡ ys → Below b xs → Below b ys
below_like b xs ys e h = subst (Below b) e h

-- equal words are a row
pub row_like : (m : Meaning) (xs ys : List ℕ) → xs ≡ ys → Row m.width ys → Row m.width xs
row_like m xs ys e r = subst (Row m.width) (sym e) r

-- where a part passes a bound, so does the join
pub joined_over : (parts : List (Bor (List ℕ))) (i count bound : ℕ) (d : Bor (List ℕ)) → i < length parts → count ≡ length (flat_map (λ x. x.now) (take i parts))
    → bound < count + length (get_or parts i d).now → bound < length (flat_map (λ x. x.now) parts)
joined_over parts i count bound d h is over = omega (arith, length-flat_map-take (λ (x : Bor (List ℕ)). x.now) parts i d h)
