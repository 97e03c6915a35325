-- The schedule in a window of sixteen words. Assumes nothing.
use Rattle.std.proofs.Common.{◌≡◌, ℕ, ◌+◌, ◌%◌, ◌<◌, List, ◌++◌, length, get_or, take, ap, ◌∙◌, arith}
use Rattle.std.proofs.lemmas.List.{get_or-append_right}
use Rattle.words.specs.Words.{add}
use Rattle.words.specs.Steps.{at, grown, next, Rolled}
use Rattle.words.proofs.Schedule.{Shifts, rolled_none, rolled_all, length_next, grown_next, grown_none}
use Rattle.shacal2.specs.Shacal2.{small0, small1, fresh, words}

-- words put in front do not matter
shifts : Shifts fresh
unfolding fresh
shifts k ws n l =
    let p : (j m : ℕ) → m ≡ j + 16 → at (k ++ ws) m ≡ at ws j = λ j m e. get_or-append_right k ws 16 m 0 l (omega arith) ∙ ap (λ i. at ws i) (omega arith) in
    let a = p n (n + 16) (omega arith) in
    let b = p (n + 1) (n + 16 + 1) (omega arith) in
    let c = p (n + 9) (n + 16 + 9) (omega arith) in
    let d = p (n + 14) (n + 16 + 14) (omega arith) in
    rw (a, b, c, d)

-- the next word, from the window
pub fresh_from : (k r : List ℕ) (i : ℕ) → i < 16 → Rolled fresh k r i → add (add (add (get_or r i 0) (small0 (get_or r ((i + 1) % 16) 0))) (get_or r ((i + 9) % 16) 0)) (small1 (get_or r ((i + 14) % 16) 0)) ≡ fresh i (grown fresh k i)
unfolding fresh
fresh_from k r i h (lr, inv) =
    let z : i % 16 ≡ i = omega arith in
    let a : get_or r i 0 ≡ get_or (grown fresh k i) i 0 = ap (λ n. get_or r n 0) (omega arith) ∙ inv i (omega arith) (omega arith) in
    let b = inv (i + 1) (omega arith) (omega arith) in
    let c = inv (i + 9) (omega arith) (omega arith) in
    let d = inv (i + 14) (omega arith) (omega arith) in
    rw (a, b, c, d)

-- the schedule is the key and then sixteen words after sixteen
pub words_all : (k w1 w2 w3 : List ℕ) → length k ≡ 16 → w1 ≡ next fresh k → w2 ≡ next fresh w1 → w3 ≡ next fresh w2 → words k 48 ≡ k ++ (w1 ++ (w2 ++ w3))
unfolding words
words_all k w1 w2 w3 l e1 e2 e3 =
    let l1 : length w1 ≡ 16 = rw e1 (length_next fresh k l) in
    let l2 : length w2 ≡ 16 = rw e2 (length_next fresh w1 l1) in
    let a = grown_next fresh shifts k 32 l in
    let b = grown_next fresh shifts w1 16 l1 in
    let c = grown_next fresh shifts w2 0 l2 in
    let z = grown_none fresh w3 in
    cc

-- a window k that is renewed to its middle, r, and then to its end, w
pub record Renewed (k r w : List ℕ) : Type 0 where
  pub half : (j : List ℕ) → length j ≡ 16 → Rolled fresh j k 0 → Rolled fresh j r 8
  pub whole : (j : List ℕ) → length j ≡ 16 → Rolled fresh j r 8 → Rolled fresh j w 16
  pub kept : take 8 w ≡ take 8 r

pub renewed_next : (k r w : List ℕ) → length k ≡ 16 → Renewed k r w → w ≡ next fresh k
renewed_next k r w l n = rolled_all fresh k w 16 l (omega arith) (omega arith) (n.whole k l (n.half k l (rolled_none fresh k l)))
