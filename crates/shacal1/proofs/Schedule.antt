-- The schedule in a window of sixteen words. Assumes nothing.
use Rattle.std.proofs.Common.{◌≡◌, ℕ, ◌+◌, ◌%◌, ◌<◌, List, ◌++◌, length, get_or, ap, ◌∙◌, arith}
use lib.Bits.{bit_xor}
use Rattle.std.proofs.lemmas.List.{get_or-append_right}
use Rattle.words.specs.Steps.{at, rotl, grown, next, Rolled}
use Rattle.words.proofs.Schedule.{Shifts, length_next, grown_next, grown_none}
use Rattle.shacal1.specs.Shacal1.{fresh, words}

-- words put in front do not matter
shifts : Shifts fresh
unfolding fresh
shifts k ws n l =
    let p : (j m : ℕ) → m ≡ j + 16 → at (k ++ ws) m ≡ at ws j = λ j m e. get_or-append_right k ws 16 m 0 l (omega arith) ∙ ap (λ i. at ws i) (omega arith) in
    let a = p (n + 13) (n + 16 + 13) (omega arith) in
    let b = p (n + 8) (n + 16 + 8) (omega arith) in
    let c = p (n + 2) (n + 16 + 2) (omega arith) in
    let d = p n (n + 16) (omega arith) in
    rw (a, b, c, d)

-- the next word, from the window
pub fresh_from : (k r : List ℕ) (i : ℕ) → i < 16 → Rolled fresh k r i → rotl 1 (bit_xor (bit_xor (bit_xor (get_or r ((i + 13) % 16) 0) (get_or r ((i + 8) % 16) 0)) (get_or r ((i + 2) % 16) 0)) (get_or r i 0)) ≡ fresh i (grown fresh k i)
unfolding fresh
fresh_from k r i h (lr, inv) =
    let z : i % 16 ≡ i = omega arith in
    let a = inv (i + 13) (omega arith) (omega arith) in
    let b = inv (i + 8) (omega arith) (omega arith) in
    let c = inv (i + 2) (omega arith) (omega arith) in
    let d = inv i (omega arith) (omega arith) in
    let y = ap (λ n. get_or r n 0) z in
    cc

-- the schedule is the key and then sixteen words after sixteen
pub words_all : (k w1 w2 w3 w4 : List ℕ) → length k ≡ 16 → w1 ≡ next fresh k → w2 ≡ next fresh w1 → w3 ≡ next fresh w2 → w4 ≡ next fresh w3 → words k 64 ≡ k ++ (w1 ++ (w2 ++ (w3 ++ w4)))
unfolding words
words_all k w1 w2 w3 w4 l e1 e2 e3 e4 =
    let l1 : length w1 ≡ 16 = rw e1 (length_next fresh k l) in
    let l2 : length w2 ≡ 16 = rw e2 (length_next fresh w1 l1) in
    let l3 : length w3 ≡ 16 = rw e3 (length_next fresh w2 l2) in
    let a = grown_next fresh shifts k 48 l in
    let b = grown_next fresh shifts w1 32 l1 in
    let c = grown_next fresh shifts w2 16 l2 in
    let d = grown_next fresh shifts w3 0 l3 in
    let z = grown_none fresh w4 in
    cc
