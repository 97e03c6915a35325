-- A schedule in a window of sixteen words that is renewed word by word, and sixteen by sixteen. Assumes nothing.
use Rattle.std.proofs.Common.{◌≡◌, ℕ, zero, suc, ◌+◌, ◌%◌, ◌<◌, ◌≤◌, ◌≢◌, List, [], ◌∷◌, ◌++◌, length, get_or, take, drop, set, sym, refl, ap, ◌∙◌, ⊎_elim, add-one, arith}
use Rattle.std.proofs.lemmas.List.{append_assoc, length_push, length-set, length-drop, get_or_append_left, get_or_push, get_or-set_same, get_or-set_other, get_or-drop, ext_get_or, take-append-drop, take-append-le, take_all}
use Rattle.std.proofs.lemmas.Bool.{cases_eq}
use Rattle.words.specs.Steps.{at, grown, next, Rolled}

-- the rule of a new word looks back by places alone, at most sixteen: words put in front do not matter
abbrev pub Shifts : (ℕ → List ℕ → ℕ) → Type 0
Shifts fresh = (k ws : List ℕ) (n : ℕ) → length k ≡ 16 → fresh (n + 16) (k ++ ws) ≡ fresh n ws

module _ (fresh : ℕ → List ℕ → ℕ) where
  grown_step : (k : List ℕ) (n : ℕ) → grown fresh k (n + 1) ≡ grown fresh k n ++ fresh n (grown fresh k n) ∷ []
  unfolding grown
  grown_step k n = rw add-one

  pub length_grown : (k : List ℕ) (n : ℕ) → length (grown fresh k n) ≡ length k + n
  unfolding grown
  length_grown k zero = omega arith
  length_grown k (suc n) = let e = length_grown k n in rw length_push (omega arith)

  grown_old : (k : List ℕ) (n q : ℕ) → length k ≡ 16 → q < n + 16 → at (grown fresh k (n + 1)) q ≡ at (grown fresh k n) q
  grown_old k n q l h = let h' : q < length (grown fresh k n) = omega (arith, length_grown k n) in rw (grown_step, get_or_append_left)

  grown_new : (k : List ℕ) (n q : ℕ) → length k ≡ 16 → q ≡ n + 16 → at (grown fresh k (n + 1)) q ≡ fresh n (grown fresh k n)
  grown_new k n q l h = rw grown_step (get_or_push (grown fresh k n) (fresh n (grown fresh k n)) 0 q (omega (arith, length_grown k n)))

  -- none is renewed
  pub rolled_none : (k : List ℕ) → length k ≡ 16 → Rolled fresh k k 0
  unfolding grown
  rolled_none k l = (l, λ q p h. let e : q % 16 ≡ q = omega arith in ap (λ n. get_or k n 0) e)

  -- one more is renewed
  pub rolled_more : (k r : List ℕ) (i v : ℕ) → length k ≡ 16 → i < 16 → Rolled fresh k r i → v ≡ fresh i (grown fresh k i) → Rolled fresh k (set r i v) (i + 1)
  rolled_more k r i v l h (lr, inv) e = (
    rw length-set lr,
    λ q p u.
        ⊎_elim
        (λ (same : q ≡ i + 16).
        let m : q % 16 ≡ i = omega arith in
        let n : i < length r = omega arith in
        let x = grown_new k i q l same in
        let t = get_or-set_same r i v 0 n in
        rw m (cc))
        (λ (other : q ≢ i + 16).
        let m : q % 16 ≢ i = omega arith in
        let x = grown_old k i q l (omega arith) in
        rw (get_or-set_other, x) (inv q (omega arith) (omega arith)))
        (cases_eq q (i + 16)),
  )

  -- all are renewed
  pub rolled_all : (k r : List ℕ) (i : ℕ) → length k ≡ 16 → 16 ≤ i → i ≤ 16 → Rolled fresh k r i → r ≡ next fresh k
  unfolding next
  rolled_all k r i l lo hi (lr, inv) =
      let e : i ≡ 16 = omega arith in
      ext_get_or 0 r (drop 16 (grown fresh k 16)) (rw (length-drop, length_grown) (omega arith))
      (λ j h.
      let m : (16 + j) % 16 ≡ j = omega arith in
      rw get_or-drop (ap (λ n. get_or r n 0) (sym m) ∙ inv (16 + j) (omega arith) (omega arith) ∙ ap (λ n. get_or (grown fresh k n) (16 + j) 0) e))

  -- ---- the schedule is the key and then sixteen words after sixteen

  pub length_next : (k : List ℕ) → length k ≡ 16 → length (next fresh k) ≡ 16
  unfolding next
  length_next k l = rw (length-drop, length_grown) (omega arith)

  grown_front : (k : List ℕ) (n : ℕ) → take (length k) (grown fresh k n) ≡ k
  unfolding grown
  grown_front k zero = take_all (length k) k (omega arith)
  grown_front k (suc n) = let h : length k ≤ length (grown fresh k n) = omega (arith, length_grown k n) in rw take-append-le (grown_front k n)

  pub grown_next : Shifts fresh → (k : List ℕ) (n : ℕ) → length k ≡ 16 → grown fresh k (n + 16) ≡ k ++ grown fresh (next fresh k) n
  unfolding grown next
  grown_next shifts k zero l = sym (take-append-drop 16 (grown fresh k 16)) ∙ ap (λ z. z ++ drop 16 (grown fresh k 16)) (ap (λ m. take m (grown fresh k 16)) (sym l) ∙ grown_front k 16)
  grown_next shifts k (suc n) l =
      let e : suc n + 16 ≡ n + 16 + 1 = omega arith in
      let ih = grown_next shifts k n l in
      let f = shifts k (grown fresh (next fresh k) n) n l in
      ap (grown fresh k) e ∙ grown_step k (n + 16) ∙ rw (ih, f) (append_assoc k (grown fresh (next fresh k) n) (fresh n (grown fresh (next fresh k) n) ∷ []))

  pub grown_none : (k : List ℕ) → grown fresh k 0 ≡ k
  unfolding grown
  grown_none k = refl
