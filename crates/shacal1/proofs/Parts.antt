-- The steps, cut where the phases and the sixteens of the schedule meet. Assumes nothing.
use Rattle.std.proofs.Common.{◌≡◌, ℕ, ◌+◌, ◌*◌, ◌/◌, ◌≤◌, List, [], ◌∷◌, ◌++◌, length, take, drop, sym, refl, ap, ◌∙◌, arith}
use Rattle.std.proofs.lemmas.List.{take-append-drop, take_all, length-take-le, length-drop}
use Rattle.words.specs.Steps.{choose, parity, majority, forth, undo, next}
use Rattle.words.proofs.Undone.{forth_append, undo_append}
use Rattle.words.proofs.Schedule.{length_next}
use Rattle.shacal1.specs.Shacal1.{fresh, mix, constant, turn, unturn, step, unstep, run, back, Enc, Dec}
use Rattle.shacal1.specs.Phases.{phase, unphase}
use Rattle.shacal1.proofs.Schedule.{words_all}

run_append : (i j : ℕ) (xs ys s : List ℕ) → i + length xs ≡ j → run i (xs ++ ys) s ≡ run j ys (run i xs s)
unfolding run
run_append i j xs ys s e = forth_append step i j xs ys s e

back_append : (i j : ℕ) (xs ys s : List ℕ) → i + length xs ≡ j → back i (xs ++ ys) s ≡ back i xs (back j ys s)
unfolding back
back_append i j xs ys s e = undo_append unstep i j xs ys s e

-- steps that lie in the phase p
run_phase : (p i : ℕ) (ws s : List ℕ) → 20 * p ≤ i → i + length ws ≤ 20 * p + 20 → run i ws s ≡ phase (mix p) (constant p) ws s
unfolding run forth phase step
run_phase p i [] s lo hi = refl
run_phase p i (w ∷ ws) s lo hi =
    let e : i / 20 ≡ p = omega arith in
    run_phase p (i + 1) ws (turn (mix (i / 20)) (constant (i / 20)) w s) (omega arith) (omega arith) ∙ ap (λ q. phase (mix p) (constant p) ws (turn (mix q) (constant q) w s)) e

back_phase : (p i : ℕ) (ws s : List ℕ) → 20 * p ≤ i → i + length ws ≤ 20 * p + 20 → back i ws s ≡ unphase (mix p) (constant p) ws s
unfolding back undo unphase unstep
back_phase p i [] s lo hi = refl
back_phase p i (w ∷ ws) s lo hi =
    let e : i / 20 ≡ p = omega arith in
    ap (unturn (mix (i / 20)) (constant (i / 20)) w) (back_phase p (i + 1) ws s (omega arith) (omega arith)) ∙ ap (λ q. unturn (mix q) (constant q) w (unphase (mix p) (constant p) ws s)) e

-- sixteen steps from i on, a of them in the phase p and b in the phase q
module _ (p q i a b : ℕ) (w s : List ℕ) (l : length w ≡ 16) (e : a + b ≡ 16) (lo : 20 * p ≤ i) (mid : i + a ≤ 20 * p + 20) (mid' : 20 * q ≤ i + a) (hi : i + 16 ≤ 20 * q + 20) where
  cut : take a w ++ take b (drop a w) ≡ w
  cut = let h : length (drop a w) ≤ b = rw length-drop (omega arith) in rw (take_all b (drop a w)) (take-append-drop a w)

  long : length (take a w) ≡ a
  long = length-take-le a w (omega arith)

  long' : length (take b (drop a w)) ≡ b
  long' = length-take-le b (drop a w) (rw length-drop (omega arith))

  run_halves : run i w s ≡ phase (mix q) (constant q) (take b (drop a w)) (phase (mix p) (constant p) (take a w) s)
  run_halves =
      ap (λ z. run i z s) (sym cut)
      ∙ run_append i (i + a) (take a w) (take b (drop a w)) s (ap (λ n. i + n) long)
      ∙ run_phase q (i + a) (take b (drop a w)) (run i (take a w) s) mid' (omega (arith, long'))
      ∙ ap (phase (mix q) (constant q) (take b (drop a w))) (run_phase p i (take a w) s lo (omega (arith, long)))

  back_halves : back i w s ≡ unphase (mix p) (constant p) (take a w) (unphase (mix q) (constant q) (take b (drop a w)) s)
  back_halves =
      ap (λ z. back i z s) (sym cut)
      ∙ back_append i (i + a) (take a w) (take b (drop a w)) s (ap (λ n. i + n) long)
      ∙ back_phase p i (take a w) (back (i + a) (take b (drop a w)) s) lo (omega (arith, long))
      ∙ ap (unphase (mix p) (constant p) (take a w)) (back_phase q (i + a) (take b (drop a w)) s mid' (omega (arith, long')))

-- ---- the five sixteens

module _ (w s : List ℕ) (l : length w ≡ 16) where
  run_0 : run 0 w s ≡ phase choose 0x5A827999 w s
  unfolding mix constant
  run_0 = run_phase 0 0 w s (omega arith) (omega arith)

  run_16 : run 16 w s ≡ phase parity 0x6ED9EBA1 (take 12 (drop 4 w)) (phase choose 0x5A827999 (take 4 w) s)
  unfolding mix constant
  run_16 = run_halves 0 1 16 4 12 w s l refl (omega arith) (omega arith) (omega arith) (omega arith)

  run_32 : run 32 w s ≡ phase majority 0x8F1BBCDC (take 8 (drop 8 w)) (phase parity 0x6ED9EBA1 (take 8 w) s)
  unfolding mix constant
  run_32 = run_halves 1 2 32 8 8 w s l refl (omega arith) (omega arith) (omega arith) (omega arith)

  run_48 : run 48 w s ≡ phase parity 0xCA62C1D6 (take 4 (drop 12 w)) (phase majority 0x8F1BBCDC (take 12 w) s)
  unfolding mix constant
  run_48 = run_halves 2 3 48 12 4 w s l refl (omega arith) (omega arith) (omega arith) (omega arith)

  run_64 : run 64 w s ≡ phase parity 0xCA62C1D6 w s
  unfolding mix constant
  run_64 = run_phase 3 64 w s (omega arith) (omega arith)

  back_0 : back 0 w s ≡ unphase choose 0x5A827999 w s
  unfolding mix constant
  back_0 = back_phase 0 0 w s (omega arith) (omega arith)

  back_16 : back 16 w s ≡ unphase choose 0x5A827999 (take 4 w) (unphase parity 0x6ED9EBA1 (take 12 (drop 4 w)) s)
  unfolding mix constant
  back_16 = back_halves 0 1 16 4 12 w s l refl (omega arith) (omega arith) (omega arith) (omega arith)

  back_32 : back 32 w s ≡ unphase parity 0x6ED9EBA1 (take 8 w) (unphase majority 0x8F1BBCDC (take 8 (drop 8 w)) s)
  unfolding mix constant
  back_32 = back_halves 1 2 32 8 8 w s l refl (omega arith) (omega arith) (omega arith) (omega arith)

  back_48 : back 48 w s ≡ unphase majority 0x8F1BBCDC (take 12 w) (unphase parity 0xCA62C1D6 (take 4 (drop 12 w)) s)
  unfolding mix constant
  back_48 = back_halves 2 3 48 12 4 w s l refl (omega arith) (omega arith) (omega arith) (omega arith)

  back_64 : back 64 w s ≡ unphase parity 0xCA62C1D6 w s
  unfolding mix constant
  back_64 = back_phase 3 64 w s (omega arith) (omega arith)

module _ (k w1 w2 w3 w4 b : List ℕ) (l : length k ≡ 16) (e1 : w1 ≡ next fresh k) (e2 : w2 ≡ next fresh w1) (e3 : w3 ≡ next fresh w2) (e4 : w4 ≡ next fresh w3) where
  l1 : length w1 ≡ 16
  l1 = rw e1 (length_next fresh k l)

  l2 : length w2 ≡ 16
  l2 = rw e2 (length_next fresh w1 l1)

  l3 : length w3 ≡ 16
  l3 = rw e3 (length_next fresh w2 l2)

  l4 : length w4 ≡ 16
  l4 = rw e4 (length_next fresh w3 l3)

  pub enc_parts : Enc k b ≡ phase parity 0xCA62C1D6 w4 (phase parity 0xCA62C1D6 (take 4 (drop 12 w3)) (phase majority 0x8F1BBCDC (take 12 w3) (phase majority 0x8F1BBCDC (take 8 (drop 8 w2)) (phase parity 0x6ED9EBA1 (take 8 w2) (phase parity 0x6ED9EBA1 (take 12 (drop 4 w1)) (phase choose 0x5A827999 (take 4 w1) (phase choose 0x5A827999 k b)))))))
  unfolding Enc
  enc_parts =
      let s1 = run 0 k b in
      let s2 = run 16 w1 s1 in
      let s3 = run 32 w2 s2 in
      let s4 = run 48 w3 s3 in
      ap (λ z. run 0 z b) (words_all k w1 w2 w3 w4 l e1 e2 e3 e4)
      ∙ run_append 0 16 k (w1 ++ (w2 ++ (w3 ++ w4))) b (omega arith)
      ∙ run_append 16 32 w1 (w2 ++ (w3 ++ w4)) s1 (omega (arith, l1))
      ∙ run_append 32 48 w2 (w3 ++ w4) s2 (omega (arith, l2))
      ∙ run_append 48 64 w3 w4 s3 (omega (arith, l3))
      ∙ rw (run_64 w4 s4 l4, run_48 w3 s3 l3, run_32 w2 s2 l2, run_16 w1 s1 l1, run_0 k b l)

  pub dec_parts : Dec k b ≡ unphase choose 0x5A827999 k (unphase choose 0x5A827999 (take 4 w1) (unphase parity 0x6ED9EBA1 (take 12 (drop 4 w1)) (unphase parity 0x6ED9EBA1 (take 8 w2) (unphase majority 0x8F1BBCDC (take 8 (drop 8 w2)) (unphase majority 0x8F1BBCDC (take 12 w3) (unphase parity 0xCA62C1D6 (take 4 (drop 12 w3)) (unphase parity 0xCA62C1D6 w4 b)))))))
  unfolding Dec
  dec_parts =
      let s4 = back 64 w4 b in
      let s3 = back 48 w3 s4 in
      let s2 = back 32 w2 s3 in
      let s1 = back 16 w1 s2 in
      ap (λ z. back 0 z b) (words_all k w1 w2 w3 w4 l e1 e2 e3 e4)
      ∙ back_append 0 16 k (w1 ++ (w2 ++ (w3 ++ w4))) b (omega arith)
      ∙ ap (back 0 k)
      (back_append 16 32 w1 (w2 ++ (w3 ++ w4)) b (omega (arith, l1))
      ∙ ap (back 16 w1)
      (back_append 32 48 w2 (w3 ++ w4) b (omega (arith, l2))
      ∙ ap (back 32 w2) (back_append 48 64 w3 w4 b (omega (arith, l3)))))
      ∙ rw (back_0 k s1 l, back_16 w1 s2 l1, back_32 w2 s3 l2, back_48 w3 s4 l3, back_64 w4 b l4)

  -- the same, state by state
  pub enc_chain : (s1 s2 s3 s4 s5 s6 s7 s8 : List ℕ) → s1 ≡ phase choose 0x5A827999 k b → s2 ≡ phase choose 0x5A827999 (take 4 w1) s1 → s3 ≡ phase parity 0x6ED9EBA1 (take 12 (drop 4 w1)) s2 → s4 ≡ phase parity 0x6ED9EBA1 (take 8 w2) s3 → s5 ≡ phase majority 0x8F1BBCDC (take 8 (drop 8 w2)) s4 → s6 ≡ phase majority 0x8F1BBCDC (take 12 w3) s5 → s7 ≡ phase parity 0xCA62C1D6 (take 4 (drop 12 w3)) s6 → s8 ≡ phase parity 0xCA62C1D6 w4 s7 → s8 ≡ Enc k b
  enc_chain s1 s2 s3 s4 s5 s6 s7 s8 p1 p2 p3 p4 p5 p6 p7 p8 = rw (p8, p7, p6, p5, p4, p3, p2, p1) (sym enc_parts)

  pub dec_chain : (s1 s2 s3 s4 s5 s6 s7 s8 : List ℕ) → s1 ≡ unphase parity 0xCA62C1D6 w4 b → s2 ≡ unphase parity 0xCA62C1D6 (take 4 (drop 12 w3)) s1 → s3 ≡ unphase majority 0x8F1BBCDC (take 12 w3) s2 → s4 ≡ unphase majority 0x8F1BBCDC (take 8 (drop 8 w2)) s3 → s5 ≡ unphase parity 0x6ED9EBA1 (take 8 w2) s4 → s6 ≡ unphase parity 0x6ED9EBA1 (take 12 (drop 4 w1)) s5 → s7 ≡ unphase choose 0x5A827999 (take 4 w1) s6 → s8 ≡ unphase choose 0x5A827999 k s7 → s8 ≡ Dec k b
  dec_chain s1 s2 s3 s4 s5 s6 s7 s8 p1 p2 p3 p4 p5 p6 p7 p8 = rw (p8, p7, p6, p5, p4, p3, p2, p1) (sym dec_parts)
