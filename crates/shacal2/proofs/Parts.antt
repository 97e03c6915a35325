-- The steps, cut where the sixteens of the schedule meet and once more in the middle. Assumes nothing.
use Rattle.std.proofs.Common.{◌≡◌, ℕ, suc, ◌+◌, ◌≤◌, List, [], ◌∷◌, ◌++◌, length, take, drop, sym, refl, ap, ◌∙◌, arith}
use Rattle.std.proofs.lemmas.List.{take-append-drop, take_all, length-take-le, length-drop, drop_more}
use Rattle.words.specs.Steps.{at, forth, undo, next}
use Rattle.words.proofs.Undone.{forth_append, undo_append}
use Rattle.words.proofs.Schedule.{length_next}
use Rattle.shacal2.specs.Shacal2.{fresh, constants, turn, unturn, step, unstep, run, back, Enc, Dec}
use Rattle.shacal2.specs.Phases.{phase, unphase}
use Rattle.shacal2.proofs.Window.{words_all, Renewed, renewed_next}

sixty_four : length constants ≡ 64
unfolding constants
sixty_four = refl

run_append : (i j : ℕ) (xs ys s : List ℕ) → i + length xs ≡ j → run i (xs ++ ys) s ≡ run j ys (run i xs s)
unfolding run
run_append i j xs ys s e = forth_append step i j xs ys s e

back_append : (i j : ℕ) (xs ys s : List ℕ) → i + length xs ≡ j → back i (xs ++ ys) s ≡ back i xs (back j ys s)
unfolding back
back_append i j xs ys s e = undo_append unstep i j xs ys s e

-- steps with their constants beside them
run_part : (i : ℕ) (ws s : List ℕ) → i + length ws ≤ 64 → run i ws s ≡ phase (take (length ws) (drop i constants)) ws s
unfolding run forth phase step
run_part i [] s h = refl
run_part i (w ∷ ws) s h =
    run_part (i + 1) ws (turn (at constants i) w s) (omega arith)
    ∙ sym (ap (λ z. phase (take (suc (length ws)) z) (w ∷ ws) s) (drop_more constants i 0 (omega (arith, sixty_four))))

back_part : (i : ℕ) (ws s : List ℕ) → i + length ws ≤ 64 → back i ws s ≡ unphase (take (length ws) (drop i constants)) ws s
unfolding back undo unphase unstep
back_part i [] s h = refl
back_part i (w ∷ ws) s h =
    ap (unturn (at constants i) w) (back_part (i + 1) ws s (omega arith))
    ∙ sym (ap (λ z. unphase (take (suc (length ws)) z) (w ∷ ws) s) (drop_more constants i 0 (omega (arith, sixty_four))))

-- sixteen steps from i on, in halves; j is i + 8
module _ (i j : ℕ) (w s : List ℕ) (l : length w ≡ 16) (m : i + 8 ≡ j) (h : i + 16 ≤ 64) where
  cut : take 8 w ++ take 8 (drop 8 w) ≡ w
  cut = let g : length (drop 8 w) ≤ 8 = rw length-drop (omega arith) in rw (take_all 8 (drop 8 w)) (take-append-drop 8 w)

  long : length (take 8 w) ≡ 8
  long = length-take-le 8 w (omega arith)

  long' : length (take 8 (drop 8 w)) ≡ 8
  long' = length-take-le 8 (drop 8 w) (rw length-drop (omega arith))

  run_halves : run i w s ≡ phase (take 8 (drop j constants)) (take 8 (drop 8 w)) (phase (take 8 (drop i constants)) (take 8 w) s)
  run_halves =
      ap (λ z. run i z s) (sym cut)
      ∙ run_append i j (take 8 w) (take 8 (drop 8 w)) s (ap (λ n. i + n) long ∙ m)
      ∙ run_part j (take 8 (drop 8 w)) (run i (take 8 w) s) (omega (arith, long'))
      ∙ ap (λ n. phase (take n (drop j constants)) (take 8 (drop 8 w)) (run i (take 8 w) s)) long'
      ∙ ap (phase (take 8 (drop j constants)) (take 8 (drop 8 w))) (run_part i (take 8 w) s (omega (arith, long)) ∙ ap (λ n. phase (take n (drop i constants)) (take 8 w) s) long)

  back_halves : back i w s ≡ unphase (take 8 (drop i constants)) (take 8 w) (unphase (take 8 (drop j constants)) (take 8 (drop 8 w)) s)
  back_halves =
      ap (λ z. back i z s) (sym cut)
      ∙ back_append i j (take 8 w) (take 8 (drop 8 w)) s (ap (λ n. i + n) long ∙ m)
      ∙ back_part i (take 8 w) (back j (take 8 (drop 8 w)) s) (omega (arith, long))
      ∙ ap (λ n. unphase (take n (drop i constants)) (take 8 w) (back j (take 8 (drop 8 w)) s)) long
      ∙ ap (unphase (take 8 (drop i constants)) (take 8 w)) (back_part j (take 8 (drop 8 w)) s (omega (arith, long')) ∙ ap (λ n. unphase (take n (drop j constants)) (take 8 (drop 8 w)) s) long')

-- eight steps from step i on, over the words that begin at a of w
abbrev pub on : ℕ → ℕ → List ℕ → List ℕ → List ℕ
on i a w s = phase (take 8 (drop i constants)) (take 8 (drop a w)) s

abbrev pub off : ℕ → ℕ → List ℕ → List ℕ → List ℕ
off i a w s = unphase (take 8 (drop i constants)) (take 8 (drop a w)) s

module _ (k w1 w2 w3 b : List ℕ) (l : length k ≡ 16) (e1 : w1 ≡ next fresh k) (e2 : w2 ≡ next fresh w1) (e3 : w3 ≡ next fresh w2) where
  l1 : length w1 ≡ 16
  l1 = rw e1 (length_next fresh k l)

  l2 : length w2 ≡ 16
  l2 = rw e2 (length_next fresh w1 l1)

  l3 : length w3 ≡ 16
  l3 = rw e3 (length_next fresh w2 l2)

  enc_parts : Enc k b ≡ on 56 8 w3 (on 48 0 w3 (on 40 8 w2 (on 32 0 w2 (on 24 8 w1 (on 16 0 w1 (on 8 8 k (on 0 0 k b)))))))
  unfolding Enc
  enc_parts =
      let s1 = run 0 k b in
      let s2 = run 16 w1 s1 in
      let s3 = run 32 w2 s2 in
      ap (λ z. run 0 z b) (words_all k w1 w2 w3 l e1 e2 e3)
      ∙ run_append 0 16 k (w1 ++ (w2 ++ w3)) b (omega arith)
      ∙ run_append 16 32 w1 (w2 ++ w3) s1 (omega (arith, l1))
      ∙ run_append 32 48 w2 w3 s2 (omega (arith, l2))
      ∙ rw (run_halves 48 56 w3 s3 l3 refl (omega arith), run_halves 32 40 w2 s2 l2 refl (omega arith), run_halves 16 24 w1 s1 l1 refl (omega arith), run_halves 0 8 k b l refl (omega arith))

  dec_parts : Dec k b ≡ off 0 0 k (off 8 8 k (off 16 0 w1 (off 24 8 w1 (off 32 0 w2 (off 40 8 w2 (off 48 0 w3 (off 56 8 w3 b)))))))
  unfolding Dec
  dec_parts =
      let s3 = back 48 w3 b in
      let s2 = back 32 w2 s3 in
      let s1 = back 16 w1 s2 in
      ap (λ z. back 0 z b) (words_all k w1 w2 w3 l e1 e2 e3)
      ∙ back_append 0 16 k (w1 ++ (w2 ++ w3)) b (omega arith)
      ∙ ap (back 0 k)
      (back_append 16 32 w1 (w2 ++ w3) b (omega (arith, l1))
      ∙ ap (back 16 w1) (back_append 32 48 w2 w3 b (omega (arith, l2))))
      ∙ rw (back_halves 0 8 k s1 l refl (omega arith), back_halves 16 24 w1 s2 l1 refl (omega arith), back_halves 32 40 w2 s3 l2 refl (omega arith), back_halves 48 56 w3 b l3 refl (omega arith))

  -- the same, state by state
  pub enc_chain : (s1 s2 s3 s4 s5 s6 s7 s8 : List ℕ) → s1 ≡ on 0 0 k b → s2 ≡ on 8 8 k s1 → s3 ≡ on 16 0 w1 s2 → s4 ≡ on 24 8 w1 s3 → s5 ≡ on 32 0 w2 s4 → s6 ≡ on 40 8 w2 s5 → s7 ≡ on 48 0 w3 s6 → s8 ≡ on 56 8 w3 s7 → s8 ≡ Enc k b
  enc_chain s1 s2 s3 s4 s5 s6 s7 s8 p1 p2 p3 p4 p5 p6 p7 p8 = rw (p8, p7, p6, p5, p4, p3, p2, p1) (sym enc_parts)

  pub dec_chain : (s1 s2 s3 s4 s5 s6 s7 s8 : List ℕ) → s1 ≡ off 56 8 w3 b → s2 ≡ off 48 0 w3 s1 → s3 ≡ off 40 8 w2 s2 → s4 ≡ off 32 0 w2 s3 → s5 ≡ off 24 8 w1 s4 → s6 ≡ off 16 0 w1 s5 → s7 ≡ off 8 8 k s6 → s8 ≡ off 0 0 k s7 → s8 ≡ Dec k b
  dec_chain s1 s2 s3 s4 s5 s6 s7 s8 p1 p2 p3 p4 p5 p6 p7 p8 = rw (p8, p7, p6, p5, p4, p3, p2, p1) (sym dec_parts)

-- the same where the window is renewed by halves
pub enc_windows : (k r1 w1 r2 w2 r3 w3 b : List ℕ) → length k ≡ 16 → Renewed k r1 w1 → Renewed w1 r2 w2 → Renewed w2 r3 w3 → (s1 s2 s3 s4 s5 s6 s7 s8 : List ℕ) → s1 ≡ on 0 0 k b → s2 ≡ on 8 8 k s1 → s3 ≡ on 16 0 r1 s2 → s4 ≡ on 24 8 w1 s3 → s5 ≡ on 32 0 r2 s4 → s6 ≡ on 40 8 w2 s5 → s7 ≡ on 48 0 r3 s6 → s8 ≡ on 56 8 w3 s7 → s8 ≡ Enc k b
enc_windows k r1 w1 r2 w2 r3 w3 b l n1 n2 n3 s1 s2 s3 s4 s5 s6 s7 s8 p1 p2 p3 p4 p5 p6 p7 p8 =
    let e1 = renewed_next k r1 w1 l n1 in
    let l1 : length w1 ≡ 16 = rw e1 (length_next fresh k l) in
    let e2 = renewed_next w1 r2 w2 l1 n2 in
    let l2 : length w2 ≡ 16 = rw e2 (length_next fresh w1 l1) in
    let e3 = renewed_next w2 r3 w3 l2 n3 in
    let front : (i : ℕ) (r w s t : List ℕ) → take 8 w ≡ take 8 r → t ≡ on i 0 r s → t ≡ on i 0 w s = λ i r w s t e p. p ∙ ap (λ z. phase (take 8 (drop i constants)) z s) (sym e) in
    enc_chain k w1 w2 w3 b l e1 e2 e3 s1 s2 s3 s4 s5 s6 s7 s8 p1 p2 (front 16 r1 w1 s2 s3 n1.kept p3) p4 (front 32 r2 w2 s4 s5 n2.kept p5) p6 (front 48 r3 w3 s6 s7 n3.kept p7) p8
