-- The hash over SHACAL-1 is SHA-1. Assumes nothing.
use Rattle.std.proofs.Common.{◌≡◌, ℕ, ◌+◌, ◌-◌, ◌/◌, ◌%◌, ◌^◌, ◌<◌, ◌≤◌, cond, ltb, List, [], ◌∷◌, length, get_or, sym, refl, ap, ◌∙◌, subst, inl, inr, arith}
use lib.Bits.{bit_xor}
use Rattle.std.proofs.lemmas.Bool.{cases_lt, lt-ltb, le-ltb, cond-true, cond-false}
use Rattle.words.specs.Words.{Below, Row, add}
use Rattle.words.specs.Steps.{added}
use Rattle.hash.specs.Digests.{digest, forward}
use Rattle.words.specs.Steps.{at, rotl}
use Rattle.shacal1.specs.Shacal1.{fresh, words, mix, constant, sum, turn, step, unstep, run, Enc}
use Rattle.shacal1.specs.Shacal1.{shacal1}
use Rattle.sha.specs.Standards.{Ch, Parity, Maj, by_round, f1, K1, so_far, W, plus}
use Rattle.sha.specs.Sha.{Five, next1, round1, block1, start1, row1, sha1}
use Rattle.shacal1.specs.Laws.{undoes, lawful}
use Rattle.sha.proofs.Bitwise.{choose_is, majority_is}
use Rattle.sha.proofs.Looped.{flat, ago, W_next, length_grown, grown_is, forth_all}
use Rattle.sha.proofs.Hashed.{digest_is}

-- ---- the schedule, as the standard states it
pub first1 : (m : ℕ → ℕ) (t : ℕ) → t < 16 → W next1 m t ≡ m t
unfolding next1
first1 m t h = W_next next1 m t ∙ (λ i. cond (lt-ltb t 16 h i) (m t) (next1 m 16 (so_far next1 m t)))

-- word t from sixteen on
pub rest1 : (m : ℕ → ℕ) (t : ℕ) → 16 ≤ t
    → W next1 m t ≡ rotl 1 (bit_xor (bit_xor (bit_xor (W next1 m (t - 3)) (W next1 m (t - 8))) (W next1 m (t - 14))) (W next1 m (t - 16)))
unfolding next1
rest1 m t h =
    let a : (d j : ℕ) → j + d + 1 ≡ t → get_or (so_far next1 m t) d 0 ≡ W next1 m j = λ d j. ago next1 m t d j in
    W_next next1 m t
    ∙ (λ i. cond (le-ltb t 16 h i) (m t) (next1 m 16 (so_far next1 m t)))
    ∙ (λ i. rotl 1 (bit_xor (bit_xor (bit_xor (a 2 (t - 3) (omega arith) i) (a 7 (t - 8) (omega arith) i)) (a 13 (t - 14) (omega arith) i)) (a 15 (t - 16) (omega arith) i)))

-- the cipher's is the same
scheduled : (b : List ℕ) (m : ℕ → ℕ) → length b ≡ 16 → ((j : ℕ) → j < 16 → at b j ≡ m j) → (j : ℕ) → j < 80 → at (words b 64) j ≡ W next1 m j
unfolding words fresh
scheduled b m l same j h =
    grown_is fresh b l (W next1 m) (λ i lt. same i lt ∙ sym (first1 m i lt))
    (λ n ws e.
    (λ i. rotl 1 (bit_xor (bit_xor (bit_xor (e (n + 13) (n + 16 - 3) (omega arith) (omega arith) i) (e (n + 8) (n + 16 - 8) (omega arith) (omega arith) i)) (e (n + 2) (n + 16 - 14) (omega arith) (omega arith) i)) (e n (n + 16 - 16) (omega arith) (omega arith) i)))
    ∙ sym (rest1 m (n + 16) (omega arith))) 64 j (omega arith)

-- eighty words
scheduled_long : (b : List ℕ) → length b ≡ 16 → length (words b 64) ≡ 80
unfolding words
scheduled_long b l = length_grown fresh b l 64

-- ---- the phases of twenty
module _ {A : Type 0} (p q r s : A) (P : ℕ → A → Type 0) (t : ℕ) where
  -- a round whose phase is known
  put : (i : ℕ) (y : A) → t / 20 ≡ i → by_round p q r s t ≡ y → P i y → P (t / 20) (by_round p q r s t)
  put i y e f z = subst (λ (j : ℕ). P j (by_round p q r s t)) (sym e) (subst (P i) (sym f) z)

  -- past the first phase
  past_20 : 20 ≤ t → by_round p q r s t ≡ cond (ltb t 40) q (cond (ltb t 60) r s)
  past_20 h = cond-false (ltb t 20) p (cond (ltb t 40) q (cond (ltb t 60) r s)) (le-ltb t 20 h)

  -- past the second
  past_40 : 40 ≤ t → by_round p q r s t ≡ cond (ltb t 60) r s
  past_40 h = past_20 (omega arith) ∙ cond-false (ltb t 40) q (cond (ltb t 60) r s) (le-ltb t 40 h)

  -- what holds in each phase holds at each round
  phased : P 0 p → P 1 q → P 2 r → P 3 s → t < 80 → P (t / 20) (by_round p q r s t)
  phased a b c d h =
      elim (cases_lt t 20) [
        | inl u ↦ put 0 p (omega arith) (cond-true (ltb t 20) p (cond (ltb t 40) q (cond (ltb t 60) r s)) (lt-ltb t 20 u)) a
        | inr u ↦
            elim (cases_lt t 40) [
              | inl v ↦ put 1 q (omega arith) (past_20 u ∙ cond-true (ltb t 40) q (cond (ltb t 60) r s) (lt-ltb t 40 v)) b
              | inr v ↦
                  elim (cases_lt t 60) [
                    | inl w ↦ put 2 r (omega arith) (past_40 v ∙ cond-true (ltb t 60) r s (lt-ltb t 60 w)) c
                    | inr w ↦ put 3 s (omega arith) (past_40 v ∙ cond-false (ltb t 60) r s (le-ltb t 60 w)) d
                  ]
            ]
      ]

-- the function of a round
mix_is : (t b c d : ℕ) → t < 80 → b < 2 ^ 32 → c < 2 ^ 32 → d < 2 ^ 32 → mix (t / 20) b c d ≡ f1 t b c d
unfolding mix f1
mix_is t b c d h p q r =
    phased Ch Parity Maj Parity (λ i f. mix i b c d ≡ f b c d) t (choose_is b c d p) refl (majority_is b c d p q r) refl h

-- the constant of a round
constant_is : (t : ℕ) → t < 80 → constant (t / 20) ≡ K1 t
unfolding constant K1
constant_is t h = phased 0x5A827999 0x6ED9EBA1 0x8F1BBCDC 0xCA62C1D6 (λ i k. constant i ≡ k) t refl refl refl refl h

-- ---- a round, and the work on a block

-- the sum of a round
T_is : (w x f k e : ℕ) → add (add (add (add w x) f) k) e ≡ plus (plus (plus (plus x f) e) k) w
T_is w x f k e = simp flat (ap (λ (n : ℕ). n % 2 ^ 32) (omega arith))

-- a step is a round
round_is : (t w : ℕ) (v : Five) → t < 80 → Row 5 (row1 v) → step t w (row1 v) ≡ row1 (round1 t w v)
unfolding step turn sum round1
round_is t w v h r =
    let f = mix_is t v.b v.c v.d h r.words.1.0 r.words.1.1.0 r.words.1.1.1.0 in
    let k = constant_is t h in
    let T = T_is w (rotl 5 v.a) (mix (t / 20) v.b v.c v.d) (constant (t / 20)) v.e
    ∙ (λ i. plus (plus (plus (plus (rotl 5 v.a) (f i)) v.e) (k i)) w) in
    λ i. T i ∷ v.a ∷ rotl 30 v.b ∷ v.c ∷ v.d ∷ []

-- the forward step is the work on a block
block_is : (b : List ℕ) (m : ℕ → ℕ) (v : Five) → Row 16 b → ((j : ℕ) → j < 16 → at b j ≡ m j) → Row 5 (row1 v) → forward shacal1 (row1 v) b ≡ row1 (block1 m v)
unfolding Enc run block1
block_is b m v rb same r =
    ap (λ (c : List ℕ). added c (row1 v))
    (forth_all Five row1 round1 5 80 step unstep undoes round_is (W next1 m) (words b 64) v r (scheduled_long b rb.long) (scheduled b m rb.long same))

-- the hash over SHACAL-1 is SHA-1
pub digest_sha1 : (msg : List ℕ) → Below (2 ^ 8) msg → digest shacal1 msg ≡ sha1 msg
unfolding sha1
digest_sha1 msg h = digest_is shacal1 lawful Five row1 block1 block_is start1 msg refl h
