-- The hash over SHACAL-2 is SHA-256. Assumes nothing.
use Rattle.std.proofs.Common.{◌≡◌, ℕ, ◌+◌, ◌-◌, ◌%◌, ◌^◌, ◌<◌, ◌≤◌, cond, List, [], ◌∷◌, length, get_or, sym, refl, ap, ◌∙◌, arith}
use Rattle.std.proofs.lemmas.Bool.{lt-ltb, le-ltb}
use Rattle.words.specs.Words.{Below, Row, add}
use Rattle.words.specs.Steps.{added}
use Rattle.hash.specs.Digests.{digest, forward}
use Rattle.words.specs.Steps.{at, choose}
use Rattle.shacal2.specs.Shacal2.{small0, small1, fresh, words, constants, front, sum, turn, step, unstep, run, Enc}
use Rattle.shacal2.specs.Shacal2.{shacal2}
use Rattle.sha.specs.Standards.{plus, Ch, Maj, Σ0, Σ1, σ0, σ1, K256s, so_far, W}
use Rattle.sha.specs.Sha.{Eight, next256, round256, block256, start256, row256, sha256}
use Rattle.shacal2.specs.Laws.{undoes, lawful}
use Rattle.sha.proofs.Bitwise.{choose_is, majority_is}
use Rattle.sha.proofs.Looped.{flat, flat_r, ago, W_next, length_grown, grown_is, forth_all}
use Rattle.sha.proofs.Hashed.{digest_is}

-- ---- the schedule, as the standard states it
pub first256 : (m : ℕ → ℕ) (t : ℕ) → t < 16 → W next256 m t ≡ m t
unfolding next256
first256 m t h = W_next next256 m t ∙ (λ i. cond (lt-ltb t 16 h i) (m t) (next256 m 16 (so_far next256 m t)))

-- word t from sixteen on
pub rest256 : (m : ℕ → ℕ) (t : ℕ) → 16 ≤ t
    → W next256 m t ≡ plus (plus (plus (σ1 (W next256 m (t - 2))) (W next256 m (t - 7))) (σ0 (W next256 m (t - 15)))) (W next256 m (t - 16))
unfolding next256
rest256 m t h =
    let a : (d j : ℕ) → j + d + 1 ≡ t → get_or (so_far next256 m t) d 0 ≡ W next256 m j = λ d j. ago next256 m t d j in
    W_next next256 m t
    ∙ (λ i. cond (le-ltb t 16 h i) (m t) (next256 m 16 (so_far next256 m t)))
    ∙ (λ i. plus (plus (plus (σ1 (a 1 (t - 2) (omega arith) i)) (a 6 (t - 7) (omega arith) i)) (σ0 (a 14 (t - 15) (omega arith) i))) (a 15 (t - 16) (omega arith) i))

-- four words the other way round
turned : (a b c d : ℕ) → add (add (add a b) c) d ≡ plus (plus (plus d c) b) a
turned a b c d = simp flat (ap (λ (n : ℕ). n % 2 ^ 32) (omega arith))

-- the cipher's is the same
scheduled : (b : List ℕ) (m : ℕ → ℕ) → length b ≡ 16 → ((j : ℕ) → j < 16 → at b j ≡ m j) → (j : ℕ) → j < 64 → at (words b 48) j ≡ W next256 m j
unfolding words fresh
scheduled b m l same j h =
    grown_is fresh b l (W next256 m) (λ i lt. same i lt ∙ sym (first256 m i lt))
    (λ n ws e.
    (λ i. add (add (add (e n (n + 16 - 16) (omega arith) (omega arith) i) (small0 (e (n + 1) (n + 16 - 15) (omega arith) (omega arith) i))) (e (n + 9) (n + 16 - 7) (omega arith) (omega arith) i)) (small1 (e (n + 14) (n + 16 - 2) (omega arith) (omega arith) i)))
    ∙ turned (W next256 m (n + 16 - 16)) (σ0 (W next256 m (n + 16 - 15))) (W next256 m (n + 16 - 7)) (σ1 (W next256 m (n + 16 - 2)))
    ∙ sym (rest256 m (n + 16) (omega arith))) 48 j (omega arith)

-- sixty-four words
scheduled_long : (b : List ℕ) → length b ≡ 16 → length (words b 48) ≡ 64
unfolding words
scheduled_long b l = length_grown fresh b l 48

-- ---- a round, and the work on a block
constants_are : constants ≡ K256s
unfolding constants K256s
constants_are = refl

-- the first sum of a round
T1Is : (h s c k w : ℕ) → add h (add (add (add s c) k) w) ≡ plus (plus (plus (plus h s) c) k) w
T1Is h s c k w = simp (flat, flat_r) (ap (λ (n : ℕ). n % 2 ^ 32) (omega arith))

-- a sum the other way round
swapped : (x y : ℕ) → add x y ≡ plus y x
swapped x y = omega arith

-- a step is a round
round_is : (t w : ℕ) (v : Eight) → t < 64 → Row 8 (row256 v) → step t w (row256 v) ≡ row256 (round256 t w v)
unfolding step turn sum front round256
round_is t w v h r =
    let p : (v.a < 2 ^ 32) × (v.b < 2 ^ 32) × (v.c < 2 ^ 32) = (r.words.0, r.words.1.0, r.words.1.1.0) in
    let q : v.e < 2 ^ 32 = r.words.1.1.1.1.0 in
    let c = choose_is v.e v.f v.g q in
    let j = majority_is v.a v.b v.c p.0 p.1 p.2 in
    let T1 = T1Is v.h (Σ1 v.e) (choose v.e v.f v.g) (at constants t) w
    ∙ (λ i. plus (plus (plus (plus v.h (Σ1 v.e)) (c i)) (at (constants_are i) t)) w) in
    let A = (λ i. add (add (Σ0 v.a) (j i)) (T1 i))
    ∙ swapped (plus (Σ0 v.a) (Maj v.a v.b v.c)) (plus (plus (plus (plus v.h (Σ1 v.e)) (Ch v.e v.f v.g)) (at K256s t)) w) in
    λ i. A i ∷ v.a ∷ v.b ∷ v.c ∷ plus v.d (T1 i) ∷ v.e ∷ v.f ∷ v.g ∷ []

-- the forward step is the work on a block
block_is : (b : List ℕ) (m : ℕ → ℕ) (v : Eight) → Row 16 b → ((j : ℕ) → j < 16 → at b j ≡ m j) → Row 8 (row256 v) → forward shacal2 (row256 v) b ≡ row256 (block256 m v)
unfolding Enc run block256
block_is b m v rb same r =
    ap (λ (c : List ℕ). added c (row256 v))
    (forth_all Eight row256 round256 8 64 step unstep undoes round_is (W next256 m) (words b 48) v r (scheduled_long b rb.long) (scheduled b m rb.long same))

-- the hash over SHACAL-2 is SHA-256
pub digest_sha256 : (msg : List ℕ) → Below (2 ^ 8) msg → digest shacal2 msg ≡ sha256 msg
unfolding sha256
digest_sha256 msg h = digest_is shacal2 lawful Eight row256 block256 block_is start256 msg refl h
