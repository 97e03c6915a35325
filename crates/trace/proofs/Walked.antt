-- Chains along two messages, and the place where a walk back from both ends stops. Assumes nothing.
use Rattle.std.proofs.Common.{◌≡◌, ℕ, ◌+◌, ◌-◌, ◌^◌, ◌<◌, Bool, true, false, List, [], length, Some, None, Decides, Option, not, refl, sym, ap, ◌∙◌, subst, inl, inr, add-one, arith, ext_get_or}
use lib.Seq.{take-length}
use Rattle.std.proofs.lemmas.Bool.{cases_order}
use Rattle.words.specs.Words.{Below}
use Rattle.cipher.specs.Meaning.{Meaning}
use Rattle.hash.specs.Digests.{forward, chain, digest, blocks, block_count}
use Rattle.hash.proofs.Rows.{chain_step}
use Rattle.trace.specs.Walk.{before, block, Agree, Stops, Collides, Only, Within, Last}
use Rattle.trace.proofs.Cuts.{length_blocks, blocks_some, same_count, blocks_inj, last_length}

-- a chain starts at the initial value
pub before_none : (m : Meaning) (msg h : List ℕ) → h ≡ m.initial → h ≡ before m msg 0
unfolding chain
before_none m msg h e = e

-- goes on by a step
before_suc : (m : Meaning) (msg : List ℕ) (i : ℕ) → i < length (blocks msg) → before m msg (i + 1) ≡ forward m (before m msg i) (block msg i)
before_suc m msg i l = ap (before m msg) (add-one i) ∙ chain_step m m.initial (blocks msg) i l

-- and ends at the digest
pub before_all : (m : Meaning) (msg : List ℕ) (i : ℕ) → i ≡ length (blocks msg) → before m msg i ≡ digest m msg
unfolding digest
before_all m msg i e = ap (before m msg) e ∙ ap (chain m m.initial) (take-length (blocks msg))

-- the step as a call leaves it
pub before_more : (m : Meaning) (msg h b r : List ℕ) (i : ℕ) → i < block_count msg → h ≡ before m msg i → b ≡ block msg i → r ≡ forward m h b → r ≡ before m msg (i + 1)
before_more m msg h b r i l at is e = e ∙ (λ k. forward m (at k) (is k)) ∙ sym (before_suc m msg i (omega (arith, length_blocks msg)))

-- a chain that has come to its end is the digest
pub ends_at : (m n : Meaning) (x y h : List ℕ) (i : ℕ) → n ≡ m → y ≡ x → i ≡ block_count x → h ≡ before n y i → h ≡ digest m x
ends_at m n x y h i means is all at = at ∙ (λ k. before (means k) (is k) i) ∙ before_all m x i (all ∙ sym (length_blocks x))

-- a digest over a cipher of the same meaning, of the same message
pub digest_like : (m n : Meaning) (x u : List ℕ) {h : List ℕ} → h ≡ digest n u → n ≡ m → u ≡ x → h ≡ digest m x
digest_like m n x u at means is = at ∙ (λ k. digest (means k) (is k))

-- what a comparison for unlikeness found
pub unlike : {P : Type 0} (s r : Bool) → Decides s P → r ≡ not s → r ≡ true → P → ⊥
unlike s r d e f p =
    let z : false ≡ true = ap not (sym (d.1 p)) ∙ sym e ∙ f in
    let no : ◌≡◌ {A = ℕ} 0 1 = cc in
    omega arith

pub alike : {P : Type 0} (s r : Bool) → Decides s P → r ≡ not s → r ≡ false → P
alike true r d e f = d.0 refl
alike false r d e f =
    let z : true ≡ false = sym e ∙ f in
    let no : ◌≡◌ {A = ℕ} 0 1 = cc in
    absurd (omega arith)

module _ (m : Meaning) (x y : List ℕ) where
  moved : (a b c d : ℕ) → a ≡ c → b ≡ d → Agree m x y a b → Agree m x y c d
  moved a b c d p q h = subst (λ (u : ℕ). Agree m x y u d) p (subst (Agree m x y a) q h)

  module _ (i j : ℕ) where
    module _ (n : ℕ) (x-ends : i + n ≡ length (blocks x)) (y-ends : j + n ≡ length (blocks y)) where
      -- messages that agree down to the front of one of them are the same
      pub never : Below (2 ^ 8) x → Below (2 ^ 8) y → Within x y → i ≡ length (blocks x) - length (blocks y) → j ≡ length (blocks y) - length (blocks x)
          → Last m x y i j n None → x ≡ y
      never hx hy few di dj f =
          let sx = blocks_some x in
          let sy = blocks_some y in
          let t = n - 1 in
          let l : length x ≡ length y = last_length x y (i + t) (j + t) (omega arith) (omega arith) (omega arith) (omega arith) (f t (omega arith)).1 in
          let c = same_count x y l in
          blocks_inj x y hx hy l (ext_get_or [] (blocks x) (blocks y) c
          (λ q b. (moved (i + q) (j + q) q q (omega arith) (omega arith) (f q (omega arith))).1))

      -- past the place both chains hold the same
      joins : (k : ℕ) → digest m x ≡ digest m y → Last m x y i j n (Some k) → before m x (i + k + 1) ≡ before m y (j + k + 1)
      joins k e f = elim (cases_order (k + 1) n) [
        | inl s ↦ before_all m x (i + k + 1) (omega arith) ∙ e ∙ sym (before_all m y (j + k + 1) (omega arith))
        | inr (inl l) ↦ (moved (i + (k + 1)) (j + (k + 1)) (i + k + 1) (j + k + 1) (omega arith) (omega arith) (f.2 (k + 1) (omega arith) l)).0
        | inr (inr l) ↦ absurd (omega arith)
      ]

      pub found : (k : ℕ) → digest m x ≡ digest m y → Last m x y i j n (Some k) → Collides m x y (i + k) (j + k)
      found k e f = record {
        stops = record {
          left = n - (k + 1);
          x_left = omega arith;
          y_left = omega arith;
          differs = f.1;
          agree = λ q h. moved (i + (k + 1 + q)) (j + (k + 1 + q)) (i + k + 1 + q) (j + k + 1 + q) (omega arith) (omega arith) (f.2 (k + 1 + q) (omega arith) (omega arith));
        };
        step = sym (before_suc m x (i + k) (omega arith)) ∙ joins k e f ∙ before_suc m y (j + k) (omega arith);
      }

-- a stop that is farther from the ends agrees at the nearer one
later : (m : Meaning) (x y : List ℕ) (i j k l : ℕ) (s : Stops m x y i j) (t : Stops m x y k l) → s.left < t.left → ⊥
later m x y i j k l s t h =
    let q = t.left - s.left - 1 in
    s.differs (moved m x y (k + 1 + q) (l + 1 + q) i j (omega (arith, s.x_left, t.x_left)) (omega (arith, s.y_left, t.y_left)) (t.agree q (omega arith)))

-- the walk stops at one place only
pub stops_once : (m : Meaning) (x y : List ℕ) (i j : ℕ) → Stops m x y i j → Only m x y i j
stops_once m x y i j s k l t =
    let e : s.left ≡ t.left = elim (cases_order s.left t.left) [
      | inl e ↦ e
      | inr (inl h) ↦ absurd (later m x y i j k l s t h)
      | inr (inr h) ↦ absurd (later m x y k l i j t s h)
    ] in
    (omega (arith, s.x_left, t.x_left), omega (arith, s.y_left, t.y_left))

-- the last place under other names
pub last_like : (m n : Meaning) (x y u v : List ℕ) (i j k a b c : ℕ) (o : Option ℕ) → n ≡ m → u ≡ x → v ≡ y → a ≡ i → b ≡ j → c ≡ k → Last n u v a b c o → Last m x y i j k o
last_like m n x y u v i j k a b c o p q r s t w h =
    subst (λ (z : ℕ). Last m x y i j z o) w
    (subst (λ (z : ℕ). Last m x y i z c o) t
    (subst (λ (z : ℕ). Last m x y z b c o) s
    (subst (λ (z : List ℕ). Last m x z a b c o) r (subst (λ (z : List ℕ). Last m z v a b c o) q (subst (λ (z : Meaning). Last z u v a b c o) p h)))))
