-- What is done to the words of a block is done to the block. Assumes nothing.
use Rattle.std.proofs.Common.{◌≡◌, ℕ, ◌-◌, ◌*◌, Bool, true, false, cond, eqb, List, ◌++◌, length, take, replicate, Ok, Err, Result, sym, refl, ap, ◌∙◌, arith, eq-eqb}
use Rattle.std.proofs.lemmas.Bool.{eqb-true}
use Rattle.std.proofs.lemmas.List.{take_at}
use Rattle.faults.specs.declared.grounds.BufferFault.{BufferFault}
use Rattle.faults.specs.declared.grounds.CipherFault.{CipherFault}
use Rattle.faults.specs.declared.grounds.CipherFault.TheVariants.{Key, Block}
use Rattle.words.specs.Buffer.{Fills}
use Rattle.words.specs.Words.{bytes, words}
use Rattle.words.proofs.Bytes.{length_words}
use Rattle.words.proofs.Crossed.{length_bytes, fills_whole}
use Rattle.cipher.specs.Bytes.{key_fits, key_words, byte_turned, opened}

-- what an answer says that was not a refusal
granted : {A E : Type 0} (s t : Bool) (x y : A) (d e : E) → ◌≡◌ {A = Result A E} (Ok x) (cond s (cond t (Ok y) (Err d)) (Err e)) → (s ≡ true) × (t ≡ true) × (x ≡ y)
granted true true x y d e q = (refl, refl, cc)
granted true false x y d e q = let z : ◌≡◌ {A = ℕ} 0 1 = cc in absurd (omega arith)
granted false t x y d e q = let z : ◌≡◌ {A = ℕ} 0 1 = cc in absurd (omega arith)

-- the words of a block that was not refused, turned by f and written over it
pub turned_bytes : (f : List ℕ → List ℕ → List ℕ) (n m : ℕ) (k b kw ws new out : List ℕ) (r : Result ℕ BufferFault) → n ≡ m → ◌≡◌ {A = Result (List ℕ × List ℕ) CipherFault} (Ok (kw, ws)) (opened m k b)
    → new ≡ cond (eqb (length (take n ws)) m) (f kw (take n ws)) (take n ws) → length new ≡ length (take n ws) → Fills (bytes new) b out r → out ≡ byte_turned m f k b
turned_bytes f n m k b kw ws new out r same q e l fills =
    let (fits, long, is) = granted (key_fits k) (eqb (length b) (4 * m)) (kw, ws) (key_words k, words b ++ replicate (8 - m) 0) Block Key q in
    let four : length b ≡ 4 * m = eqb-true (length b) (4 * m) long in
    let front : take n ws ≡ words b = ap (λ i. take i ws) same ∙ ap (λ (p : List ℕ × List ℕ). take m p.1) is ∙ take_at (words b) (replicate (8 - m) 0) m (length_words m b four) in
    let t = eq-eqb (length (words b)) m (length_words m b four) in
    fills_whole (bytes new) b out r (omega (arith, four, length_bytes new, l, ap length front, length_words m b four)) fills
    ∙ ap bytes (e ∙ ap (λ x. cond (eqb (length x) m) (f kw x) x) front ∙ ap (λ x. cond x (f kw (words b)) (words b)) t ∙ ap (λ (p : List ℕ × List ℕ). f p.0 (words b)) is)
    ∙ sym (ap (λ x. cond x (bytes (f (key_words k) (words b))) b) long)
    ∙ sym (ap (λ x. cond x (cond (eqb (length b) (4 * m)) (bytes (f (key_words k) (words b))) b) b) fits)
