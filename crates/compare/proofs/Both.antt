-- The two statements on two books. Assumes nothing.
use Rattle.std.proofs.Common.{◌≡◌, ℕ, ◌%◌, ◌^◌, Bool, true, false, List, [], ◌∷◌, get_or, Decides, MatchBool, sym, refl, ap, ◌∙◌, subst, arith}
use Rattle.std.proofs.lemmas.Bool.{false≢true}
use Rattle.words.specs.Words.{Below, Row, bytes, words}
use Rattle.words.proofs.Bytes.{bytes_below, word_joined}
use Rattle.cipher.specs.Meaning.{Meaning, Lawful}
use Rattle.hash.specs.Digests.{digest}
use Rattle.hash.proofs.Rows.{digest_row}
use Rattle.order.specs.Orders as order
use Rattle.order_table.proofs.Lined.{orders_in_range, orders_few}
use Rattle.turning.specs.Turned.{turned}
use Rattle.sheet.specs.Sheets as sheets
use Rattle.sheet.specs.Contents.{Contents}
use Rattle.sheet.specs.Reading as reading
use Rattle.sheet.proofs.Written.{accepted, holds}
use Rattle.ledger.specs.Ledgers.{Ledger, Sound, in_force, register, code, opening, sheet, seal}
use Rattle.compare.specs.Alike.{NothingLeftBehind, SharedSealCollides}
use Rattle.compare.specs.Verdicts.{collision, Judges, Compares}
use Rattle.compare.specs.declared.verdict.Verdict.{Verdict}
use Rattle.compare.specs.declared.verdict.Verdict.TheVariants.{SealsDiffer, SameSheet, Collision, CiphersDiffer}
use Rattle.compare.proofs.Agreement.{digest_same, turned_same}

-- what a sound ledger puts on its sheet
contents : (m : Meaning) (l : Ledger) → Sound m l → Contents l.given.name l.given.base l.given.table (in_force l)
contents m l s = record {
  named = (s.named.long, s.named.bytes);
  based = s.based;
  tabled = s.tabled;
  opens = s.opens;
  few = omega (arith, s.few, orders_few l.lines);
  ranged = orders_in_range l.lines s.ranged;
}

sheet_bytes : (m : Meaning) (l : Ledger) → Sound m l → Below (2 ^ 8) (sheet l)
unfolding sheet
sheet_bytes m l s = (accepted l.given.name l.given.base l.given.table (in_force l) (contents m l s)).bytes

pub seal_row : (m : Meaning) → Lawful m → (l : Ledger) → Sound m l → Row m.width (seal m l)
unfolding seal
seal_row m law l s = digest_row m law (sheet l) (sheet_bytes m l s)

-- a sheet reads back as its orders, so sheets that are one have the same
sheet_tells : (m n : Meaning) (l k : Ledger) → Sound m l → Sound n k → sheet l ≡ sheet k → in_force l ≡ in_force k
unfolding sheet
sheet_tells m n l k s t e =
    sym (holds l.given.name l.given.base l.given.table (in_force l) (contents m l s)).ordered
    ∙ ap reading.orders e
    ∙ (holds k.given.name k.given.base k.given.table (in_force k) (contents n k t)).ordered

pub nothing_left_behind : (m n : Meaning) (l k : Ledger) → Lawful m → Sound m l → NothingLeftBehind m n l k
unfolding register code opening sheet seal
nothing_left_behind m n l k law s one g f =
    let r : register m l ≡ register n k =
    turned_same m n law one l.given.name l.given.start (in_force l) s.named (orders_in_range l.lines s.ranged) s.started
    ∙ (λ i. turned n (g i).name (g i).start (f i)) in
    let e : sheet l ≡ sheet k = λ i. sheets.sheet (g i).name (g i).base (g i).table (f i) in
    record {
      register_same = r;
      code_same = ap (λ (h : List ℕ). get_or h 0 0 % 1000000) (digest_same m n law one (bytes (register m l)) (bytes_below (register m l)) ∙ ap (λ (w : List ℕ). digest n (bytes w)) r);
      opening_same = λ i. order.opening (g i).table (g i).base (f i);
      sheet_same = e;
      seal_same = digest_same m n law one (sheet l) (sheet_bytes m l s) ∙ ap (digest n) e;
    }

module _ (m n : Meaning) (l k : Ledger) (law : Lawful m) (s : Sound m l) (t : Sound n k) where
  -- seals that differ say so, and promise nothing of collisions
  pub seals_differ : (seal m l ≡ seal n k → ⊥) → Compares m n l k SealsDiffer × SharedSealCollides m n l k (λ i j. SealsDiffer ≡ collision i j)
  seals_differ d = (d, λ one unlike e. absurd (d e))

  -- seals that agree: what the trace found is the verdict
  pub seals_agree : seal m l ≡ seal n k → (v : Verdict) → Judges m (sheet l) (sheet k) v → Compares m n l k v × SharedSealCollides m n l k (λ i j. v ≡ collision i j)
  unfolding seal
  seals_agree e SealsDiffer h = absurd h
  seals_agree e SameSheet h = ((e, h), λ one unlike _. absurd (unlike (sheet_tells m n l k s t h)))
  seals_agree e (Collision i j) h = ((e, h), λ one unlike _. (i, j, refl, h.collides))
  seals_agree e CiphersDiffer h = (
    (e, h.0, λ same. h.1 (e ∙ sym same)),
    λ one unlike _. absurd (h.1 (e ∙ sym (digest_same m n law one (sheet k) (sheet_bytes n k t)))),
  )

-- bytes are read back as the words that they were written from
words_back : (ws : List ℕ) → Below (2 ^ 32) ws → words (bytes ws) ≡ ws
words_back [] h = refl
words_back (w ∷ ws) h = (λ i. word_joined w h.0 i ∷ words_back ws h.1 i)

pub bytes_one : (vs ws : List ℕ) → Below (2 ^ 32) vs → Below (2 ^ 32) ws → bytes vs ≡ bytes ws → vs ≡ ws
bytes_one vs ws h k e = sym (words_back vs h) ∙ ap words e ∙ words_back ws k

-- ---- what the code compared and traced

pub decided : (r : Bool) (xs ys us vs : List ℕ) → xs ≡ us → ys ≡ vs → Decides r (xs ≡ ys) → MatchBool r (us ≡ vs) (us ≡ vs → ⊥)
decided true xs ys us vs p q d = sym p ∙ d.0 refl ∙ q
decided false xs ys us vs p q d = λ e. false≢true (d.1 (p ∙ e ∙ sym q))

pub judged : {C : Type 0} (meaning : C → Meaning) (c d : C) (x y u v : List ℕ) (r : Verdict) → c ≡ d → x ≡ u → y ≡ v → Judges (meaning c) x y r → Judges (meaning d) u v r
judged meaning c d x y u v r p q s h = subst (λ (w : List ℕ). Judges (meaning d) u w r) s (subst (λ (w : List ℕ). Judges (meaning d) w y r) q (subst (λ k. Judges (meaning k) x y r) p h))
