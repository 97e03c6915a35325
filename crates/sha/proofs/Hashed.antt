-- A cipher whose forward step is a standard's work on a block: its digests are the standard's. Assumes nothing.
use Rattle.std.proofs.Common.{◌≡◌, ℕ, zero, suc, ◌*◌, ◌/◌, ◌^◌, ◌<◌, ◌≤◌, List, [], ◌∷◌, length, get_or, take, sym, refl, ap, ◌∙◌, subst, le_of_suc-le-suc, arith}
use lib.Seq.{take-length}
use Rattle.words.specs.Words.{Below, Row, words}
use Rattle.cipher.specs.Meaning.{Meaning, Lawful}
use Rattle.hash.specs.Digests.{forward, chain, cut, digest, padded, block_count, blocks}
use Rattle.words.specs.Steps.{at}
use Rattle.sha.specs.Standards.{pad, M, H}
use Rattle.words.proofs.Bytes.{length_words, words_below}
use Rattle.hash.proofs.Rows.{Rows, rows_cut, length_cut, padded_whole, padded_below, chain_step, forward_row}
use Rattle.sha.proofs.Padding.{M_is, pad_is}

-- each block is sixteen words
rows_at : (bs : List (List ℕ)) (i : ℕ) → Rows bs → i < length bs → Row 16 (get_or bs i [])
rows_at [] i r h = absurd (omega arith)
rows_at (b ∷ bs) zero r h = r.0
rows_at (b ∷ bs) (suc i) r h = rows_at bs i r.1 (le_of_suc-le-suc h)

module _ (m : Meaning) (lawful : Lawful m) (V : Type 0) (row : V → List ℕ) (block : (ℕ → ℕ) → V → V)
    (agree : (b : List ℕ) (w : ℕ → ℕ) (v : V) → Row 16 b → ((j : ℕ) → j < 16 → at b j ≡ w j) → Row m.width (row v) → forward m (row v) b ≡ row (block w v)) where
  -- after i blocks
  pub chain_H : (start : V) (bytes : List ℕ) (n : ℕ) → Row m.width (row start) → length bytes ≡ 64 * n → Below (2 ^ 8) bytes
      → (i : ℕ) → i ≤ n → (chain m (row start) (take i (cut n (words bytes))) ≡ row (H block start bytes i)) × Row m.width (row (H block start bytes i))
  unfolding H chain
  chain_H start bytes n r l h zero k = (refl, r)
  chain_H start bytes n r l h (suc i) k =
      let ih = chain_H start bytes n r l h i (omega arith) in
      let bs = cut n (words bytes) in
      let b = get_or bs i [] in
      let v = H block start bytes i in
      let long = length_cut n (words bytes) in
      let rb : Row 16 b =
      rows_at bs i (rows_cut n (words bytes) (length_words (16 * n) bytes (omega arith)) (words_below bytes h)) (omega arith) in
      let e : forward m (row v) b ≡ row (block (M bytes i) v) = agree b (M bytes i) v rb (λ j lt. M_is bytes n i j l k lt) ih.1 in (
        chain_step m (row start) bs i (omega arith) ∙ ap (λ (c : List ℕ). forward m c b) ih.0 ∙ e,
        subst (Row m.width) e (forward_row m lawful (row v) b ih.1 rb),
      )

  -- a digest is the standard's
  pub digest_is : (start : V) (msg : List ℕ) → m.initial ≡ row start → Below (2 ^ 8) msg → digest m msg ≡ row (H block start (pad msg) (length (pad msg) / 64))
  unfolding digest
  digest_is start msg e h =
      let n = block_count msg in
      let bs = blocks msg in
      let long = length_cut n (words (padded msg)) in
      ap (chain m m.initial) (sym (take-length bs) ∙ ap (λ (j : ℕ). take j bs) long)
      ∙ ap (λ (c : List ℕ). chain m c (take n bs)) e
      ∙ (chain_H start (padded msg) n (subst (Row m.width) e lawful.starts) (padded_whole msg) (padded_below msg h) n (omega arith)).0
      ∙ ap (λ (p : List ℕ). row (H block start p (length p / 64))) (pad_is msg)
