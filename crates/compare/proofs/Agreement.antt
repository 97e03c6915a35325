-- Two ciphers that are one give one hash and one register. Assumes nothing.
use Rattle.std.proofs.Common.{◌≡◌, ℕ, ◌*◌, ◌^◌, List, [], ◌∷◌, refl, ap, ◌∙◌, arith}
use Rattle.words.specs.Words.{Below, Row, words}
use Rattle.words.specs.Steps.{added}
use Rattle.words.proofs.Bytes.{length_words, words_below}
use Rattle.cipher.specs.Meaning.{Meaning, Lawful, Same}
use Rattle.hash.specs.Digests.{forward, chain, digest, padded, blocks, block_count}
use Rattle.hash.proofs.Rows.{Rows, rows_cut, padded_whole, padded_below, forward_row}
use Rattle.order.specs.Orders.{Order, AllInRange, key}
use Rattle.turning.specs.Turned.{Name, turned}
use Rattle.turning.proofs.Turning.{key_row}

module _ (m n : Meaning) (lawful : Lawful m) (one : Same m n) where
  chain_same : (h : List ℕ) (bs : List (List ℕ)) → Row m.width h → Rows bs → chain m h bs ≡ chain n h bs
  unfolding chain
  chain_same h [] r k = refl
  chain_same h (b ∷ bs) r k =
      chain_same (forward m h b) bs (forward_row m lawful h b r k.0) k.1
      ∙ ap (λ (c : List ℕ). chain n (added c h) bs) (one.enc b h k.0 r)

  pub digest_same : (msg : List ℕ) → Below (2 ^ 8) msg → digest m msg ≡ digest n msg
  unfolding digest
  digest_same msg h =
      let c = block_count msg in
      let rows : Rows (blocks msg) = rows_cut c (words (padded msg)) (length_words (16 * c) (padded msg) (padded_whole msg ∙ omega arith)) (words_below (padded msg) (padded_below msg h)) in
      chain_same m.initial (blocks msg) lawful.starts rows ∙ ap (λ (x : List ℕ). chain n x (blocks msg)) one.initial

  pub turned_same : (name r : List ℕ) (os : List Order) → Name name → AllInRange os → Row m.width r → turned m name r os ≡ turned n name r os
  unfolding turned
  turned_same name r [] named fits row = refl
  turned_same name r (o ∷ os) named fits row =
      let k = key_row name o named fits.0 in
      turned_same name (m.enc (key name o) r) os named fits.1 (lawful.enc_row _ _ k row)
      ∙ ap (λ x. turned n name x os) (one.enc (key name o) r k row)
