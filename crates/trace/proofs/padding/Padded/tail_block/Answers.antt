use Rattle.std.proofs.Common.{◌≡◌, ◌+◌, ◌*◌, ◌<◌, ◌≤◌, length, get_or, refl, subst, arith, rules}
use Rattle.std.proofs.lemmas.Fn.{serves_by}
use Rattle.hash.specs.Digests.{padded}
use Rattle.hash.proofs.Rows.{padded_whole}
use Rattle.trace.proofs.Cuts.{counted}
use Rattle.trace.proofs.Bytes.{part_read, made}
use Rattle.trace.proofs.padding.Padded.tail_block.Goals as goal

pub from_fn-requires : goal.from_fn-requires
from_fn-requires c =
    let many = counted c.args.self.now.message.now in (
      omega arith,
      serves_by _ (λ xs q. (q.0.now ≡ c.args.self.now) × (q.1.now ≡ c.args.i)) (λ xs q x v e r. search rules) _ _ _ _ (refl, refl) (λ xs t q x u y st e.
          let same = e.0 in
          let at = e.1 in
          let low : x < 64 = omega (arith, st.0, st.1) in
          search rules),
    )

pub returns : goal.returns
returns c =
    let i = c.args.i in
    let message = c.args.self.now.message.now in
    let P = padded message in
    let items = c.from_fn.ensures.items in
    let all : 64 * i + 64 ≤ length P = omega (arith, padded_whole message) in
    part_read c.from_fn.result P (64 * i) items.long all
    (λ q h.
    let from_none : 0 + q ≡ q = omega arith in
    subst (λ k. get_or c.from_fn.result k 0 ≡ get_or P (64 * i + k) 0) from_none
    (made _ (λ f. (f.0.now ≡ c.args.self.now) × (f.1.now ≡ i)) (λ k. get_or P (64 * i + k) 0) (λ k y f v e r. search rules) _ c.from_fn.result 0 64 q (refl, refl) items.each (omega arith)))
