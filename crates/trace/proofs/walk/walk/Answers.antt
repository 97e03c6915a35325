use Rattle.std.proofs.Common.{◌≡◌, ◌+◌, ◌-◌, ◌^◌, None, Some, IsSome, sym, refl, ap, ◌∙◌, arith, rules}
use Rattle.std.proofs.lemmas.Slice.Eq.{slice_eq-Decides}
use Rattle.std.proofs.lemmas.Bool.Decides.{Decides-eqb}
use Rattle.words.proofs.Bytes.{below_from}
use Rattle.hash.specs.Digests.{block_count, digest}
use Rattle.trace.specs.Walk.{Last}
use Rattle.trace.proofs.Cuts.{length_blocks}
use Rattle.trace.proofs.Walked.{unlike, alike, never, found, stops_once, digest_like, last_like}
use Rattle.trace.proofs.walk.walk.Goals as goal

pub returns-then-ne : goal.returns-then-ne
returns-then-ne g c =
    let m = g.C.Cipher.meaning c.args.cipher.now in
    let end = c.in_step-last.ensures in
    let dx : c.words.result.now ≡ digest m c.args.x.message.now = digest_like m _ _ _ (c.words.ensures.are ∙ end.x_digest) (ap g.C.Cipher.meaning c.past-one.ensures.cipher) c.past-one.ensures.message in
    let dy : c.words-2.result.now ≡ digest m c.args.y.message.now = digest_like m _ _ _ (c.words-2.ensures.are ∙ end.y_digest) (ap g.C.Cipher.meaning c.past-other.ensures.cipher) c.past-other.ensures.message in
    let met = slice_eq-Decides Decides-eqb c.words.result.now c.words-2.result.now _ refl in
    ((c.args.x.within, c.args.y.within), c.requires, λ e. unlike _ _ met c.ne.ensures c.if-ne.true (dx ∙ e ∙ sym dy))

pub unwrap-k-requires : goal.unwrap-k-requires
unwrap-k-requires g c =
    let m = g.C.Cipher.meaning c.args.cipher.now in
    let x = c.args.x.message.now in
    let y = c.args.y.message.now in
    let i = c.saturating_sub-i.result in
    let j = c.saturating_sub-j.result in
    let cx = length_blocks x in
    let cy = length_blocks y in
    let count : c.block_count-m.result - i ≡ block_count x - i = omega arith in
    let last : Last m x y i j (block_count x - i) c.in_step-last.result =
    last_like m _ x y _ _ i j (block_count x - i) _ _ _ _ (ap g.C.Cipher.meaning c.past-one.ensures.cipher) c.past-one.ensures.message c.past-other.ensures.message c.past-one.ensures.at c.past-other.ensures.at count
    c.in_step-last.ensures.last in
    elim c.in_step-last.result as (λ r. Last m x y i j (block_count x - i) r → IsSome r) [
      | Some k ↦ λ l. refl
      | None ↦ λ l. absurd (c.requires (never m x y i j (block_count x - i) (omega arith) (omega arith) (below_from (2 ^ 8) x c.args.x.bytes) (below_from (2 ^ 8) y c.args.y.bytes) (c.args.x.within, c.args.y.within) (omega arith) (omega arith) l))
    ] last

pub returns : goal.returns
returns g c =
    let m = g.C.Cipher.meaning c.args.cipher.now in
    let x = c.args.x.message.now in
    let y = c.args.y.message.now in
    let i = c.saturating_sub-i.result in
    let j = c.saturating_sub-j.result in
    let k = c.unwrap-k.result in
    let cx = length_blocks x in
    let cy = length_blocks y in
    let end = c.in_step-last.ensures in
    let dx : c.words.result.now ≡ digest m c.args.x.message.now = digest_like m _ _ _ (c.words.ensures.are ∙ end.x_digest) (ap g.C.Cipher.meaning c.past-one.ensures.cipher) c.past-one.ensures.message in
    let dy : c.words-2.result.now ≡ digest m c.args.y.message.now = digest_like m _ _ _ (c.words-2.ensures.are ∙ end.y_digest) (ap g.C.Cipher.meaning c.past-other.ensures.cipher) c.past-other.ensures.message in
    let met = slice_eq-Decides Decides-eqb c.words.result.now c.words-2.result.now _ refl in
    let one : digest m x ≡ digest m y = sym dx ∙ alike _ _ met c.ne.ensures c.if-ne.false ∙ dy in
    let count : c.block_count-m.result - i ≡ block_count x - i = omega arith in
    let is : c.in_step-last.result ≡ Some k = search rules in
    let last : Last m x y i j (block_count x - i) (Some k) =
    last_like m _ x y _ _ i j (block_count x - i) _ _ _ (Some k) (ap g.C.Cipher.meaning c.past-one.ensures.cipher) c.past-one.ensures.message c.past-other.ensures.message c.past-one.ensures.at c.past-other.ensures.at count
    (rw is at c.in_step-last.ensures.last) in
    let hit = found m x y i j (block_count x - i) (omega arith) (omega arith) k one last in
    record { within = (c.args.x.within, c.args.y.within); unlike = c.requires; shared = one; collides = hit; only = stops_once m x y (i + k) (j + k) hit.stops }
