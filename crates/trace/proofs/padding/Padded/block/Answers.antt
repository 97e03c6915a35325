use Rattle.std.proofs.Common.{◌≡◌, ℕ, ◌+◌, ◌-◌, ◌*◌, take, drop, replicate, refl, ap, ◌∙◌, arith}
use Rattle.trace.proofs.Bytes.{block_read, part_in}
use Rattle.trace.proofs.padding.Padded.block.Goals as goal

pub returns-then-from-self : goal.returns-then-from-self
returns-then-from-self c =
    let msg = c.args.self.now.message.now in
    let o = 64 * c.args.i in
    let size : o + 64 - o ≡ 64 = omega arith in
    block_read msg (take (o + 64 - o) (drop o msg)) _ (replicate 16 0) c.args.i c.requires refl (ap (λ (k : ℕ). take k (drop o msg)) size ∙ part_in msg o (omega arith)) c.read_words.ensures.out

pub returns-else-from-self : goal.returns-else-from-self
returns-else-from-self c =
    block_read c.args.self.now.message.now _ _ (replicate 16 0) c.args.i c.requires refl c.tail_block.ensures c.read_words-else-from-self.ensures.out
