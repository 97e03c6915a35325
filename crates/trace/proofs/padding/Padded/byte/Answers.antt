use Rattle.std.proofs.Common.{◌≡◌, ◌-◌, ◌*◌, get_or, ◌∙◌, arith}
use Rattle.hash.specs.Digests.{block_count}
use Rattle.trace.proofs.Bytes.{byte_in, byte_mark, byte_zero, byte_length}
use Rattle.trace.proofs.padding.Padded.byte.Goals as goal

pub returns-then-at-n : goal.returns-then-at-n
returns-then-at-n c = byte_in c.args.self.now.message.now c.args.at c.args.self.now.within (omega arith)

pub returns-then-at-n-2 : goal.returns-then-at-n-2
returns-then-at-n-2 c = byte_mark c.args.self.now.message.now c.args.at c.args.self.now.within (omega arith)

pub returns-then-at-end : goal.returns-then-at-end
returns-then-at-end c = byte_zero c.args.self.now.message.now c.args.at c.args.self.now.within (omega arith) (omega (arith, c.block_count.ensures))

pub returns-else-at-end : goal.returns-else-at-end
returns-else-at-end c =
    let msg = c.args.self.now.message.now in
    let at = c.args.at in
    let end : 64 * c.block_count.result - 4 ≡ 64 * block_count msg - 4 = omega (arith, c.block_count.ensures) in
    (λ i. get_or (c.to_be_bytes.ensures i) (at - end i) 0) ∙ byte_length msg at c.args.self.now.within (omega (arith, c.block_count.ensures))
