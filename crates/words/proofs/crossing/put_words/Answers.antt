use Rattle.std.proofs.Common.{refl, ◌∙◌, arith}
use Rattle.words.proofs.Crossed.{length_bytes, written_more}
use Rattle.words.proofs.crossing.put_words.Goals as goal

pub returns-then-out-n : goal.returns-then-out-n
returns-then-out-n c = (refl, omega (arith, length_bytes c.args.words.now), refl)

pub loop-i-preserved : goal.loop-i-preserved
loop-i-preserved c =
    written_more c.args.words.now c.loop-i.out c.args.out.now c.copy_from_slice.new.self c.loop-i.i (omega arith) (omega arith) c.loop-i.invariant
    (c.copy_from_slice.ensures.after ∙ c.to_be_bytes.ensures)
