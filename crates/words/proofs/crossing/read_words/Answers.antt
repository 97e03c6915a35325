use Rattle.std.proofs.Common.{◌≡◌, ◌*◌, ◌/◌, [], cond, length, get_or, sym, ap, ◌∙◌, arith, eq-eqb}
use Rattle.std.proofs.Common.{Ok, Err}
use Rattle.faults.specs.declared.grounds.CipherFault.TheVariants.{Block}
use Rattle.words.specs.Words.{words}
use Rattle.words.proofs.Crossed.{word_at, read_more, read_all}
use Rattle.words.proofs.crossing.read_words.Goals as goal

pub loop-i-preserved : goal.loop-i-preserved
loop-i-preserved c =
    let bs = c.args.bytes.now in
    let e : length bs ≡ 4 * length c.loop-i.out = omega arith in
    read_more bs c.loop-i.out c.loop-i.i c.from_be_bytes.result e (omega arith) c.loop-i.invariant
    (c.from_be_bytes.ensures ∙ sym (word_at (length bs / 4) c.loop-i.i bs (get_or c.as_chunks.result.0.now c.loop-i.i []) (omega arith) (omega arith) (ap (λ z. get_or z c.loop-i.i []) (sym c.as_chunks.ensures.front))))

pub returns : goal.returns
returns c =
    let bs = c.args.bytes.now in
    let e : length bs ≡ 4 * length c.loop-i.out = omega arith in
    let t = eq-eqb (length bs) (4 * length c.args.out.now) (omega arith) in
    record {
      answer = sym (ap (λ z. cond z (Ok tt) (Err Block)) t);
      out = read_all bs c.loop-i.out c.loop-i.i e (omega arith) c.loop-i.invariant ∙ sym (ap (λ z. cond z (words bs) c.args.out.now) t);
    }
