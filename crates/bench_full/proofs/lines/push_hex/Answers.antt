use Rattle.std.proofs.Common.{length, ap, arith, length-append}
use Rattle.bench_full.proofs.Texts.{hex_none, hex_more}
use Rattle.bench_full.proofs.lines.push_hex.Goals as goal

pub loop-b-init : goal.loop-b-init
loop-b-init c = record { after = hex_none _; long = omega arith }

pub loop-b-preserved : goal.loop-b-preserved
loop-b-preserved c = record {
  after = hex_more c.args.bytes.now c.hex_digits.result _ _ _ c.loop-b.b-index c.loop-b-test.true c.hex_digits.ensures c.loop-b.invariant.after c.put.ensures;
  long = omega (arith, ap length c.hex_digits.ensures, ap length c.put.ensures, length-append c.loop-b.line c.hex_digits.result);
}
