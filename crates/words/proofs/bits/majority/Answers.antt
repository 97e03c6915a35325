use Rattle.words.proofs.Bitwise.{vote}
use Rattle.words.proofs.bits.majority.Goals as goal

pub returns : goal.returns
returns c = vote 32 c.args.b c.args.c c.args.d c.ranges.b.fits c.ranges.c.fits c.ranges.d.fits
