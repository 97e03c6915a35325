use Rattle.words.proofs.Bitwise.{choice}
use Rattle.words.proofs.bits.choose.Goals as goal

pub returns : goal.returns
returns c = choice 32 c.args.b c.args.c c.args.d c.ranges.b.fits c.ranges.c.fits c.ranges.d.fits
