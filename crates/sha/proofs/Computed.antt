-- The standard's examples, and where its constants come from, by computing. Assumes nothing.
use Rattle.std.proofs.Common.{refl}
use Rattle.sha.specs.Standards.{f1, K1, K256s, gap, length64, pad, M, so_far, W, loop, H}
use Rattle.sha.specs.Sha.{next1, round1, block1, sha1, next256, round256, block256, sha256}
use Rattle.sha.specs.Known.{Known}

pub known : Known
unfolding f1 K1 K256s gap length64 pad M so_far W loop H next1 round1 block1 sha1 next256 round256 block256 sha256
known = record { none1 = refl; abc1 = refl; long1 = refl; none256 = refl; abc256 = refl; long256 = refl; cube_roots = refl; square_roots = refl }
