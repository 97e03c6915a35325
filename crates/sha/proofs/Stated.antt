-- The message schedules and the padding are what the standard states. Assumes nothing.
use Rattle.sha.specs.Known.{Stated}
use Rattle.sha.proofs.Padding.{gap_fits, gap_least, gap_last, pad_is, pad_whole}
use Rattle.sha.proofs.Standard1.{first1, rest1}
use Rattle.sha.proofs.Standard256.{first256, rest256}

-- all that is stated
pub stated : Stated
stated = record { first1 = first1; rest1 = rest1; first256 = first256; rest256 = rest256; gap_fits = gap_fits; gap_least = gap_least; gap_bytes = gap_last; whole = pad_whole; padding = pad_is }
