-- The hash over each of the two ciphers is the standard's, of every message of bytes. Assumes nothing.
use Rattle.std.specs.Prelude.{◌≡◌, ℕ, ◌^◌, List}
use Rattle.words.specs.Words.{Below}
use Rattle.hash.specs.Digests.{digest}
use Rattle.shacal1.specs.Shacal1.{shacal1}
use Rattle.shacal2.specs.Shacal2.{shacal2}
use Rattle.sha.specs.Sha.{sha1, sha256}

abbrev pub Sha1OverShacal1 : Type 0
Sha1OverShacal1 = (msg : List ℕ) → Below (2 ^ 8) msg → digest shacal1 msg ≡ sha1 msg

abbrev pub Sha256OverShacal2 : Type 0
Sha256OverShacal2 = (msg : List ℕ) → Below (2 ^ 8) msg → digest shacal2 msg ≡ sha256 msg
