use Rattle.std.proofs.Common.{◌≡◌, [], ◌∷◌, ◌∙◌, rules}
use Rattle.hex.specs.Hex.{encode_lower}
use Rattle.words.specs.Hex.{hex}
use Rattle.words.proofs.Hexed.{encoded}
use Rattle.words.proofs.digits.hex_digits.Goals as goal

pub returns : goal.returns
unfolding hex
returns c =
    let written : c.encode_to_slice.new.output ≡ encode_lower (c.args.byte ∷ []) = search rules in
    written ∙ encoded (c.args.byte ∷ []) (c.ranges.byte.fits, tt)
