use Rattle.std.proofs.Common.{ℕ, [], ◌∷◌, ◌++◌, List, ap, ◌∙◌, rules, tests}
use lib.Utf8
use Rattle.hex.specs.Hex.{encode_lower}
use Rattle.words.proofs.Bytes.{below_from}
use Rattle.words.proofs.Hexed.{encoded}
use Rattle.digest_text.proofs.hex_line.Goals as goal

pub returns : goal.returns
unfolding lib.Utf8.encode
returns c =
    let bytes = c.args.bytes.now in
    c.in_ok-push.ensures.bytes ∙ ap (λ (bs : List ℕ). bs ++ 10 ∷ []) (c.in_ok-line.ensures ∙ ap encode_lower (search (rules, tests)) ∙ encoded bytes (below_from 256 bytes (λ k. (c.type_inv.bytes k).fits)))
