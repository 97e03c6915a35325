use Rattle.std.proofs.Common.{◌≡◌, ℕ, ◌-◌, ◌*◌, List, [], ◌∷◌, ◌++◌, IfOk, string_bytes, take, replicate, refl, subst, arith}
use Rattle.words.specs.Blocks.{held}
use Rattle.words.specs.Words.{bytes}
use Rattle.words.specs.Hex.{hex}
use Rattle.digest_text.proofs.Lined.{sliced}
use Rattle.digest_text.proofs.line.Goals as goal

pub returns : goal.returns
returns c =
    let n = c.count-n.result in
    let is = c.count-n.ensures in
    let words = held c.args.digest.now in
    let all : take (4 * n - 0) c.put_words.new.out ≡ bytes words =
    sliced words c.eight-words.result c.put_words.new.out (replicate 32 0) (n - 0) (4 * n - 0) c.put_words.result c.eight-words.ensures (omega (arith, is.0)) (omega (arith, is.1)) (omega arith) refl c.put_words.ensures in
    subst (λ (bs : List ℕ). IfOk c.hex_line.result (λ t. string_bytes t ≡ hex bs ++ 10 ∷ [])) all c.hex_line.ensures
