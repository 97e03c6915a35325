-- The bytes of a digest's words, as they stand in front of a buffer. Assumes nothing.
use Rattle.std.proofs.Common.{◌≡◌, ℕ, ◌-◌, ◌*◌, ◌≤◌, List, ◌++◌, length, take, drop, replicate, Ok, Err, Result, sym, ap, ◌∙◌, arith}
use Rattle.std.proofs.lemmas.List.{take_at}
use Rattle.faults.specs.declared.grounds.BufferFault.{BufferFault}
use Rattle.words.specs.Words.{bytes}
use Rattle.words.specs.Buffer.{Fills}
use Rattle.words.proofs.Crossed.{length_bytes}

pub sliced : (ws eight out old : List ℕ) (n j : ℕ) (r : Result ℕ BufferFault) → eight ≡ ws ++ replicate (8 - length ws) 0 → n ≡ length ws → n ≤ 8 → j ≡ 4 * n → length old ≡ 32
    → Fills (bytes (take n eight)) old out r → take j out ≡ bytes ws
sliced ws eight out old n j (Ok k) e is few four long h =
    let front : take n eight ≡ ws = ap (take n) e ∙ take_at ws (replicate (8 - length ws) 0) n (sym is) in
    let same : bytes (take n eight) ≡ bytes ws = ap bytes front in
    ap (take j) (h.2 ∙ ap (λ (b : List ℕ). b ++ drop k old) same) ∙ take_at (bytes ws) (drop k old) j (omega (arith, length_bytes ws))
sliced ws eight out old n j (Err f) e is few four long h =
    let front : take n eight ≡ ws = ap (take n) e ∙ take_at ws (replicate (8 - length ws) 0) n (sym is) in
    absurd (omega (arith, h.1, length_bytes (take n eight), ap length front))
