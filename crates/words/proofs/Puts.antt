-- Bytes written one part behind the other. Assumes nothing.
use Rattle.std.proofs.Common.{◌≡◌, ℕ, ◌+◌, ◌≤◌, List, [], ◌++◌, length, take, drop, Ok, Err, Result, IsOk, refl, sym, ap, ◌∙◌, arith}
use Rattle.faults.specs.declared.grounds.BufferFault.{BufferFault}
use Rattle.words.specs.Buffer.{Fills}
use borrow.Rule.Slice.PartMut.{put_mid}
use Rattle.std.proofs.lemmas.List.{append_assoc, append-nil, take_at, drop_at, drop-drop, drop_all}

-- a part is written behind a front of a bytes, and what lies behind it stays
pub put_next : (front ys old out : List ℕ) (a k : ℕ) → length front ≡ a → out ≡ front ++ drop a old → put_mid a k out ys ≡ front ++ ys ++ drop (a + k) old
put_next front ys old out a k long is =
    let f : take a out ≡ front = ap (take a) is ∙ take_at front (drop a old) a long in
    let b : drop k (drop a out) ≡ drop (a + k) old = ap (λ (r : List ℕ). drop k (drop a r)) is ∙ ap (drop k) (drop_at front (drop a old) a long) ∙ drop-drop k a old in
    (λ i. f i ++ (ys ++ b i)) ∙ sym (append_assoc front ys (drop (a + k) old))

-- a part is written into the rest of a buffer behind a front of a bytes, and what lies behind it stays
pub put_rest : (front part old out rest written : List ℕ) (a n k : ℕ) → length front ≡ a → out ≡ front ++ drop a old → rest ≡ drop a out
    → written ≡ part ++ drop n rest → length out ≤ a + k → put_mid a k out written ≡ front ++ part ++ drop (a + n) old
put_rest front part old out rest written a n k long is tail w all =
    let f : take a out ≡ front = ap (take a) is ∙ take_at front (drop a old) a long in
    let r : rest ≡ drop a old = tail ∙ ap (drop a) is ∙ drop_at front (drop a old) a long in
    let v : written ≡ part ++ drop (a + n) old = w ∙ ap (λ (x : List ℕ). part ++ drop n x) r ∙ ap (λ (x : List ℕ). part ++ x) (drop-drop n a old) in
    let none : drop k (drop a out) ≡ [] = drop-drop k a out ∙ drop_all (a + k) out all in
    (λ i. f i ++ (v i ++ none i)) ∙ ap (λ (x : List ℕ). front ++ x) (append-nil (part ++ drop (a + n) old)) ∙ sym (append_assoc front part (drop (a + n) old))

-- an answer that there is room for is written
pub written : (bs old new : List ℕ) (r : Result ℕ BufferFault) → Fills bs old new r → length bs ≤ length old → IsOk r
written bs old new (Ok n) f h = refl
written bs old new (Err f) e h = absurd (omega arith)
