-- A buffer of which the front was written. Assumes nothing.
use Rattle.std.proofs.Common.{◌≡◌, ℕ, ◌≤◌, List, ◌++◌, length, take, drop, ◌∙◌, arith}
use Rattle.std.proofs.Common.{min, Ok, Err, Result, refl}
use Rattle.faults.specs.declared.grounds.BufferFault.{BufferFault}
use Rattle.words.specs.Buffer.{Fills}
use Rattle.cipher.specs.Meaning.{Meaning}
use Rattle.ledger.specs.Ledgers.{Ledger}
use Rattle.ledger.specs.Calls.{Call, answer}
use Rattle.ledger.proofs.Answering.{Asks, answers_bytes, answers_short}
use Rattle.calls.specs.Runs.{handed}
use Rattle.std.proofs.lemmas.List.{length-append, length-drop, length-take-le}

pub whole : (new old : List ℕ) (end : ℕ) → length new ≡ length (take end old) → end ≤ length old → length (new ++ drop end old) ≡ length old
whole new old end e h = length-append new (drop end old) ∙ omega (arith, length-drop end old, length-take-le end old h)

-- a question whose bytes filled the room, or were too many for it, is answered
pub answers_room : (m : Meaning) (call : Call) (l : Ledger) (room : ℕ) (bs : List ℕ) → Asks m call l room bs → (old new behind : List ℕ) (back : Result ℕ BufferFault) → length old ≡ min room 357 → Fills bs old new back
    → handed back (new ++ behind) ≡ answer m call l
answers_room m call l room bs a old new behind (Ok n) long f = answers_bytes m call l room bs a old new (min room 357) refl long n behind f
answers_room m call l room bs a old new behind (Err fault) long f = answers_short m call l room bs a old new (min room 357) refl long fault f
