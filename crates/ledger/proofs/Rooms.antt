-- Buffers in which every answer has room. Assumes nothing.
use Rattle.std.proofs.Common.{◌≡◌, ℕ, ◌≤◌, List, length, replicate, Result, IsOk, arith}
use Rattle.faults.specs.declared.grounds.BufferFault.{BufferFault}
use Rattle.words.specs.Words.{bytes}
use Rattle.words.specs.Buffer.{Fills}
use Rattle.words.proofs.Crossed.{length_bytes}
use Rattle.words.proofs.Puts.{written}
use Rattle.cipher.specs.Meaning.{Meaning, Lawful}
use Rattle.ledger.specs.Ledgers.{Ledger, Sound, sheet}
use Rattle.ledger.proofs.Answering.{sheet_most}

-- a register and a seal are at most eight words
pub words_room : (m : Meaning) → Lawful m → (ws new : List ℕ) (r : Result ℕ BufferFault) → length ws ≡ m.width → Fills (bytes ws) (replicate 32 0) new r → IsOk r
words_room m law ws new r wide fills =
    let room : length (bytes ws) ≤ 32 = omega (arith, law.most, wide, length_bytes ws) in
    written (bytes ws) (replicate 32 0) new r fills room

-- and a sheet 357 bytes
pub sheet_room : (m : Meaning) (l : Ledger) (new : List ℕ) (r : Result ℕ BufferFault) → Sound m l → Fills (sheet l) (replicate 357 0) new r → IsOk r
sheet_room m l new r sound fills = written (sheet l) (replicate 357 0) new r fills (sheet_most m l sound)
