-- Worked readings of the book, the trace and the bench over a book. Assumes nothing.
use Rattle.std.specs.Prelude.{◌≡◌, List, [], ◌∷◌, replicate, codes}
use Rattle.order.specs.Orders.{delay}
use Rattle.faults.specs.declared.grounds.BookFault.TheVariants.{Buffer, Order as ByOrder, Begun, Absent, Undone, NoDelay}
use Rattle.faults.specs.declared.grounds.BufferFault.TheVariants.{Short}
use Rattle.faults.specs.declared.grounds.OrderFault.TheVariants.{Letter, Amount}
use Rattle.ledger.specs.Ledgers.{Given, blank}
use Rattle.ledger.specs.Calls.{Call, answers, set_up, enter, undo, relieve, ask_opening, ask_register, ask_code, ask_seal, done, number, hour, figure, written, refused}
use Rattle.trace.specs.Walk.{Collides}
use Rattle.bench_full.specs.Bench.{bench}
use Rattle.readings.specs.Readings.{office, input}
use Rattle.practice.specs.Practice.{practice}

-- a lock as the bench loads it
abbrev safe : Given
safe = record { name = codes "SAFE0001"; base = 8; table = office; start = replicate 2 0 }

-- a list with undos out of turn, reliefs, and most refusals of a book
abbrev list : List Call
list =
    set_up safe ∷ ask_opening ∷ enter delay 100 ∷ enter delay 10 ∷ undo 1 ∷ ask_code ∷ undo 1 ∷ undo 3 ∷ undo 0 ∷ enter delay 721 ∷ enter 0x45 1 ∷ ask_seal 7 ∷ ask_seal 8 ∷ ask_register 8
    ∷ enter delay 10 ∷ enter delay 3 ∷ relieve ∷ relieve ∷ relieve ∷ relieve ∷ set_up safe ∷ []

pub record Readings : Type 0 where
  pub run : bench (input 10) ≡ codes "opening 32\ncode 850690\nseal 0001002c0000000c\n"
  -- what a book answers to the list
  pub calls : answers practice list (blank practice)
      ≡ done ∷ hour 8 ∷ number 1 108 ∷ number 2 176 ∷ hour 32 ∷ figure 850690 ∷ refused Undone ∷ refused Absent ∷ refused Absent ∷ refused (ByOrder (Amount 0)) ∷ refused (ByOrder (Letter 0)) ∷ refused (Buffer Short)
      ∷ written (0 ∷ 1 ∷ 0 ∷ 0x2c ∷ 0 ∷ 0 ∷ 0 ∷ 0x0c ∷ []) ∷ written (0x44 ∷ 0 ∷ 0 ∷ 0 ∷ 0 ∷ 0 ∷ 0 ∷ 10 ∷ [])
      ∷ number 3 56 ∷ number 4 59 ∷ number 3 35 ∷ number 2 11 ∷ number 4 8 ∷ refused NoDelay ∷ refused Begun ∷ []
  -- two messages with one digest, and where they collide
  pub traced : Collides practice (codes "abcdefgh1") (codes "abcdefgh2") 0 0
