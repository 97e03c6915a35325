-- Worked readings of the definitions. Assumes nothing.
use Rattle.std.specs.Prelude.{◌≡◌, ℕ, ◌/◌, ◌%◌, List, [], ◌∷◌, ◌++◌, replicate, codes}
use Rattle.timetable.specs.Hours.{next}
use Rattle.order.specs.Orders.{Order, delay, not_before, apply, opening, key_bytes}
use Rattle.bench_run.specs.Bench.{bench}
use Rattle.practice.specs.Practice.{practice}
use Rattle.hash.specs.Digests.{block_count, digest}
use Rattle.shacal1.specs.Known as one
use Rattle.shacal2.specs.Known as two

-- open from 8:00 to 17:00 on five days
abbrev pub office : List ℕ
office = 0 ∷ 0xff ∷ 0x80 ∷ 0 ∷ 0xff ∷ 0x80 ∷ 0 ∷ 0xff ∷ 0x80 ∷ 0 ∷ 0xff ∷ 0x80 ∷ 0 ∷ 0xff ∷ 0x80 ∷ replicate 6 0

-- open in one hour of the week, hour 63
abbrev pub one_hour : List ℕ
one_hour = replicate 7 0 ++ 1 ∷ replicate 13 0

abbrev D : ℕ → Order
D a = record { letter = delay; amount = a }

abbrev N : ℕ → Order
N a = record { letter = not_before; amount = a }

-- the practice cipher's mark, a start register of zeros, and a sheet with one delay from base hour 8 in the office week
abbrev pub input : ℕ → List ℕ
input a = codes "P" ++ replicate 8 0 ++ 0 ∷ 1 ∷ 0 ∷ 42 ∷ 0 ∷ 0 ∷ 0 ∷ 8 ∷ codes "SAFE0001" ++ office ++ codes "D" ++ 0 ∷ 0 ∷ a / 256 ∷ a % 256 ∷ []

pub record Readings : Type 0 where
  pub same_day : next office 18 ≡ 32
  pub last_hour : next office 112 ≡ 112
  pub weekend : next office 113 ≡ 176
  pub base_open : opening office 8 [] ≡ 8
  pub one_delay : opening office 8 (D 100 ∷ []) ≡ 108
  pub two_delays : opening office 8 (D 100 ∷ D 10 ∷ []) ≡ 176
  pub first_undone : opening office 8 (D 10 ∷ []) ≡ 32
  pub passed : apply office 108 (N 104) ≡ 108
  pub ahead : apply office 108 (N 120) ≡ 176
  -- no bound on openings is smaller than the one that is proved
  pub bound_met : opening one_hour 1000000 (replicate 64 (D 720)) ≡ 1053927
  pub key_of : key_bytes (codes "SAFE0001") (D 10) ≡ 0x44 ∷ 0 ∷ 0 ∷ 0 ∷ 0 ∷ 0 ∷ 0 ∷ 10 ∷ codes "SAFE0001"
  pub run : bench (input 10) ≡ codes "opening 32\n"
  pub amount_over : bench (input 721) ≡ codes "refused 17 order 38\n"
  pub amount_zero : bench (input 0) ≡ codes "refused 17 order 38\n"
  pub no_input : bench [] ≡ codes "refused 24 bench 0\n"
  pub no_mark : bench (codes "Q") ≡ codes "refused 24 bench 0\n"
  pub no_register : bench (codes "P" ++ replicate 7 0) ≡ codes "refused 12 cipher 0\n"
  pub no_sheet : bench (codes "P" ++ replicate 44 0) ≡ codes "refused 18 sheet 36\n"
  -- schedules, first steps and the block of "abc" of the two SHACALs
  pub shacal1 : one.Known
  pub shacal2 : two.Known
  pub practice_adds : practice.enc (0xFFFFFFFF ∷ 5 ∷ replicate 14 9) practice.initial ≡ 0 ∷ 7 ∷ []
  pub practice_takes : practice.dec (2 ∷ 5 ∷ replicate 14 9) practice.initial ≡ 0xFFFFFFFF ∷ 0xFFFFFFFD ∷ []
  pub practice_empty : digest practice [] ≡ 0x80000002 ∷ 0x00000004 ∷ []
  pub practice_abc : digest practice (codes "abc") ≡ 0x61626382 ∷ 0x00000004 ∷ []
  pub one_block : block_count (replicate 55 7) ≡ 1
  pub two_blocks : block_count (replicate 56 7) ≡ 2
