-- The readings, by computing. Assumes nothing.
use Rattle.std.proofs.Common.{◌≡◌, ℕ, List, get_or, refl, ap, arith}
use Rattle.std.specs.Fmt.{digits}
use Rattle.timetable.specs.Hours.{opens_at, some_open, ever_open, seek, next}
use Rattle.order.specs.Orders.{apply, applied, opening}
use Rattle.sheet.specs.Reading.{sheet_fault}
use Rattle.sheet.specs.Sheets.{sheet}
use Rattle.order.specs.Orders.{key}
use Rattle.order_table.specs.Lines.{orders, line, marked, best}
use Rattle.turning.specs.Turned.{turned}
use Rattle.ledger.specs.Ledgers as ledger
use Rattle.ledger.specs.Ledgers.{blank, register, code, seal}
use Rattle.ledger.specs.Calls.{ground, change, reply, after, answer, answers}
use Rattle.loading.specs.Loaded.{entered, loaded}
use Rattle.words.specs.Hex.{hex}
use Rattle.bench_io.specs.Lines.{refusal_line, opening_line}
use Rattle.bench_full.specs.Lines.{last_digits, code_line, seal_line}
use Rattle.bench_full.specs.Bench.{over, outcome, bench}
use Rattle.hash.specs.Digests.{padded, cut, chain, digest}
use Rattle.book_readings.specs.Readings.{Readings}

unlike : ◌≡◌ {A = ℕ} 0x31800000 0x32800000 → ⊥
unlike e = omega arith

pub computed : Readings
unfolding padded cut chain digest digits opens_at some_open ever_open seek next apply applied opening sheet_fault refusal_line opening_line outcome bench key sheet orders line marked best turned blank register code seal ledger.opening ledger.sheet ground change reply after answer answers entered loaded hex last_digits code_line seal_line over
computed = record {
  run = refl;
  calls = refl;
  traced = record {
    stops = record { left = 0; x_left = refl; y_left = refl; differs = λ a. unlike (ap (λ (b : List ℕ). get_or b 2 0) a.1); agree = λ k h. absurd (omega arith) };
    step = refl;
  };
}
