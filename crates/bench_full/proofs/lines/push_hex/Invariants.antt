use Rattle.std.proofs.Common.{◌≡◌, ◌+◌, ◌*◌, ◌++◌, length, take}
use Rattle.words.specs.Hex.{hex}
use Rattle.bench_full.proofs.lines.push_hex.Given as goal

abbrev pub invariant-loop-b : goal.invariant-loop-b
invariant-loop-b l =
    record {
      after : l.line ≡ l.initial.line ++ hex (take l.b-index l.bytes);
      long : length l.line ≡ length l.initial.line + 2 * l.b-index;
    }
