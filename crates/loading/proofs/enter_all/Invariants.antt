use Rattle.std.proofs.Common.{◌≡◌, ◌++◌, map, length}
use Rattle.order.specs.Views.{view}
use Rattle.sheet.specs.Reading.{orders}
use Rattle.sheet.specs.Rest.{rest}
use Rattle.book.specs.Told.{told}
use Rattle.loading.specs.Loaded.{entered}
use Rattle.loading.proofs.enter_all.Given as goal

abbrev pub invariant-loop-order : goal.invariant-loop-order
invariant-loop-order g l =
    let m = g.C.Cipher.meaning l.initial.book.cipher in
    record {
      same : l.book.cipher ≡ l.initial.book.cipher;
      lines : told m l.book ≡ record { given = (told m l.initial.book).given; lines = entered (map view l.yielded) };
      walked : map view l.yielded ++ rest l.rest ≡ orders l.reader.sheet.bytes.now;
    }

abbrev pub decreases-loop-order : goal.decreases-loop-order
decreases-loop-order g l = length (rest l.rest)
