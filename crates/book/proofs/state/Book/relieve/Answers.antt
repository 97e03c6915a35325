use Rattle.std.proofs.Common.{◌≡◌, refl}
use Rattle.std.proofs.lemmas.Result.{err_from_is_err_and}
use Rattle.faults.specs.declared.grounds.BookFault.TheVariants.{NoDelay}
use Rattle.ledger.specs.Told.{tells}
use Rattle.ledger.proofs.Granted.{relieve_refused}
use Rattle.book.proofs.Done.{refuses, relieves_so, never_refused}
use Rattle.book.proofs.state.Book.relieve.Goals as goal

pub returns-in_err-number : goal.returns-in_err-number
unfolding tells
returns-in_err-number g c =
    let p = err_from_is_err_and c.from_residual.result c.from_residual.ensures.1 in
    let none_left = c.in_err-number.ensures.ok_part in
    let none_picked = rw none_left at c.longest.ensures in
    let fault = rw none_left at c.in_err-number.ensures.value in
    let told_so : c.in_err-number.field-0.0 ≡ NoDelay = cc fault in
    rw (p.1, p.2, told_so) (record { does = refuses _ _ _ _ _ _ (relieve_refused _ _ none_picked.0) refl refl; picks = (refl, none_picked.1) })

pub returns-in_err-hour : goal.returns-in_err-hour
returns-in_err-hour g c =
    let picked = rw c.in_ok-number.ensures.ok_part at c.longest.ensures in
    absurd (never_refused g.C.Cipher.meaning c.args.self.now _ _ _ picked.0 picked.1 picked.2.1 _ c.in_err-hour.ensures)

pub returns : goal.returns
unfolding tells
returns g c =
    let picked = rw c.in_ok-number.ensures.ok_part at c.longest.ensures in
    record {
      does = relieves_so g.C.Cipher.meaning c.args.self.now _ _ _ picked.0 picked.1 picked.2.1 _ c.in_ok-hour.ensures;
      picks = picked.2;
    }
