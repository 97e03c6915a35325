-- One call more. Assumes nothing.
use Rattle.std.proofs.Common.{◌≡◌, ℕ, ◌+◌, ◌<◌, List, [], ◌∷◌, ◌++◌, map, length, get_or, take, sym, refl, ap, ◌∙◌, subst}
use Rattle.std.proofs.Common.{Result}
use Rattle.faults.specs.declared.grounds.BookFault.{BookFault}
use Rattle.cipher.specs.Meaning.{Meaning}
use Rattle.ledger.specs.Ledgers.{Ledger, blank}
use Rattle.ledger.specs.Calls as calls
use Rattle.ledger.specs.Calls.{after, answer, after_all, answers}
use Rattle.book.specs.Told.{told, Does}
use Rattle.book.specs.declared.state.Book.{Book}
use Rattle.calls.specs.Runs.{asked, said, Ran}
use Rattle.calls.specs.declared.call.Call.{Call}
use Rattle.calls.specs.declared.call.Answer.{Answer}
use Rattle.std.proofs.lemmas.List.{map_push, take_more}

after_all_push : (m : Meaning) (cs : List calls.Call) (c : calls.Call) (l : Ledger) → after_all m (cs ++ c ∷ []) l ≡ after m c (after_all m cs l)
unfolding after_all
after_all_push m [] c l = refl
after_all_push m (d ∷ cs) c l = after_all_push m cs c (after m d l)

answers_push : (m : Meaning) (cs : List calls.Call) (c : calls.Call) (l : Ledger) → answers m (cs ++ c ∷ []) l ≡ answers m cs l ++ answer m c (after_all m cs l) ∷ []
unfolding after_all answers
answers_push m [] c l = refl
answers_push m (d ∷ cs) c l = ap (λ as'. answer m d l ∷ as') (answers_push m cs c (after m d l))

module _ {C : Type 0} (meaning : C → Meaning) (cipher : C) where
  -- the book as it begins, by its own cipher
  pub ran_none : (cs : List Call) (b : Book C) (as' : List (Result Answer BookFault)) → as' ≡ [] → b.cipher ≡ cipher → told (meaning cipher) b ≡ blank (meaning cipher) → Ran meaning b.cipher (take 0 cs) b as'
  unfolding after_all answers
  ran_none cs b as' e s t = record { same = refl; answers = ap (map said) e; ledger = rw s t }

  pub ran_more : (cs : List Call) (i : ℕ) (d : Call) (b new : Book C) (as' more : List (Result Answer BookFault)) (a : Result Answer BookFault) → i < length cs → Ran meaning cipher (take i cs) b as' → Does meaning (asked (get_or cs i d)) b new (said a) → more ≡ as' ++ a ∷ [] → Ran meaning cipher (take (i + 1) cs) new more
  ran_more cs i d b new as' more a h r did e =
      let m = meaning cipher in
      let c = get_or cs i d in
      let before = map asked (take i cs) in
      let p : map asked (take (i + 1) cs) ≡ before ++ asked c ∷ [] = ap (map asked) (take_more cs i d h) ∙ map_push asked (take i cs) c in
      let q = answers_push m before (asked c) (blank m) in
      let s = after_all_push m before (asked c) (blank m) in
      let t : map said more ≡ map said as' ++ said a ∷ [] = ap (map said) e ∙ map_push said as' a in
      let mm = ap meaning r.same in
      record { same = did.same ∙ r.same; answers = cc; ledger = cc }

-- a question leaves the book as it was; c is the call in the code's type
module _ {C : Type 0} (meaning : C → Meaning) (b : Book C) where
  pub asks : (c : Call) (call : calls.Call) (a : calls.Answer) → asked c ≡ call → ((l : Ledger) → after (meaning b.cipher) call l ≡ l) → a ≡ answer (meaning b.cipher) call (told (meaning b.cipher) b) → Does meaning (asked c) b b a
  asks c call a is still e =
      let P : calls.Call → Type 0 = λ k. Does meaning k b b a in
      subst P (sym is) (record { same = refl; answers = e; ledger = sym (still (told (meaning b.cipher) b)); kept = λ _. refl })
