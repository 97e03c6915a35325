-- Lists of calls in the code's types, and what a book that made them is. Assumes nothing.
use Rattle.std.specs.Prelude.{◌≡◌, ℕ, min, List, ◌++◌, length, map, take, Ok, Err, Result}
use Rattle.faults.specs.declared.grounds.BufferFault.{BufferFault}
use Rattle.faults.specs.declared.grounds.BookFault.{BookFault}
use Rattle.faults.specs.declared.grounds.BookFault.TheVariants.{Buffer}
use Rattle.cipher.specs.Meaning.{Meaning}
use Rattle.ledger.specs.Ledgers.{blank}
use Rattle.ledger.specs.Calls as calls
use Rattle.ledger.specs.Calls.{set_up, enter, undo, relieve, ask_opening, ask_register, ask_code, ask_sheet, ask_seal, done, number, hour, figure, written, refused, after_all}
use Rattle.book.specs.Told.{told}
use Rattle.book.specs.declared.state.Book.{Book}
use Rattle.calls.specs.declared.call.Call.{Call}
use Rattle.calls.specs.declared.call.Call.TheVariants.{SetUp, Enter, Undo, Relieve, Opening, Register, Code, Sheet, Seal}
use Rattle.calls.specs.declared.call.Written.{Written}
use Rattle.calls.specs.declared.call.Answer.{Answer}
use Rattle.calls.specs.declared.call.Answer.TheVariants as answer

abbrev pub written_bytes : Written → List ℕ
written_bytes w = take w.count w.bytes

abbrev pub asked : Call → calls.Call
asked (SetUp name base table start) = set_up (record { name = name; base = base; table = table; start = start.now })
asked (Enter c a) = enter c a
asked (Undo n) = undo n
asked Relieve = relieve
asked Opening = ask_opening
asked (Register room) = ask_register room
asked Code = ask_code
asked (Sheet room) = ask_sheet room
asked (Seal room) = ask_seal room

abbrev pub granted : Answer → calls.Answer
granted answer.Done = done
granted (answer.Number n h) = number n h
granted (answer.Hour h) = hour h
granted (answer.Code n) = figure n
granted (answer.Bytes w) = written (written_bytes w)

abbrev pub said : Result Answer BookFault → calls.Answer
said (Ok a) = granted a
said (Err f) = refused f

-- what a question handed back, with the bytes of the room behind it
abbrev pub handed : Result ℕ BufferFault → List ℕ → calls.Answer
handed (Ok n) room = written (take n room)
handed (Err f) room = refused (Buffer f)

-- a question that was asked in a room of at most 357 bytes: what it handed back is the answer
pub record Wrote (Returns : List ℕ → Result ℕ BufferFault → List ℕ → Type 0) (room : ℕ) (a : Result Answer BookFault) : Type 0 where
  pub old : List ℕ
  pub new : List ℕ
  pub behind : List ℕ
  pub back : Result ℕ BufferFault
  pub returned : Returns old back new
  pub long : length old ≡ min room 357
  pub answer : said a ≡ handed back (new ++ behind)

-- a book with this cipher that began blank and made the calls: the answers, and with the ledger the five that the
-- book shows, are what the ledger gives for the list
pub record Ran {C : Type 0} (meaning : C → Meaning) (cipher : C) (cs : List Call) (b : Book C) (as' : List (Result Answer BookFault)) : Type 0 where
  pub same : b.cipher ≡ cipher
  pub answers : map said as' ≡ calls.answers (meaning cipher) (map asked cs) (blank (meaning cipher))
  pub ledger : told (meaning cipher) b ≡ after_all (meaning cipher) (map asked cs) (blank (meaning cipher))
