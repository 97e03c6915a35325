-- The number, the layer and the place of every fault. Assumes nothing.
use Rattle.std.specs.Prelude.{List, ℕ, codes}
use Rattle.faults.specs.declared.layer.Layer.{Layer}
use Rattle.faults.specs.declared.layer.Layer.TheVariants as layer
use Rattle.faults.specs.declared.layer.Refusal.{Refusal}
use Rattle.faults.specs.declared.grounds.CipherFault.{CipherFault}
use Rattle.faults.specs.declared.grounds.CipherFault.TheVariants.{Key, Block}
use Rattle.faults.specs.declared.grounds.BufferFault.{BufferFault}
use Rattle.faults.specs.declared.grounds.BufferFault.TheVariants as buffer
use Rattle.faults.specs.declared.grounds.TimetableFault.{TimetableFault}
use Rattle.faults.specs.declared.grounds.TimetableFault.TheVariants.{Base, Closed}
use Rattle.faults.specs.declared.grounds.OrderFault.{OrderFault}
use Rattle.faults.specs.declared.grounds.OrderFault.TheVariants.{Letter, Amount}
use Rattle.faults.specs.declared.grounds.SheetFault.{SheetFault}
use Rattle.faults.specs.declared.grounds.SheetFault.TheVariants.{Short, Sizes, Trailing, Timetable, Order}
use Rattle.faults.specs.declared.grounds.MessageFault.{MessageFault}
use Rattle.faults.specs.declared.grounds.MessageFault.TheVariants.{Limit}
use Rattle.faults.specs.declared.grounds.TraceFault.{TraceFault}
use Rattle.faults.specs.declared.grounds.TraceFault.TheVariants.{Long, Equal, Differ}
use Rattle.faults.specs.declared.grounds.BookFault.{BookFault}
use Rattle.faults.specs.declared.grounds.BookFault.TheVariants as book
use Rattle.faults.specs.declared.grounds.BenchFault.{BenchFault}
use Rattle.faults.specs.declared.grounds.BenchFault.TheVariants.{Mark, Cipher, Sheet}

-- a layer's name, as a refusal prints it
abbrev pub label : Layer → List ℕ
label layer.Cipher = codes "cipher"
label layer.Buffer = codes "buffer"
label layer.Timetable = codes "timetable"
label layer.Order = codes "order"
label layer.Sheet = codes "sheet"
label layer.Bench = codes "bench"
label layer.Message = codes "message"
label layer.Trace = codes "trace"
label layer.Book = codes "book"

abbrev refused : ℕ → Layer → ℕ → Refusal
refused n l p = record { number = n; layer = l; place = p }

abbrev pub cipher_refusal : CipherFault → Refusal
cipher_refusal Key = refused 11 layer.Cipher 0
cipher_refusal Block = refused 12 layer.Cipher 0

abbrev pub buffer_refusal : BufferFault → Refusal
buffer_refusal buffer.Short = refused 13 layer.Buffer 0

abbrev pub timetable_refusal : TimetableFault → Refusal
timetable_refusal (Base at) = refused 14 layer.Timetable at
timetable_refusal (Closed at) = refused 15 layer.Timetable at

abbrev pub order_refusal : OrderFault → Refusal
order_refusal (Letter at) = refused 16 layer.Order at
order_refusal (Amount at) = refused 17 layer.Order at

abbrev pub sheet_refusal : SheetFault → Refusal
sheet_refusal (Short given) = refused 18 layer.Sheet given
sheet_refusal Sizes = refused 19 layer.Sheet 0
sheet_refusal (Trailing total) = refused 20 layer.Sheet total
sheet_refusal (Timetable f) = timetable_refusal f
sheet_refusal (Order f) = order_refusal f

abbrev pub bench_refusal : BenchFault → Refusal
bench_refusal Mark = refused 24 layer.Bench 0
bench_refusal (Cipher f) = cipher_refusal f
bench_refusal (Sheet f) = sheet_refusal f

abbrev pub message_refusal : MessageFault → Refusal
message_refusal Limit = refused 31 layer.Message 0

abbrev pub trace_refusal : TraceFault → Refusal
trace_refusal Equal = refused 21 layer.Trace 0
trace_refusal Differ = refused 22 layer.Trace 0
trace_refusal Long = refused 23 layer.Trace 0

abbrev pub book_refusal : BookFault → Refusal
book_refusal (book.Cipher f) = cipher_refusal f
book_refusal (book.Buffer f) = buffer_refusal f
book_refusal (book.Timetable f) = timetable_refusal f
book_refusal (book.Order f) = order_refusal f
book_refusal book.Begun = refused 32 layer.Book 0
book_refusal book.Full = refused 33 layer.Book 0
book_refusal book.Absent = refused 34 layer.Book 0
book_refusal book.Undone = refused 35 layer.Book 0
book_refusal book.NoDelay = refused 36 layer.Book 0
