use Rattle.std.proofs.Common.{◌≡◌, ◌+◌, ◌*◌, ◌++◌, length, drop, ap, ◌∙◌}
use Rattle.words.specs.Words.{word_bytes}
use Rattle.sheet.specs.Sheets.{half_bytes}
use Rattle.sheet.proofs.Puts.{put_five}
use Rattle.sheet.proofs.writing.put_head.Goals as goal

pub returns : goal.returns
returns c =
    let count : c.copy_from_slice.new.self ≡ half_bytes c.args.count = c.copy_from_slice.ensures.after ∙ c.to_be_bytes.ensures in
    let total : c.copy_from_slice-2.new.self ≡ half_bytes (37 + 5 * c.args.count) = c.copy_from_slice-2.ensures.after ∙ c.to_be_bytes-2.ensures in
    let base : c.copy_from_slice-3.new.self ≡ word_bytes c.args.base = c.copy_from_slice-3.ensures.after ∙ c.to_be_bytes-3.ensures in
    let name : c.copy_from_slice-4.new.self ≡ c.args.name.now = c.copy_from_slice-4.ensures.after in
    let table : c.copy_from_slice-5.new.self ≡ c.args.table.now = c.copy_from_slice-5.ensures.after in
    put_five c.args.out.now _ _ _ _ _ (ap length count) (ap length total) (ap length base) (ap length name ∙ c.told-name)
    ∙ (λ i. count i ++ total i ++ base i ++ name i ++ table i ++ drop 37 c.args.out.now)
