use Rattle.std.proofs.Common.{◌≡◌, ℕ, ◌^◌, Fits, w8, length, get_or, take, sym, refl, ap, ◌∙◌, arith, rules}
use Rattle.std.proofs.lemmas.List.{length-map}
use Rattle.std.proofs.lemmas.Result.{err_from_is_err_and}
use Rattle.words.proofs.Bytes.{below_from}
use Rattle.order_table.specs.Views.{view, lines_of}
use Rattle.turning.proofs.Turning.{name_from}
use Rattle.ledger.proofs.Granted.{start_refused, base_refused, table_refused, begun_refused, set_up_granted}
use Rattle.ledger.proofs.Changed.{sets_up, set_up_replies}
use Rattle.book.specs.Told.{told}
use Rattle.book.proofs.Kept.{put_keeps}
use Rattle.book.proofs.Done.{refuses, grants, told_lines}
use Rattle.book.proofs.state.Book.set_up.Goals as goal

pub returns-then-start-width : goal.returns-then-start-width
returns-then-start-width g c = refuses _ _ _ _ _ _ (start_refused _ _ _ (search rules)) (rw c.into.ensures) refl

pub returns-in_err-base_hour : goal.returns-in_err-base_hour
returns-in_err-base_hour g c =
    let p = err_from_is_err_and c.from_residual.result c.from_residual.ensures.1 in
    let over = c.in_err-base_hour.ensures in
    refuses _ _ _ _ _ _ (base_refused _ _ _ (search rules) over.1) (rw (p.1, p.2, over.0)) refl

pub returns-in_err-week : goal.returns-in_err-week
returns-in_err-week g c =
    let p = err_from_is_err_and c.from_residual-in_err-week.result c.from_residual-in_err-week.ensures.1 in
    let shut = c.in_err-week.ensures in
    refuses _ _ _ _ _ _ (table_refused _ _ _ (search rules) c.in_ok-base_hour.ensures.1 shut.1) (rw (p.1, p.2, shut.0)) refl

pub returns-then-lines-gt0 : goal.returns-then-lines-gt0
returns-then-lines-gt0 g c =
    let b = c.args.self.now in
    let m = g.C.Cipher.meaning b.cipher in
    let long : length c.lines.result.now ≡ length (told m b).lines = sym (length-map c.lines.result.now view) ∙ ap length (c.lines.ensures.value ∙ sym (told_lines m b)) in
    refuses _ _ _ _ _ _ (begun_refused _ _ _ (search rules) c.in_ok-base_hour.ensures.1 c.in_ok-week.ensures.1 (omega (arith, long))) refl refl

pub returns : goal.returns
returns g c =
    let b = c.args.self.now in
    let m = g.C.Cipher.meaning b.cipher in
    let wide : length c.args.start.now ≡ m.width = search rules in
    let s : take m.width c.put_front.new.register ≡ c.args.start.now = ap (λ n. take n c.put_front.new.register) (sym wide) ∙ c.put_front.ensures.front in
    let long : length c.lines.result.now ≡ length (told m b).lines = sym (length-map c.lines.result.now view) ∙ ap length (c.lines.ensures.value ∙ sym (told_lines m b)) in
    let none_yet : length (told m b).lines ≡ 0 = omega (arith, long) in
    grants _ _ _ _ _ (set_up_granted m _ _ wide c.in_ok-base_hour.ensures.1 c.in_ok-week.ensures.1 none_yet) refl
    (sets_up m (record { name = c.args.name; base = c.args.base; table = c.args.timetable; start = c.args.start.now }) (told m b) _ _ _ (lines_of b.table) c.in_ok-base_hour.ensures.0 c.in_ok-week.ensures.0 s (told_lines m b) (ap length (sym (told_lines m b)) ∙ none_yet))
    (set_up_replies m _ _ _)
    (λ r. r)

pub invariant_of-self : goal.invariant_of-self
invariant_of-self g c =
    let b = c.args.self.now in
    let m = g.C.Cipher.meaning b.cipher in
    let law = g.met.C.Cipher.lawful b.cipher in
    let wide : length c.args.start.now ≡ m.width = search rules in
    let words = below_from (2 ^ 32) c.args.start.now (λ k. (c.type_inv.start k).fits) in
    let fits : (k : ℕ) → Fits w8 (get_or c.args.name k 0) = λ k. search rules in
    record {
      named = name_from c.args.name (search rules) (λ k. (fits k).fits);
      row = put_keeps c.args.start.now b.register c.put_front.new.register (omega (arith, wide, law.most)) b.row words c.put_front.ensures.front c.put_front.ensures.rest;
    }
