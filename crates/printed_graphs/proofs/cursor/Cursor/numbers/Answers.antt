use Rattle.std.proofs.Common.{◌≡◌, ◌<◌, ◌^◌, arith, [], ◌∷◌, ◌++◌, flat_map, codes, Some, sym, ap, ◌∙◌, rules}
use Rattle.std.proofs.lemmas.Result.{err_from_is_err_and}
use Rattle.std.specs.Fmt.{decimal}
use Rattle.printed_graphs.specs.Reading.{after_word, after_short, after_numbers}
use Rattle.printed_graphs.specs.Words.{field_text}
use Rattle.printed_graphs.proofs.Loops.{all_pushed, parts_go, parts_fail, parts_end, short_read, short_none, shorter, not_empty}
use Rattle.printed_graphs.proofs.Texts.{next_part}
use Rattle.printed_graphs.proofs.cursor.Cursor.numbers.Goals as goal

pub loop-all-preserved : goal.loop-all-preserved
loop-all-preserved c =
    let text = c.loop-all.self.rest.now in
    let inner = c.takes.new.self.rest.now in
    let after = c.number.new.self.rest.now in
    let n = c.in_ok-number.field-0 in
    let part : text ≡ field_text n ++ after = c.loop-all-test.ensures.text ∙ ap (λ r. 32 ∷ r) c.in_ok-number.ensures.text in
    let longer : c.push.new.self.items ≡ c.loop-all.all.items ++ n ∷ [] = search rules in
    record {
      text = next_part field_text c.loop-all.all.items n c.args.self.now.rest.now text after c.loop-all.invariant.text part ∙ ap (λ v. flat_map field_text v ++ after) (sym longer);
      after = parts_go (after_word (codes " ")) after_short text inner after (after_numbers c.args.self.now.rest.now) c.loop-all-test.ensures.after (short_read n inner after c.in_ok-number.ensures.after) (shorter 32 [] inner (decimal n) text after c.loop-all-test.ensures.text c.in_ok-number.ensures.text) c.loop-all.invariant.after;
      short = all_pushed (λ n. n < 2 ^ 32) c.loop-all.all.items c.push.new.self.items n longer c.loop-all.invariant.short (omega arith);
    }

pub returns-in_err-number-clause-after : goal.returns-in_err-number-clause-after
returns-in_err-number-clause-after c =
    let text = c.loop-all.self.rest.now in
    let inner = c.takes.new.self.rest.now in
    let p = err_from_is_err_and c.from_residual.result c.from_residual.ensures.1 in
    rw p.1 (λ _. parts_fail (after_word (codes " ")) after_short text inner (after_numbers c.args.self.now.rest.now) c.loop-all-test.ensures.after (short_none inner c.in_err-number.ensures.after.1) (not_empty 32 inner text c.loop-all-test.ensures.text) c.loop-all.invariant.after)

pub returns-clause-after : goal.returns-clause-after
returns-clause-after c = parts_end (after_word (codes " ")) after_short c.loop-all.self.rest.now (after_numbers c.args.self.now.rest.now) c.loop-all-test.ensures.after c.loop-all.invariant.after ∙ ap Some (sym c.loop-all-test.ensures.text)
