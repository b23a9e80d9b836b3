use Rattle.std.proofs.Common.{◌≡◌, ◌<◌, [], ◌∷◌, ◌++◌, length, flat_map, codes, Some, sym, ap, ◌∙◌, rules}
use Rattle.std.proofs.lemmas.Result.{err_from_is_err_and}
use Rattle.printed_graphs.specs.DataflowText.{value_text}
use Rattle.printed_graphs.specs.GraphReading.{value_at, after_values}
use Rattle.printed_graphs.specs.Printable.{IsPrintableValue}
use Rattle.printed_graphs.specs.Reading.{after_word}
use Rattle.printed_graphs.proofs.Loops.{all_pushed, parts_go, parts_fail, parts_end, not_empty, after_less, value_some}
use Rattle.printed_graphs.proofs.Texts.{next_part}
use Rattle.printed_graphs.proofs.dataflow_lines.read_values.Goals as goal

pub loop-alloc-preserved : goal.loop-alloc-preserved
loop-alloc-preserved c =
    let text = c.loop-alloc.cursor.rest.now in
    let inner = c.takes.new.self.rest.now in
    let after = c.read_value.new.cursor.rest.now in
    let x = c.in_ok-read_value.field-0 in
    let part : text ≡ value_text x ++ after = c.loop-alloc-test.ensures.text ∙ sym c.in_ok-read_value.ensures.text in
    let longer : c.push.new.self.items ≡ c.loop-alloc.all.items ++ x ∷ [] = search rules in
    let shorter : length after < length text = after_less (value_text x) after text part (value_some x) in
    record {
      text = next_part value_text c.loop-alloc.all.items x c.args.cursor.now.rest.now text after c.loop-alloc.invariant.text part ∙ ap (λ v. flat_map value_text v ++ after) (sym longer);
      after = parts_go (after_word (codes "V ")) value_at text inner after (after_values c.args.cursor.now.rest.now) c.loop-alloc-test.ensures.after c.in_ok-read_value.ensures.after shorter c.loop-alloc.invariant.after;
      printable = all_pushed IsPrintableValue c.loop-alloc.all.items c.push.new.self.items x longer c.loop-alloc.invariant.printable c.in_ok-read_value.ensures.printable;
    }

pub returns-in_err-read_value-clause-after : goal.returns-in_err-read_value-clause-after
returns-in_err-read_value-clause-after c =
    let text = c.loop-alloc.cursor.rest.now in
    let inner = c.takes.new.self.rest.now in
    let p = err_from_is_err_and c.from_residual.result c.from_residual.ensures.1 in
    rw (p.1, p.2) (λ unread. parts_fail (after_word (codes "V ")) value_at text inner (after_values c.args.cursor.now.rest.now) c.loop-alloc-test.ensures.after (c.in_err-read_value.ensures.after unread) (not_empty 86 (32 ∷ [] ++ inner) text c.loop-alloc-test.ensures.text) c.loop-alloc.invariant.after)

pub returns-clause-after : goal.returns-clause-after
returns-clause-after c = parts_end (after_word (codes "V ")) value_at c.loop-alloc.cursor.rest.now (after_values c.args.cursor.now.rest.now) c.loop-alloc-test.ensures.after c.loop-alloc.invariant.after ∙ ap Some (sym c.loop-alloc-test.ensures.text)
