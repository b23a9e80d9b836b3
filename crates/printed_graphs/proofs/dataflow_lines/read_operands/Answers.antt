use Rattle.std.proofs.Common.{◌≡◌, ◌<◌, [], ◌∷◌, ◌++◌, length, flat_map, codes, Some, sym, ap, ◌∙◌, rules}
use Rattle.std.proofs.lemmas.Result.{err_from_is_err_and}
use Rattle.printed_graphs.specs.DataflowText.{operand_text}
use Rattle.printed_graphs.specs.GraphReading.{operand_at, after_operands}
use Rattle.printed_graphs.specs.Printable.{IsPrintableOperand}
use Rattle.printed_graphs.specs.Reading.{after_word}
use Rattle.printed_graphs.proofs.Loops.{all_pushed, parts_go, parts_fail, parts_end, not_empty, after_less, operand_some}
use Rattle.printed_graphs.proofs.Texts.{next_part}
use Rattle.printed_graphs.proofs.dataflow_lines.read_operands.Goals as goal

pub loop-all-preserved : goal.loop-all-preserved
loop-all-preserved c =
    let text = c.loop-all.cursor.rest.now in
    let inner = c.takes.new.self.rest.now in
    let after = c.read_operand.new.cursor.rest.now in
    let x = c.in_ok-read_operand.field-0 in
    let part : text ≡ operand_text x ++ after = c.loop-all-test.ensures.text ∙ sym c.in_ok-read_operand.ensures.text in
    let longer : c.push.new.self.items ≡ c.loop-all.all.items ++ x ∷ [] = search rules in
    let shorter : length after < length text = after_less (operand_text x) after text part (operand_some x) in
    record {
      text = next_part operand_text c.loop-all.all.items x c.args.cursor.now.rest.now text after c.loop-all.invariant.text part ∙ ap (λ v. flat_map operand_text v ++ after) (sym longer);
      after = parts_go (after_word (codes " ")) operand_at text inner after (after_operands c.args.cursor.now.rest.now) c.loop-all-test.ensures.after c.in_ok-read_operand.ensures.after shorter c.loop-all.invariant.after;
      printable = all_pushed IsPrintableOperand c.loop-all.all.items c.push.new.self.items x longer c.loop-all.invariant.printable c.in_ok-read_operand.ensures.printable;
    }

pub returns-in_err-read_operand-clause-after : goal.returns-in_err-read_operand-clause-after
returns-in_err-read_operand-clause-after c =
    let text = c.loop-all.cursor.rest.now in
    let inner = c.takes.new.self.rest.now in
    let p = err_from_is_err_and c.from_residual.result c.from_residual.ensures.1 in
    rw (p.1, p.2) (λ unread. parts_fail (after_word (codes " ")) operand_at text inner (after_operands c.args.cursor.now.rest.now) c.loop-all-test.ensures.after c.in_err-read_operand.ensures.after.1 (not_empty 32 ([] ++ inner) text c.loop-all-test.ensures.text) c.loop-all.invariant.after)

pub returns-clause-after : goal.returns-clause-after
returns-clause-after c = parts_end (after_word (codes " ")) operand_at c.loop-all.cursor.rest.now (after_operands c.args.cursor.now.rest.now) c.loop-all-test.ensures.after c.loop-all.invariant.after ∙ ap Some (sym c.loop-all-test.ensures.text)
