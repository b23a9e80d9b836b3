use Rattle.std.proofs.Common.{◌≡◌, ◌<◌, [], ◌∷◌, ◌++◌, length, flat_map, codes, Some, sym, ap, ◌∙◌, rules}
use Rattle.std.proofs.lemmas.Result.{err_from_is_err_and}
use Rattle.printed_graphs.specs.DataflowText.{bypass_text}
use Rattle.printed_graphs.specs.GraphReading.{bypass_at, after_bypasses}
use Rattle.printed_graphs.specs.Printable.{IsPrintableBypass}
use Rattle.printed_graphs.specs.Reading.{after_word}
use Rattle.printed_graphs.proofs.Loops.{all_pushed, parts_go, parts_fail, parts_end, not_empty, after_less, bypass_some}
use Rattle.printed_graphs.proofs.Texts.{next_part}
use Rattle.printed_graphs.proofs.dataflow_lines.read_bypasses.Goals as goal

pub loop-all-preserved : goal.loop-all-preserved
loop-all-preserved c =
    let text = c.loop-all.cursor.rest.now in
    let inner = c.takes.new.self.rest.now in
    let after = c.read_bypass.new.cursor.rest.now in
    let x = c.in_ok-read_bypass.field-0 in
    let part : text ≡ bypass_text x ++ after = c.loop-all-test.ensures.text ∙ sym c.in_ok-read_bypass.ensures.text in
    let longer : c.push.new.self.items ≡ c.loop-all.all.items ++ x ∷ [] = search rules in
    let shorter : length after < length text = after_less (bypass_text x) after text part (bypass_some x) in
    record {
      text = next_part bypass_text c.loop-all.all.items x c.args.cursor.now.rest.now text after c.loop-all.invariant.text part ∙ ap (λ v. flat_map bypass_text v ++ after) (sym longer);
      after = parts_go (after_word (codes "H ")) bypass_at text inner after (after_bypasses c.args.cursor.now.rest.now) c.loop-all-test.ensures.after c.in_ok-read_bypass.ensures.after shorter c.loop-all.invariant.after;
      printable = all_pushed IsPrintableBypass c.loop-all.all.items c.push.new.self.items x longer c.loop-all.invariant.printable c.in_ok-read_bypass.ensures.printable;
    }

pub returns-in_err-read_bypass-clause-after : goal.returns-in_err-read_bypass-clause-after
returns-in_err-read_bypass-clause-after c =
    let text = c.loop-all.cursor.rest.now in
    let inner = c.takes.new.self.rest.now in
    let p = err_from_is_err_and c.from_residual.result c.from_residual.ensures.1 in
    rw (p.1, p.2) (λ unread. parts_fail (after_word (codes "H ")) bypass_at text inner (after_bypasses c.args.cursor.now.rest.now) c.loop-all-test.ensures.after c.in_err-read_bypass.ensures.after.1 (not_empty 72 (32 ∷ [] ++ inner) text c.loop-all-test.ensures.text) c.loop-all.invariant.after)

pub returns-clause-after : goal.returns-clause-after
returns-clause-after c = parts_end (after_word (codes "H ")) bypass_at c.loop-all.cursor.rest.now (after_bypasses c.args.cursor.now.rest.now) c.loop-all-test.ensures.after c.loop-all.invariant.after ∙ ap Some (sym c.loop-all-test.ensures.text)
