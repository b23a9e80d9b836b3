use Rattle.std.proofs.Common.{◌≡◌, ◌<◌, [], ◌∷◌, ◌++◌, length, flat_map, true, false, is_some, sym, ap, ◌∙◌, rules}
use Rattle.std.proofs.lemmas.Result.{err_from_is_err_and}
use Rattle.printed_graphs.specs.GraphReading.{at_digit, firing_at, after_firings}
use Rattle.printed_graphs.specs.Printable.{IsPrintableFiring}
use Rattle.printed_graphs.specs.Reading.{digit_at}
use Rattle.printed_graphs.specs.TraceText.{firing_text}
use Rattle.printed_graphs.proofs.Loops.{all_pushed, parts_go, parts_fail, parts_end, after_less, firing_some, digit_there, digit_missing}
use Rattle.printed_graphs.proofs.Texts.{next_part}
use Rattle.printed_graphs.proofs.trace_lines.read_firings.Goals as goal

pub loop-all-preserved : goal.loop-all-preserved
loop-all-preserved c =
    let text = c.loop-all.cursor.rest.now in
    let after = c.read_firing.new.cursor.rest.now in
    let x = c.in_ok-read_firing.field-0 in
    let begin : is_some (digit_at text) ≡ true = search rules in
    let part : text ≡ firing_text x ++ after = c.in_ok-read_firing.ensures.text in
    let longer : c.push.new.self.items ≡ c.loop-all.all.items ++ x ∷ [] = search rules in
    record {
      text = next_part firing_text c.loop-all.all.items x c.args.cursor.now.rest.now text after c.loop-all.invariant.text part ∙ ap (λ v. flat_map firing_text v ++ after) (sym longer);
      after = parts_go at_digit firing_at text text after (after_firings c.args.cursor.now.rest.now) (digit_there text begin) c.in_ok-read_firing.ensures.after (after_less (firing_text x) after text part (firing_some x)) c.loop-all.invariant.after;
      printable = all_pushed IsPrintableFiring c.loop-all.all.items c.push.new.self.items x longer c.loop-all.invariant.printable c.in_ok-read_firing.ensures.printable;
    }

pub returns-in_err-read_firing-clause-after : goal.returns-in_err-read_firing-clause-after
returns-in_err-read_firing-clause-after c =
    let text = c.loop-all.cursor.rest.now in
    let begin : is_some (digit_at text) ≡ true = search rules in
    let some : 0 < length text = search rules in
    let p = err_from_is_err_and c.from_residual.result c.from_residual.ensures.1 in
    rw (p.1, p.2) (λ unread. parts_fail at_digit firing_at text text (after_firings c.args.cursor.now.rest.now) (digit_there text begin) c.in_err-read_firing.ensures.after.1 some c.loop-all.invariant.after)

pub returns-clause-after : goal.returns-clause-after
returns-clause-after c =
    let text = c.loop-all.cursor.rest.now in
    let end : is_some (digit_at text) ≡ false = search rules in
    parts_end at_digit firing_at text (after_firings c.args.cursor.now.rest.now) (digit_missing text end) c.loop-all.invariant.after
