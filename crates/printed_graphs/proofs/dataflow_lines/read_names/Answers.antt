use Rattle.std.proofs.Common.{◌≡◌, [], ◌∷◌, ◌++◌, true, flat_map, codes, Some, sym, ap, ◌∙◌, rules}
use Rattle.std.proofs.lemmas.List.Elements.{All-same}
use Rattle.printed_graphs.specs.DataflowText.{name_text}
use Rattle.printed_graphs.specs.GraphReading.{after_letters, after_names}
use Rattle.printed_graphs.specs.Printable.{IsPrintableName}
use Rattle.printed_graphs.specs.Reading.{after_word, is_word_char}
use Rattle.printed_graphs.proofs.Loops.{all_pushed, parts_go, parts_end, shorter}
use Rattle.printed_graphs.proofs.Texts.{next_part}
use Rattle.printed_graphs.proofs.dataflow_lines.read_names.Goals as goal

pub loop-alloc-preserved : goal.loop-alloc-preserved
loop-alloc-preserved c =
    let text = c.loop-alloc.cursor.rest.now in
    let inner = c.takes.new.self.rest.now in
    let after = c.word.new.self.rest.now in
    let name = c.in_ok-from_slice.field-0 in
    let read : inner ≡ name.items ++ after = c.word.ensures.text ∙ ap (λ w. w ++ after) (sym c.in_ok-from_slice.ensures.items) in
    let part : text ≡ name_text name ++ after = c.loop-alloc-test.ensures.text ∙ ap (λ r. 32 ∷ r) read in
    let longer : c.push.new.self.items ≡ c.loop-alloc.all.items ++ name ∷ [] = search rules in
    let passed : after_letters inner ≡ Some after = ap Some (sym c.word.ensures.after) in
    let letters : IsPrintableName name = All-same (λ c. is_word_char c ≡ true) name.items c.word.result.now c.in_ok-from_slice.ensures.items c.word.ensures.letters in
    record {
      text = next_part name_text c.loop-alloc.all.items name c.args.cursor.now.rest.now text after c.loop-alloc.invariant.text part ∙ ap (λ v. flat_map name_text v ++ after) (sym longer);
      after = parts_go (after_word (codes " ")) after_letters text inner after (after_names c.args.cursor.now.rest.now) c.loop-alloc-test.ensures.after passed (shorter 32 [] inner name.items text after c.loop-alloc-test.ensures.text read) c.loop-alloc.invariant.after;
      printable = all_pushed IsPrintableName c.loop-alloc.all.items c.push.new.self.items name longer c.loop-alloc.invariant.printable letters;
    }

pub returns-clause-after : goal.returns-clause-after
returns-clause-after c = parts_end (after_word (codes " ")) after_letters c.loop-alloc.cursor.rest.now (after_names c.args.cursor.now.rest.now) c.loop-alloc-test.ensures.after c.loop-alloc.invariant.after ∙ ap Some (sym c.loop-alloc-test.ensures.text)
