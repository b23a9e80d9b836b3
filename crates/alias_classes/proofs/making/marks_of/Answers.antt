use Rattle.alias_classes.proofs.KeyLemmas.{key-names, names-key}
use Rattle.alias_classes.proofs.making.marks_of.Goals as goal

pub returns-clause-tell : goal.returns-clause-tell
returns-clause-tell c =
    let begins = c.args.spans.now.begins.items in
    let ends = c.args.spans.now.ends.items in
    let back_begins = c.in_ok-from_end.field-0.items in
    let back_ends = c.in_ok-from_end-2.field-0.items in
    let forth = c.in_ok-last_begins.field-0.items in
    let back = c.in_ok-last_begins-2.field-0.items in
    record {
      names = key-names c.args.words begins ends back_begins back_ends forth back c.requires.spans c.in_ok-from_end.ensures c.in_ok-from_end-2.ensures c.in_ok-last_begins.ensures c.in_ok-last_begins-2.ensures;
      keys = names-key c.args.words begins ends back_begins back_ends forth back c.requires.spans c.in_ok-from_end.ensures c.in_ok-from_end-2.ensures c.in_ok-last_begins.ensures c.in_ok-last_begins-2.ensures;
    }
