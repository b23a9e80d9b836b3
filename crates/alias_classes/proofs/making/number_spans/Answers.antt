use Rattle.std.proofs.Common.{length, sym, subst, ◌∙◌}
use Rattle.alias_classes.specs.Classes.{IsNumbering}
use Rattle.alias_classes.specs.Spans.{Holds}
use Rattle.alias_classes.specs.Walk.{key_of, IsWalked}
use Rattle.alias_classes.proofs.Walked.{walked-numbering}
use Rattle.alias_classes.proofs.making.number_spans.Goals as goal

pub returns-clause-numbering : goal.returns-clause-numbering
returns-clause-numbering c =
    let begins = c.args.spans.now.begins.items in
    let ends = c.args.spans.now.ends.items in
    let words = c.args.words in
    let marks = c.in_ok-marks.marks in
    let numbers = c.in_ok-numbers.field-0.numbers.items in
    let keys = c.in_ok-numbers.field-0.keys.keys in
    let tell = c.in_ok-marks.ensures.tell in
    let walked : IsWalked (Holds begins ends) (key_of words marks.forth.items marks.back.items) (length begins) 0 numbers keys = subst (λ n. IsWalked (Holds begins ends) (key_of n marks.forth.items marks.back.items) (length begins) 0 numbers keys) c.in_ok-marks.ensures.words c.in_ok-numbers.ensures.walked in
    let numbering : IsNumbering (Holds begins ends) words numbers (length keys) = walked-numbering (Holds begins ends) (key_of words marks.forth.items marks.back.items) words (length begins) numbers keys walked (c.in_ok-numbers.ensures.each ∙ c.in_ok-marks.ensures.words) (λ k w has. has.known) tell.names tell.keys in
    subst (λ n. IsNumbering (Holds begins ends) words numbers n) (sym c.len.ensures.len) numbering
