use Rattle.std.proofs.Common.{Some, None, ◌∙◌, ap}
use Rattle.std.proofs.lemmas.Bool.Decides.{Decides-eqb}
use Rattle.std.proofs.lemmas.Slice.Eq.{strip_prefix_is}
use Rattle.printed_graphs.specs.Reading.{after_word}
use Rattle.printed_graphs.proofs.Again.{word_again, word_missing}
use Rattle.printed_graphs.proofs.cursor.Cursor.takes.Goals as goal

pub returns-in-Some-clause-text : goal.returns-in-Some-clause-text
returns-in-Some-clause-text c = strip_prefix_is Decides-eqb c.args.self.now.rest.now c.args.word.now (Some c.in-Some.rest) c.in-Some.ensures.cases

pub returns-in-Some-clause-after : goal.returns-in-Some-clause-after
returns-in-Some-clause-after c =
    let text = strip_prefix_is Decides-eqb c.args.self.now.rest.now c.args.word.now (Some c.in-Some.rest) c.in-Some.ensures.cases in
    ap (after_word c.args.word.now) text ∙ word_again c.args.word.now c.in-Some.rest.now

pub returns-in-None-clause-after : goal.returns-in-None-clause-after
returns-in-None-clause-after c = word_missing c.args.word.now c.args.self.now.rest.now (strip_prefix_is Decides-eqb c.args.self.now.rest.now c.args.word.now None c.in-None.ensures.cases)
