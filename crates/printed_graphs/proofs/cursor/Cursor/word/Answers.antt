use Rattle.std.proofs.Common.{◌≡◌, true, take, ap}
use Rattle.std.proofs.lemmas.List.Elements.{All-same}
use Rattle.printed_graphs.specs.Reading.{is_word_char, word_length}
use Rattle.printed_graphs.proofs.Loops.{taken_passes}
use Rattle.printed_graphs.proofs.cursor.Cursor.word.Goals as goal

pub returns-clause-letters : goal.returns-clause-letters
returns-clause-letters c =
    let text = c.args.self.now.rest.now in
    All-same (λ c. is_word_char c ≡ true) (take c.word_length-end.result text) (take (word_length text) text) (ap (λ n. take n text) c.word_length-end.ensures.length) (taken_passes is_word_char text)
