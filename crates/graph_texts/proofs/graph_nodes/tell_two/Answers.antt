use Rattle.std.proofs.Common.{◌∷◌, ◌++◌}
use Rattle.std.specs.Fmt.{decimal}
use Rattle.graph_texts.proofs.Telling.{told_more, fault_more}
use Rattle.graph_texts.proofs.Texts.{then_on_error, then_on_ok}
use Rattle.graph_texts.proofs.graph_nodes.tell_two.Goals as goal

pub returns-clause-text : goal.returns-clause-text
returns-clause-text g c =
    then_on_ok c.tell_number.result
    (told_more (g.K.Sink.got c.args.sink.now) (g.K.Sink.got c.tell_numbered.new.sink) (g.K.Sink.got c.tell_number.new.sink) c.args.buffer.now c.tell_numbered.new.buffer c.tell_number.new.buffer (c.args.word.now ++ decimal c.args.a) (32 ∷ decimal c.args.b) c.in_ok-tell_numbered.ensures.text)
    c.tell_number.ensures.text

pub returns-clause-prefix : goal.returns-clause-prefix
returns-clause-prefix g c =
    then_on_error c.tell_number.result
    (fault_more (g.K.Sink.got c.args.sink.now) (g.K.Sink.got c.tell_numbered.new.sink) (g.K.Sink.got c.tell_number.new.sink) c.args.buffer.now c.tell_numbered.new.buffer (c.args.word.now ++ decimal c.args.a) (32 ∷ decimal c.args.b) c.in_ok-tell_numbered.ensures.text)
    c.tell_number.ensures.prefix
