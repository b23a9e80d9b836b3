use Rattle.std.proofs.Common.{[], ◌∷◌}
use Rattle.graph_texts.proofs.Telling.{told_more, fault_more, fault_before}
use Rattle.graph_texts.proofs.Texts.{on_error, then_on_error, then_on_ok}
use Rattle.graph_texts.proofs.graph_nodes.tell_word.Goals as goal

pub returns-in_err-append-clause-prefix : goal.returns-in_err-append-clause-prefix
returns-in_err-append-clause-prefix g c =
    on_error c.from_residual.result (fault_before (g.K.Sink.got c.args.sink.now) (g.K.Sink.got c.append.new.sink) c.args.buffer.now (32 ∷ []) c.args.word.now c.in_err-append.ensures.prefix)

pub returns-clause-text : goal.returns-clause-text
returns-clause-text g c =
    then_on_ok c.append-2.result
    (told_more (g.K.Sink.got c.args.sink.now) (g.K.Sink.got c.append.new.sink) (g.K.Sink.got c.append-2.new.sink) c.args.buffer.now c.append.new.self c.append-2.new.self (32 ∷ []) c.args.word.now c.in_ok-append.ensures.text)
    c.append-2.ensures.text

pub returns-clause-prefix : goal.returns-clause-prefix
returns-clause-prefix g c =
    then_on_error c.append-2.result
    (fault_more (g.K.Sink.got c.args.sink.now) (g.K.Sink.got c.append.new.sink) (g.K.Sink.got c.append-2.new.sink) c.args.buffer.now c.append.new.self (32 ∷ []) c.args.word.now c.in_ok-append.ensures.text)
    c.append-2.ensures.prefix
