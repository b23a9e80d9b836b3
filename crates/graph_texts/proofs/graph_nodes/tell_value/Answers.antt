use Rattle.std.proofs.Common.{◌≡◌, ◌∙◌, ◌++◌, ◌∷◌, [], List, ℕ, Option, true, false, codes, sym, subst, append-nil}
use Rattle.std.specs.Fmt.{decimal}
use Rattle.df_io.specs.TextBuffer.{IsWrittenBut}
use Rattle.df_io.proofs.LongTexts.{all_held}
use Rattle.op_board.specs.OperationNets.{operation_node}
use Rattle.operation_tables.specs.GraphView.{operations_of}
use Rattle.graph_texts.specs.GraphText.{has_operands, operands_text, value_text}
use Rattle.graph_texts.proofs.NodesTold.{is_operation, no_line, some_line}
use Rattle.graph_texts.proofs.Telling.{begun, begun_fault}
use Rattle.graph_texts.proofs.Texts.{then_on_error, then_on_ok}
use Rattle.graph_texts.proofs.graph_nodes.tell_value.Goals as goal

-- nothing is told
nothing_told : (a : Option (List ℕ)) (held : List ℕ) → IsWrittenBut held a a (held ++ [])
nothing_told a held = subst (IsWrittenBut held a a) (sym (append-nil held)) (all_held a held)

pub tell_operands_line-requires-clause-operation : goal.tell_operands_line-requires-clause-operation
tell_operands_line-requires-clause-operation g c =
    let x = operations_of c.args.net.now in
    let has : has_operands x (operation_node x c.args.k) ≡ true = sym c.has_operands-has.ensures ∙ c.if-has.true in
    is_operation x (operation_node x c.args.k) has

pub returns-then-has-clause-text : goal.returns-then-has-clause-text
returns-then-has-clause-text g c =
    let x = operations_of c.args.net.now in
    let name = operation_node x c.args.k in
    let has : has_operands x name ≡ true = sym c.has_operands-has.ensures ∙ c.if-has.true in
    let line : List ℕ = codes "V " ++ decimal c.args.k ++ operands_text x name ++ 10 ∷ [] in
    then_on_ok c.tell_operands_line.result
    (begun (g.K.Sink.got c.args.sink.now) (g.K.Sink.got c.tell_operands_line.new.sink) c.args.buffer.now c.tell_operands_line.new.buffer line (value_text x c.args.k name) (some_line x c.args.k name has))
    c.tell_operands_line.ensures.text

pub returns-then-has-clause-prefix : goal.returns-then-has-clause-prefix
returns-then-has-clause-prefix g c =
    let x = operations_of c.args.net.now in
    let name = operation_node x c.args.k in
    let has : has_operands x name ≡ true = sym c.has_operands-has.ensures ∙ c.if-has.true in
    let line : List ℕ = codes "V " ++ decimal c.args.k ++ operands_text x name ++ 10 ∷ [] in
    then_on_error c.tell_operands_line.result
    (begun_fault (g.K.Sink.got c.args.sink.now) (g.K.Sink.got c.tell_operands_line.new.sink) c.args.buffer.now line (value_text x c.args.k name) (some_line x c.args.k name has))
    c.tell_operands_line.ensures.prefix

pub returns-else-has-clause-text : goal.returns-else-has-clause-text
returns-else-has-clause-text g c =
    let x = operations_of c.args.net.now in
    let name = operation_node x c.args.k in
    let has : has_operands x name ≡ false = sym c.has_operands-has.ensures ∙ c.if-has.false in
    begun (g.K.Sink.got c.args.sink.now) (g.K.Sink.got c.args.sink.now) c.args.buffer.now c.args.buffer.now [] (value_text x c.args.k name) (no_line x c.args.k name has) (nothing_told (g.K.Sink.got c.args.sink.now) c.args.buffer.now)
