use Rattle.std.proofs.Common.{◌≡◌, ◌≤◌, length, vec_capacity, sym, ap, ◌∙◌, subst, arith}
use mathlib.Core.Logic.{∥∥₁_elim}
use Rattle.std.proofs.Props.{props}
use Rattle.std.proofs.lemmas.List.{length-map}
use Rattle.f77_meaning.specs.Room.{most_room}
use Rattle.f77_meaning.specs.Storage.{memory_of}
use Rattle.op_board.specs.Effects.{performed}
use Rattle.op_board.specs.OperationNets.{operation_at}
use Rattle.operation_effects.specs.Tasks.{TakesOperands, task_room}
use Rattle.operation_effects.proofs.OperandReading.{value_count}
use Rattle.operation_lists.specs.Seen.{operand_seen}
use Rattle.operation_tables.specs.BoardView.{operation_net_on}
use Rattle.operation_tables.specs.OperationRows.{IsRow}
use Rattle.op_net.proofs.PieceValues.{row_among, row_values}
use Rattle.op_net.proofs.RowFacts.{row_operands}
use Rattle.op_net.proofs.TaskPropositions.{can_prop, result_prop, takes_prop}
use Rattle.op_net.proofs.piece_performing.perform_row.Goals as goal

pub read_operands-requires-clause-among : goal.read_operands-requires-clause-among
read_operands-requires-clause-among g c =
    row_among (operation_net_on c.args.board.now) c.args.piece c.args.i c.requires.operation c.args.row.now c.requires.row (length c.args.values.now) c.requires.values

pub read_operands-requires-clause-room : goal.read_operands-requires-clause-room
read_operands-requires-clause-room g c =
    let x = operation_net_on c.args.board.now in
    let row = c.args.row.now in
    let count : length row.operands.items ≡ length (operation_at x c.args.piece c.args.i).operands = sym (length-map row.operands.items operand_seen) ∙ ap length (row_operands x c.args.piece c.args.i row c.requires.row) in
    let most = c.args.board.now.own_tables.most c.args.piece c.args.i c.requires.operation in
    let room = c.requires.room.values in
    omega (arith, count, most, room)

pub perform-requires-clause-task : goal.perform-requires-clause-task
perform-requires-clause-task g c =
    let x = operation_net_on c.args.board.now in
    ∥∥₁_elim c.requires.row (can_prop x.net.program c.args.row.now.task) (λ (row : IsRow x c.args.piece c.args.i c.args.row.now). row.can)

pub perform-requires-clause-operands : goal.perform-requires-clause-operands
perform-requires-clause-operands g c =
    let x = operation_net_on c.args.board.now in
    let row = c.args.row.now in
    let values = c.args.values.now in
    let count : length row.operands.items ≡ length c.as_slice.result.now = sym (value_count values row.operands.items) ∙ ap length (sym (c.as_slice.ensures.value ∙ c.read_operands.ensures.items)) in
    ∥∥₁_elim c.requires.row (takes_prop row.task (length c.as_slice.result.now)) (λ (is : IsRow x c.args.piece c.args.i row). subst (TakesOperands row.task) count is.takes)

pub perform-requires-clause-room : goal.perform-requires-clause-room
perform-requires-clause-room g c =
    let x = operation_net_on c.args.board.now in
    ∥∥₁_elim c.requires.row (hlevel props) (λ (row : IsRow x c.args.piece c.args.i c.args.row.now).
    let room : task_room c.args.row.now.task ≤ most_room x.net.program.execs = row.room in
    let enough : most_room x.net.program.execs ≤ vec_capacity c.args.draft.now = c.requires.room.lines in
    omega (arith, room, enough))

pub returns-clause-effect : goal.returns-clause-effect
returns-clause-effect g c =
    let x = operation_net_on c.args.board.now in
    let row = c.args.row.now in
    let work = (operation_at x c.args.piece c.args.i).work in
    let values = c.args.values.now in
    ∥∥₁_elim c.requires.row (result_prop _ _) (λ (is : IsRow x c.args.piece c.args.i row).
    ap (performed x.net.program.names x.net.input (memory_of c.args.storage.now) work) (sym (c.as_slice.ensures.value ∙ c.read_operands.ensures.items ∙ row_values x c.args.piece c.args.i row c.requires.row values))
    ∙ c.perform.ensures.effect work is.task)
