use Rattle.std.proofs.Common.{All, length, sym, ap, subst}
use mathlib.Core.Logic.{∥∥₁_elim}
use Rattle.f77_meaning.specs.Storage.{memory_of}
use Rattle.operation_effects.specs.OperandValues.{IsAmong}
use Rattle.operation_effects.specs.Tasks.{TakesOperands}
use Rattle.operation_lists.specs.Seen.{operand_seen}
use Rattle.operation_lists.specs.declared.operations.Operand.{Operand}
use Rattle.operation_tables.specs.BoardView.{operation_net_on}
use Rattle.operation_tables.specs.OperationRows.{IsRow}
use Rattle.op_net.proofs.PieceValues.{row_among, row_gives}
use Rattle.op_net.proofs.TaskPropositions.{can_prop, takes_prop}
use Rattle.op_net.proofs.piece_performing.give_value_of.Goals as goal

pub give_value-requires-clause-task : goal.give_value-requires-clause-task
give_value-requires-clause-task g c =
    let x = operation_net_on c.args.board.now in
    ∥∥₁_elim c.requires.row (can_prop x.net.program c.args.row.now.task) (λ (row : IsRow x c.args.piece c.args.i c.args.row.now). row.can)

pub give_value-requires-clause-operands : goal.give_value-requires-clause-operands
give_value-requires-clause-operands g c =
    let x = operation_net_on c.args.board.now in
    let task = c.args.row.now.task in
    ∥∥₁_elim c.requires.row (takes_prop task (length c.as_slice.result.now)) (λ (row : IsRow x c.args.piece c.args.i c.args.row.now). subst (TakesOperands task) (ap length (sym c.as_slice.ensures)) row.takes)

pub give_value-requires-clause-among : goal.give_value-requires-clause-among
give_value-requires-clause-among g c =
    let among = row_among (operation_net_on c.args.board.now) c.args.piece c.args.i c.requires.operation c.args.row.now c.requires.row (length c.args.values.now) c.requires.values in
    subst (All (λ (operand : Operand). IsAmong (length c.args.values.now) (operand_seen operand))) (sym c.as_slice.ensures) among

pub returns : goal.returns
returns g c = row_gives (operation_net_on c.args.board.now) c.args.piece c.args.i c.args.row.now c.requires.row c.args.values.now (memory_of c.args.storage.now) c.as_slice.result.now c.as_slice.ensures c.give_value.result c.give_value.ensures.effect
