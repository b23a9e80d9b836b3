use Rattle.std.proofs.Common.{◌<◌, ◌+◌, ℕ, Some, length, slice_get, sym, ap, subst, ◌∙◌, arith}
use Rattle.firing.specs.declared.system.NodeName.{NodeName}
use Rattle.op_board.specs.OperationNets.{first_operation, operation_at}
use Rattle.operation_lists.specs.declared.operations.Operand.{Operand}
use Rattle.operation_lists.specs.declared.operations.Operand.TheVariants as operand
use Rattle.operation_lists.specs.Seen.{operand_seen}
use Rattle.operation_tables.specs.GraphView.{operations_of}
use Rattle.operation_tables.specs.Telling.{node_operand, node_operands, number_of, piece_of}
use Rattle.operation_tables.proofs.GivenOperands.{given_before, operands_kept, told_at}
use Rattle.operation_tables.proofs.NodeNames.{operation_within}
use Rattle.operation_tables.proofs.graph.OpGraph.operand.Goals as goal

pub operand_at-operand-requires : goal.operand_at-operand-requires
operand_at-operand-requires g c =
    let x = operations_of c.args.self.now in
    let piece = c.operation-piece.result.0 in
    let number = c.operation-piece.result.1 in
    let within : c.args.i < length (operation_at x piece number).operands = subst (λ (n : NodeName). c.args.i < length (operation_at x (piece_of n) (number_of n)).operands) c.operation-piece.ensures.name c.requires.inside in
    let count = operands_kept x piece number c.operands_of.result.now.items c.operands_of.ensures in
    omega (arith, within, count)

pub overflow_add-result : goal.overflow_add-result
overflow_add-result g c =
    let x = operations_of c.args.self.now in
    let piece = c.operation-piece.result.0 in
    let number = c.operation-piece.result.1 in
    let within : c.args.i < length (operation_at x piece number).operands = subst (λ (n : NodeName). c.args.i < length (operation_at x (piece_of n) (number_of n)).operands) c.operation-piece.ensures.name c.requires.inside in
    let inside = c.operation-piece.ensures.inside in
    let before : c.in-Node.giver < number = given_before x piece number c.operands_of.result.now.items c.operands_of.ensures c.args.i c.operand_at-operand.result within c.operand_at-operand.ensures c.in-Node.giver c.in-Node.is inside in
    let there = operation_within x piece c.in-Node.giver c.operation-piece.ensures.exists (omega (arith, before, inside)) in
    let few = c.args.self.now.own_nodes.few in
    let first = c.first.ensures in
    omega (arith, there, few, first)

pub returns-in-Known : goal.returns-in-Known
returns-in-Known g c =
    let x = operations_of c.args.self.now in
    let piece = c.operation-piece.result.0 in
    let number = c.operation-piece.result.1 in
    let within : c.args.i < length (operation_at x piece number).operands = subst (λ (n : NodeName). c.args.i < length (operation_at x (piece_of n) (number_of n)).operands) c.operation-piece.ensures.name c.requires.inside in
    ap Some c.in-Known.is
    ∙ ap (λ (o : Operand). Some (node_operand (first_operation x piece) (operand_seen o))) (sym c.in-Known.is)
    ∙ told_at x piece number c.operands_of.result.now.items c.operands_of.ensures c.args.i c.operand_at-operand.result within c.operand_at-operand.ensures
    ∙ ap (λ (n : NodeName). slice_get (node_operands x (piece_of n) (number_of n)) c.args.i) (sym c.operation-piece.ensures.name)

pub returns-in-Node : goal.returns-in-Node
returns-in-Node g c =
    let x = operations_of c.args.self.now in
    let piece = c.operation-piece.result.0 in
    let number = c.operation-piece.result.1 in
    let within : c.args.i < length (operation_at x piece number).operands = subst (λ (n : NodeName). c.args.i < length (operation_at x (piece_of n) (number_of n)).operands) c.operation-piece.ensures.name c.requires.inside in
    ap (λ (n : ℕ). Some (operand.Node (n + c.in-Node.giver))) c.first.ensures
    ∙ ap (λ (o : Operand). Some (node_operand (first_operation x piece) (operand_seen o))) (sym c.in-Node.is)
    ∙ told_at x piece number c.operands_of.result.now.items c.operands_of.ensures c.args.i c.operand_at-operand.result within c.operand_at-operand.ensures
    ∙ ap (λ (n : NodeName). slice_get (node_operands x (piece_of n) (number_of n)) c.args.i) (sym c.operation-piece.ensures.name)
