use Rattle.std.proofs.Common.{◌≡◌, length, sym, ap, ◌∙◌, arith, rules}
use Rattle.firing.specs.declared.system.NodeName.{NodeName}
use Rattle.op_board.specs.OperationNets.{operation_at}
use Rattle.operation_tables.specs.GraphView.{operations_of}
use Rattle.operation_tables.specs.Telling.{number_of, piece_of}
use Rattle.operation_tables.proofs.GivenOperands.{operands_kept}
use Rattle.operation_tables.proofs.graph.OpGraph.operands.Goals as goal

pub overflow_cast-result : goal.overflow_cast-result
overflow_cast-result g c =
    let x = operations_of c.args.self.now in
    let piece = c.operation-piece.result.0 in
    let number = c.operation-piece.result.1 in
    let long : c.len.result ≡ length c.operands_of.result.now.items = search rules in
    let count = operands_kept x piece number c.operands_of.result.now.items c.operands_of.ensures in
    let own = c.args.self.now.own_nodes in
    let most = own.most piece number c.operation-piece.ensures.inside in
    let fits = own.fits in
    omega (arith, long, count, most, fits)

pub returns : goal.returns
returns g c =
    let x = operations_of c.args.self.now in
    let long : c.len.result ≡ length c.operands_of.result.now.items = search rules in
    let count = operands_kept x c.operation-piece.result.0 c.operation-piece.result.1 c.operands_of.result.now.items c.operands_of.ensures in
    long ∙ count ∙ ap (λ (n : NodeName). length (operation_at x (piece_of n) (number_of n)).operands) (sym c.operation-piece.ensures.name)
