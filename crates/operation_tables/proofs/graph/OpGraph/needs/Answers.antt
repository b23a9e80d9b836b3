use Rattle.std.proofs.Common.{arith, sym, ap, ◌∙◌}
use Rattle.firing.specs.declared.system.NodeName.{NodeName}
use Rattle.operation_tables.specs.GraphView.{operations_of}
use Rattle.operation_tables.specs.Telling.{number_of, piece_of}
use Rattle.operation_tables.proofs.PlannedOperations.{inside_needs, planned_needs}
use Rattle.operation_tables.proofs.graph.OpGraph.needs.Goals as goal

pub at-requires : goal.at-requires
at-requires g c =
    let low = inside_needs c.args.self.now.plan c.operation-piece.result.0 c.operation-piece.result.1 c.index.result.now c.operation-piece.ensures.exists c.operation-piece.ensures.inside c.index.ensures in
    omega (arith, low)

pub returns : goal.returns
returns g c =
    λ line. planned_needs c.args.self.now.plan c.operation-piece.result.0 c.operation-piece.result.1 c.index.result.now c.operation-piece.ensures.exists c.operation-piece.ensures.inside c.index.ensures c.at.result c.at.ensures line
    ∙ ap (λ (n : NodeName). (operations_of c.args.self.now).needs (piece_of n) (number_of n) line) (sym c.operation-piece.ensures.name)
