use Rattle.std.proofs.Common.{◌<◌, ◌+◌, ℕ, Some, refl, sym, ap, subst, ◌∙◌, arith}
use Rattle.std.proofs.lemmas.Bool.{eq-eqb}
use Rattle.closed_walks.specs.Graph.{to}
use Rattle.net_board.specs.Nodes.{graph_in}
use Rattle.op_board.specs.OperationNets.{needing_before, operation_node}
use Rattle.op_net.specs.NetView.{net_of}
use Rattle.operation_tables.specs.Waits.{IsNodeBefore, node_total}
use Rattle.operation_tables.proofs.NodeNames.{operation_name_at, operation_within}
use Rattle.operation_tables.proofs.NodesBefore.{operation_before}
use Rattle.op_net.proofs.net.OpNet.operation_node.Goals as goal

pub overflow_add-result : goal.overflow_add-result
overflow_add-result g c =
    let x = net_of c.args.self.now in
    let low = operation_within x c.args.piece c.args.i c.requires.piece c.requires.operation in
    let few = c.args.self.now.board.own_tables.few in
    omega (arith, low, few, c.first.ensures)

pub returns-clause-name : goal.returns-clause-name
returns-clause-name g c =
    let x = net_of c.args.self.now in
    ap (λ (n : ℕ). operation_node x (n + c.args.i)) c.first.ensures ∙ operation_name_at x c.args.piece c.args.i c.requires.piece c.requires.operation

pub returns-clause-exists : goal.returns-clause-exists
returns-clause-exists g c =
    let x = net_of c.args.self.now in
    subst (λ (n : ℕ). n + c.args.i < node_total x) (sym c.first.ensures) (operation_within x c.args.piece c.args.i c.requires.piece c.requires.operation)

pub returns-clause-before : goal.returns-clause-before
returns-clause-before g c = λ line edge needs leads.
    let x = net_of c.args.self.now in
    subst (λ (n : ℕ). IsNodeBefore x line (Some edge) (needing_before x c.args.piece c.args.i line) (n + c.args.i)) (sym c.first.ensures)
    (operation_before x c.args.self.now.board.plan.facts c.args.piece c.args.i line (Some edge) (needing_before x c.args.piece c.args.i line) c.requires.piece c.requires.operation needs (eq-eqb (to (graph_in x.net) edge) c.args.piece leads) refl)
