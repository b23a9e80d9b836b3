use Rattle.std.proofs.Common.{◌≡◌, ◌<◌, ◌+◌, ℕ, Some, None, slice_get, sym, subst, ◌∙◌, arith}
use Rattle.op_board.specs.OperationNets.{operation_count}
use Rattle.op_net.specs.ApartLoads.{needing}
use Rattle.op_net.specs.NetView.{net_of}
use Rattle.operation_tables.specs.Waits.{IsNodeBefore}
use Rattle.op_net.proofs.ApartNets.{passing_at}
use Rattle.operation_tables.proofs.NodeNames.{operation_within}
use Rattle.op_net.proofs.PassedNodes.{none_numbered, numbered_before}
use Rattle.op_net.proofs.net.OpNet.node_numbered.Goals as goal

pub overflow_add-result : goal.overflow_add-result
overflow_add-result g c =
    let x = net_of c.args.self.now in
    let at : slice_get (needing x c.args.piece c.args.line) c.args.passed ≡ Some c.in-Some.i = sym c.number_at.ensures ∙ c.in-Some.is in
    let is = passing_at (λ n. x.needs c.args.piece n c.args.line) 0 (operation_count x c.args.piece) c.args.passed c.in-Some.i at in
    let high = is.high in
    let inside : c.in-Some.i < operation_count x c.args.piece = omega (arith, high) in
    let low = operation_within x c.args.piece c.in-Some.i c.requires.piece inside in
    let few = c.args.self.now.board.own_tables.few in
    omega (arith, low, few, c.first.ensures)

pub returns-in-Some : goal.returns-in-Some
returns-in-Some g c = λ edge leads.
    let x = net_of c.args.self.now in
    let at : slice_get (needing x c.args.piece c.args.line) c.args.passed ≡ Some c.in-Some.i = sym c.number_at.ensures ∙ c.in-Some.is in
    subst (λ (k : ℕ). IsNodeBefore x c.args.line (Some edge) c.args.passed (k + c.in-Some.i)) (sym c.first.ensures) (numbered_before x c.args.self.now.board.plan.facts c.args.piece c.args.line edge c.args.passed c.in-Some.i c.requires.piece leads at)

pub returns-in-None : goal.returns-in-None
returns-in-None g c = λ edge leads.
    let x = net_of c.args.self.now in
    let none : slice_get (needing x c.args.piece c.args.line) c.args.passed ≡ None = sym c.number_at.ensures ∙ c.in-None.is in
    subst (λ (k : ℕ). IsNodeBefore x c.args.line (Some edge) c.args.passed k) (sym c.nodes.ensures) (none_numbered x c.args.self.now.board.plan.facts c.args.piece c.args.line edge c.args.passed leads c.requires.some c.requires.touched none)
