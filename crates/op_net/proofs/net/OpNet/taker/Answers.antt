use Rattle.std.proofs.Common.{◌≡◌, ◌+◌, ◌-◌, ℕ, subst, sym, ◌∙◌, arith}
use mathlib.Core.Logic.{∥∥₁_elim}
use Rattle.std.proofs.Props.{props}
use Rattle.op_board.specs.OperationNets.{first_operation}
use Rattle.op_net.specs.NetView.{net_of}
use Rattle.operation_tables.specs.OperationRows.{IsRow, IsTaker}
use Rattle.operation_tables.specs.Waits.{IsNodeAfter}
use Rattle.operation_tables.proofs.NodeNames.{IsOperationAt, operation_at_node, operation_within}
use Rattle.operation_tables.proofs.NodesAfter.{one_after}
use Rattle.op_net.proofs.net.OpNet.taker.Goals as goal

pub row-row-requires : goal.row-row-requires
row-row-requires g c =
    let x = net_of c.args.self.now in
    let k = c.args.k in
    let piece = c.args.piece in
    let i = c.args.i in
    let n : IsOperationAt x k piece i = operation_at_node x k piece i c.requires.node c.requires.name in
    (omega arith, (n.exists, n.inside))

pub overflow_sub-result : goal.overflow_sub-result
overflow_sub-result g c =
    let x = net_of c.args.self.now in
    let k = c.args.k in
    let piece = c.args.piece in
    let i = c.args.i in
    let n : IsOperationAt x k piece i = operation_at_node x k piece i c.requires.node c.requires.name in
    let is = n.number in
    omega (arith, is)

pub overflow_add-result : goal.overflow_add-result
overflow_add-result g c =
    let x = net_of c.args.self.now in
    let k = c.args.k in
    let piece = c.args.piece in
    let i = c.args.i in
    let n : IsOperationAt x k piece i = operation_at_node x k piece i c.requires.node c.requires.name in
    let taker : IsTaker x piece i c.row-row.result.now.taker = ∥∥₁_elim c.row-row.ensures (hlevel props) (λ (row : IsRow x piece i c.row-row.result.now). row.taker (row.gives ∙ c.requires.gives)) in
    let within = operation_within x piece c.row-row.result.now.taker n.exists taker.inside in
    let is = n.number in
    let few = c.args.self.now.board.own_tables.few in
    omega (arith, within, few, is)

pub returns-clause-takes : goal.returns-clause-takes
returns-clause-takes g c =
    let x = net_of c.args.self.now in
    let k = c.args.k in
    let piece = c.args.piece in
    let i = c.args.i in
    let n : IsOperationAt x k piece i = operation_at_node x k piece i c.requires.node c.requires.name in
    let taker : IsTaker x piece i c.row-row.result.now.taker = ∥∥₁_elim c.row-row.ensures (hlevel props) (λ (row : IsRow x piece i c.row-row.result.now). row.taker (row.gives ∙ c.requires.gives)) in
    let within = operation_within x piece c.row-row.result.now.taker n.exists taker.inside in
    let is = n.number in
    let here : first_operation x piece + c.row-row.result.now.taker ≡ (k - i) + c.row-row.result.now.taker = omega (arith, is) in
    subst (λ (a : ℕ). IsNodeAfter x a ((k - i) + c.row-row.result.now.taker)) (sym is) (subst (IsNodeAfter x (first_operation x piece + i)) here (one_after x piece i c.row-row.result.now.taker n.exists taker))

pub returns-clause-within : goal.returns-clause-within
returns-clause-within g c =
    let x = net_of c.args.self.now in
    let k = c.args.k in
    let piece = c.args.piece in
    let i = c.args.i in
    let n : IsOperationAt x k piece i = operation_at_node x k piece i c.requires.node c.requires.name in
    let taker : IsTaker x piece i c.row-row.result.now.taker = ∥∥₁_elim c.row-row.ensures (hlevel props) (λ (row : IsRow x piece i c.row-row.result.now). row.taker (row.gives ∙ c.requires.gives)) in
    let within = operation_within x piece c.row-row.result.now.taker n.exists taker.inside in
    let is = n.number in
    omega (arith, within, is)
