use Rattle.std.proofs.Common.{◌≡◌, ◌<◌, ◌-◌, ◌==◌, ◌&&◌, true, false, not, is_some, List, length, All, sym, ap, ◌∙◌, subst, eq-eqb, arith}
use Rattle.std.specs.List.{list_all}
use Rattle.std.proofs.Math.Logic.{∥∥₁_elim}
use Rattle.std.proofs.Props.{props}
use Rattle.std.proofs.lemmas.Bool.{ne_eqb}
use Rattle.op_board.specs.OperationNets.{first_operation, operation_at}
use Rattle.op_board.specs.OperationTokens.{is_given, value_at}
use Rattle.operation_lists.specs.declared.operations.Operand.{Operand}
use Rattle.op_net.specs.NetView.{marking_of, net_of}
use Rattle.operation_places.specs.RowWaits.{IsBelow, is_there}
use Rattle.operation_tables.specs.Waits.{failing}
use Rattle.op_net.proofs.ApartNets.{from_not, operands_there}
use Rattle.operation_tables.proofs.NodeNames.{operation_at_node}
use Rattle.operation_places.proofs.OperationWaits.{row_operands_below}
use Rattle.operation_places.proofs.RowWaits.{all_below_prop, read_value}
use Rattle.op_net.proofs.net.OpNet.has_values.Goals as goal

pub row-row-requires : goal.row-row-requires
row-row-requires g c =
    let at = operation_at_node (net_of c.args.self.now) c.args.k c.args.piece c.args.i c.requires.node c.requires.name in
    (omega arith, (at.exists, at.inside))

pub overflow_sub-k : goal.overflow_sub-k
overflow_sub-k g c =
    let at = operation_at_node (net_of c.args.self.now) c.args.k c.args.piece c.args.i c.requires.node c.requires.name in
    let number = at.number in
    omega (arith, number)

pub waits_for_operands-lacking-requires-clause-operands : goal.waits_for_operands-lacking-requires-clause-operands
waits_for_operands-lacking-requires-clause-operands g c =
    let x = net_of c.args.self.now in
    let k = c.args.k in
    let places = c.args.self.now.places in
    let at = operation_at_node x k c.args.piece c.args.i c.requires.node c.requires.name in
    let number = at.number in
    let first : k - c.args.i ≡ first_operation x c.args.piece = omega (arith, number) in
    let inside : k < length places.values.items = omega (arith, c.requires.node, c.args.self.now.own_places.values) in
    let nodes = length places.values.items in
    let below : All (IsBelow nodes (k - c.args.i)) c.row-row.result.now.operands.items = ∥∥₁_elim c.row-row.ensures (all_below_prop nodes (k - c.args.i) c.row-row.result.now.operands.items) (λ row. row_operands_below x places k c.args.piece c.args.i (k - c.args.i) c.row-row.result.now row at first inside) in
    subst (λ (operands : List Operand). All (IsBelow nodes (k - c.args.i)) operands) (sym c.as_slice.ensures) below

pub returns-then-lacking-eq0 : goal.returns-then-lacking-eq0
returns-then-lacking-eq0 g c =
    let x = net_of c.args.self.now in
    let m = marking_of c.args.self.now in
    let k = c.args.k in
    let values = c.args.self.now.places.values.items in
    let at = operation_at_node x k c.args.piece c.args.i c.requires.node c.requires.name in
    let number = at.number in
    let first : k - c.args.i ≡ first_operation x c.args.piece = omega (arith, number) in
    let inside : k < length values = omega (arith, c.requires.node, c.args.self.now.own_places.values) in
    let lacking = c.waits_for_operands-lacking.result in
    let waits : lacking ≡ failing (is_there values (k - c.args.i)) c.row-row.result.now.operands.items = c.waits_for_operands-lacking.ensures ∙ ap (failing (is_there values (k - c.args.i))) c.as_slice.ensures in
    let there : (lacking == 0) ≡ list_all (is_given x m c.args.piece) (operation_at x c.args.piece c.args.i).operands =
    ∥∥₁_elim c.row-row.ensures (hlevel props) (λ row. operands_there x m k c.args.piece c.args.i (k - c.args.i) lacking c.row-row.result.now row at first waits) in
    let all : true ≡ list_all (is_given x m c.args.piece) (operation_at x c.args.piece c.args.i).operands = sym (eq-eqb lacking 0 c.if-lacking-eq0.true) ∙ there in
    let own : c.is_none.result ≡ not (is_some (value_at m k)) = from_not (is_some c.index.result.now) c.is_none.result c.is_none.ensures ∙ ap (λ v. not (is_some v)) (sym (read_value values k c.index.result.now inside c.index.ensures)) in
    own ∙ ap (λ b. b && not (is_some (value_at m k))) all

pub returns-else-lacking-eq0 : goal.returns-else-lacking-eq0
returns-else-lacking-eq0 g c =
    let x = net_of c.args.self.now in
    let m = marking_of c.args.self.now in
    let k = c.args.k in
    let values = c.args.self.now.places.values.items in
    let at = operation_at_node x k c.args.piece c.args.i c.requires.node c.requires.name in
    let number = at.number in
    let first : k - c.args.i ≡ first_operation x c.args.piece = omega (arith, number) in
    let lacking = c.waits_for_operands-lacking.result in
    let waits : lacking ≡ failing (is_there values (k - c.args.i)) c.row-row.result.now.operands.items = c.waits_for_operands-lacking.ensures ∙ ap (failing (is_there values (k - c.args.i))) c.as_slice.ensures in
    let there : (lacking == 0) ≡ list_all (is_given x m c.args.piece) (operation_at x c.args.piece c.args.i).operands =
    ∥∥₁_elim c.row-row.ensures (hlevel props) (λ row. operands_there x m k c.args.piece c.args.i (k - c.args.i) lacking c.row-row.result.now row at first waits) in
    let some : (lacking == 0) ≡ false = ne_eqb lacking 0 c.if-lacking-eq0.false in
    some ∙ ap (λ b. b && not (is_some (value_at m k))) (sym some ∙ there)
