use Rattle.std.proofs.Common.{◌≡◌, ◌<◌, ◌+◌, ◌-◌, List, length, is_some, All, refl, sym, ap, ◌∙◌, subst, arith}
use Rattle.std.proofs.Math.Logic.{∥∥₁_elim}
use Rattle.std.proofs.Props.{props}
use Rattle.firing.specs.declared.system.NodeName.TheVariants.{Op}
use Rattle.op_board.specs.OperationNets.{first_operation}
use Rattle.op_board.specs.OperationTokens.{value_at}
use Rattle.operation_lists.specs.declared.operations.Operand.{Operand}
use Rattle.operation_tables.specs.declared.hops.Hop.{Hop}
use Rattle.operation_tables.specs.BoardView.{operation_net_on}
use Rattle.operation_places.specs.PlacesView.{standing}
use Rattle.operation_places.specs.RowWaits.{IsBelow, hop_stands, is_there}
use Rattle.operation_tables.specs.Waits.{failing, one_if, waits_as}
use Rattle.operation_tables.proofs.NodeNames.{operation_at_node}
use Rattle.operation_places.proofs.OperationWaits.{row_lines_exist, row_operands_below, row_waits, sum_few}
use Rattle.operation_places.proofs.RowWaits.{all_below_prop, read_value}
use Rattle.operation_places.proofs.waiting.operation_waits.Goals as goal

pub row-row-requires : goal.row-row-requires
row-row-requires g c =
    let x = operation_net_on c.args.board.now in
    let k = c.args.k in
    let places = c.args.places.now in
    let at = operation_at_node x k c.args.piece c.args.i c.requires.node c.requires.name in
    (omega arith, (at.exists, at.inside))

pub waits_for_lines-lines-requires : goal.waits_for_lines-lines-requires
waits_for_lines-lines-requires g c =
    let x = operation_net_on c.args.board.now in
    let k = c.args.k in
    let places = c.args.places.now in
    let at = operation_at_node x k c.args.piece c.args.i c.requires.node c.requires.name in
    let exist : All (λ (hop : Hop). hop.line < x.net.routing.lines) c.row-row.result.now.hops.items = ∥∥₁_elim c.row-row.ensures (Prim.hlevel props) (λ row. row_lines_exist x places k c.args.piece c.args.i (first_operation x c.args.piece) c.row-row.result.now row at refl) in
    (omega arith, (subst (λ (hops : List Hop). All (λ (hop : Hop). hop.line < x.net.routing.lines) hops) (sym c.as_slice.ensures.value) exist, c.requires.places))

pub overflow_sub-k : goal.overflow_sub-k
overflow_sub-k g c =
    let x = operation_net_on c.args.board.now in
    let k = c.args.k in
    let places = c.args.places.now in
    let at = operation_at_node x k c.args.piece c.args.i c.requires.node c.requires.name in
    let number = at.number in
    omega (arith, number)

pub waits_for_operands-operands-requires-clause-operands : goal.waits_for_operands-operands-requires-clause-operands
waits_for_operands-operands-requires-clause-operands g c =
    let x = operation_net_on c.args.board.now in
    let k = c.args.k in
    let places = c.args.places.now in
    let at = operation_at_node x k c.args.piece c.args.i c.requires.node c.requires.name in
    let number = at.number in
    let first : k - c.args.i ≡ first_operation x c.args.piece = omega (arith, number) in
    let inside : k < length places.values.items = omega (arith, c.requires.node, c.requires.places.values) in
    let nodes = length places.values.items in
    let below : All (IsBelow nodes (k - c.args.i)) c.row-row.result.now.operands.items = ∥∥₁_elim c.row-row.ensures (all_below_prop nodes (k - c.args.i) c.row-row.result.now.operands.items) (λ row. row_operands_below x places k c.args.piece c.args.i (k - c.args.i) c.row-row.result.now row at first inside) in
    subst (λ (operands : List Operand). All (IsBelow nodes (k - c.args.i)) operands) (sym c.as_slice-2.ensures) below

pub waits_for_switches-room-requires : goal.waits_for_switches-room-requires
waits_for_switches-room-requires g c =
    let x = operation_net_on c.args.board.now in
    let k = c.args.k in
    let places = c.args.places.now in
    let at = operation_at_node x k c.args.piece c.args.i c.requires.node c.requires.name in
    (omega arith, (at.exists, (at.acts, c.requires.places)))

pub overflow_add-result : goal.overflow_add-result
overflow_add-result g c =
    let x = operation_net_on c.args.board.now in
    let k = c.args.k in
    let places = c.args.places.now in
    let at = operation_at_node x k c.args.piece c.args.i c.requires.node c.requires.name in
    let number = at.number in
    let first : k - c.args.i ≡ first_operation x c.args.piece = omega (arith, number) in
    let inside : k < length places.values.items = omega (arith, c.requires.node, c.requires.places.values) in
    let own : c.one_if-own.result ≡ one_if (is_some (value_at (standing places) k)) = c.one_if-own.ensures ∙ ap one_if (c.is_some.ensures ∙ ap is_some (sym (read_value places.values.items k c.index.result.now inside c.index.ensures))) in
    let lines = c.waits_for_lines-lines.result in
    let operands = c.waits_for_operands-operands.result in
    let room = c.waits_for_switches-room.result in
    let total : lines + (operands + (c.one_if-own.result + room)) ≡ waits_as x (standing places) k (Op c.args.piece c.args.i) =
    ∥∥₁_elim c.row-row.ensures (Prim.hlevel props)
    (λ row. row_waits x places k c.args.piece c.args.i (k - c.args.i) c.row-row.result.now row at first lines operands c.one_if-own.result room
    (c.waits_for_lines-lines.ensures ∙ ap (failing (hop_stands x (standing places) c.args.piece)) c.as_slice.ensures.value)
    (c.waits_for_operands-operands.ensures ∙ ap (failing (is_there places.values.items (k - c.args.i))) c.as_slice-2.ensures)
    own c.waits_for_switches-room.ensures) in
    let few = sum_few x (standing places) k (lines + (operands + (c.one_if-own.result + room))) (Op c.args.piece c.args.i) (c.waits_are_few.ensures (standing places) k c.requires.node) c.requires.name total in
    omega (arith, few)

pub overflow_add-result-2 : goal.overflow_add-result-2
overflow_add-result-2 g c =
    let x = operation_net_on c.args.board.now in
    let k = c.args.k in
    let places = c.args.places.now in
    let at = operation_at_node x k c.args.piece c.args.i c.requires.node c.requires.name in
    let number = at.number in
    let first : k - c.args.i ≡ first_operation x c.args.piece = omega (arith, number) in
    let inside : k < length places.values.items = omega (arith, c.requires.node, c.requires.places.values) in
    let own : c.one_if-own.result ≡ one_if (is_some (value_at (standing places) k)) = c.one_if-own.ensures ∙ ap one_if (c.is_some.ensures ∙ ap is_some (sym (read_value places.values.items k c.index.result.now inside c.index.ensures))) in
    let lines = c.waits_for_lines-lines.result in
    let operands = c.waits_for_operands-operands.result in
    let room = c.waits_for_switches-room.result in
    let total : lines + (operands + (c.one_if-own.result + room)) ≡ waits_as x (standing places) k (Op c.args.piece c.args.i) =
    ∥∥₁_elim c.row-row.ensures (Prim.hlevel props)
    (λ row. row_waits x places k c.args.piece c.args.i (k - c.args.i) c.row-row.result.now row at first lines operands c.one_if-own.result room
    (c.waits_for_lines-lines.ensures ∙ ap (failing (hop_stands x (standing places) c.args.piece)) c.as_slice.ensures.value)
    (c.waits_for_operands-operands.ensures ∙ ap (failing (is_there places.values.items (k - c.args.i))) c.as_slice-2.ensures)
    own c.waits_for_switches-room.ensures) in
    let few = sum_few x (standing places) k (lines + (operands + (c.one_if-own.result + room))) (Op c.args.piece c.args.i) (c.waits_are_few.ensures (standing places) k c.requires.node) c.requires.name total in
    omega (arith, few)

pub overflow_add-result-3 : goal.overflow_add-result-3
overflow_add-result-3 g c =
    let x = operation_net_on c.args.board.now in
    let k = c.args.k in
    let places = c.args.places.now in
    let at = operation_at_node x k c.args.piece c.args.i c.requires.node c.requires.name in
    let number = at.number in
    let first : k - c.args.i ≡ first_operation x c.args.piece = omega (arith, number) in
    let inside : k < length places.values.items = omega (arith, c.requires.node, c.requires.places.values) in
    let own : c.one_if-own.result ≡ one_if (is_some (value_at (standing places) k)) = c.one_if-own.ensures ∙ ap one_if (c.is_some.ensures ∙ ap is_some (sym (read_value places.values.items k c.index.result.now inside c.index.ensures))) in
    let lines = c.waits_for_lines-lines.result in
    let operands = c.waits_for_operands-operands.result in
    let room = c.waits_for_switches-room.result in
    let total : lines + (operands + (c.one_if-own.result + room)) ≡ waits_as x (standing places) k (Op c.args.piece c.args.i) =
    ∥∥₁_elim c.row-row.ensures (Prim.hlevel props)
    (λ row. row_waits x places k c.args.piece c.args.i (k - c.args.i) c.row-row.result.now row at first lines operands c.one_if-own.result room
    (c.waits_for_lines-lines.ensures ∙ ap (failing (hop_stands x (standing places) c.args.piece)) c.as_slice.ensures.value)
    (c.waits_for_operands-operands.ensures ∙ ap (failing (is_there places.values.items (k - c.args.i))) c.as_slice-2.ensures)
    own c.waits_for_switches-room.ensures) in
    let few = sum_few x (standing places) k (lines + (operands + (c.one_if-own.result + room))) (Op c.args.piece c.args.i) (c.waits_are_few.ensures (standing places) k c.requires.node) c.requires.name total in
    omega (arith, few)

pub returns : goal.returns
returns g c =
    let x = operation_net_on c.args.board.now in
    let k = c.args.k in
    let places = c.args.places.now in
    let at = operation_at_node x k c.args.piece c.args.i c.requires.node c.requires.name in
    let number = at.number in
    let first : k - c.args.i ≡ first_operation x c.args.piece = omega (arith, number) in
    let inside : k < length places.values.items = omega (arith, c.requires.node, c.requires.places.values) in
    let own : c.one_if-own.result ≡ one_if (is_some (value_at (standing places) k)) = c.one_if-own.ensures ∙ ap one_if (c.is_some.ensures ∙ ap is_some (sym (read_value places.values.items k c.index.result.now inside c.index.ensures))) in
    let lines = c.waits_for_lines-lines.result in
    let operands = c.waits_for_operands-operands.result in
    let room = c.waits_for_switches-room.result in
    let total : lines + (operands + (c.one_if-own.result + room)) ≡ waits_as x (standing places) k (Op c.args.piece c.args.i) =
    ∥∥₁_elim c.row-row.ensures (Prim.hlevel props)
    (λ row. row_waits x places k c.args.piece c.args.i (k - c.args.i) c.row-row.result.now row at first lines operands c.one_if-own.result room
    (c.waits_for_lines-lines.ensures ∙ ap (failing (hop_stands x (standing places) c.args.piece)) c.as_slice.ensures.value)
    (c.waits_for_operands-operands.ensures ∙ ap (failing (is_there places.values.items (k - c.args.i))) c.as_slice-2.ensures)
    own c.waits_for_switches-room.ensures) in
    total
