-- The most operands of an operation.
use Rattle.std.proofs.Common.{◌≡◌, ◌<◌, ◌≤◌, ⊎_elim, ℕ, ◌+◌, List, [], length, slice_get, None, Some, map, sym, ap, ◌∙◌, subst, arith}
use mathlib.Core.Logic.{∥∥₁_elim}
use Rattle.std.proofs.Props.{props}
use Rattle.std.specs.Option.{option_map}
use Rattle.std.proofs.lemmas.Bool.{cases_lt}
use Rattle.std.proofs.lemmas.List.{length-map}
use Rattle.std.proofs.lemmas.Option.{slice_get-map, slice_get_past}
use Rattle.cfg_build.specs.declared.pieces.PieceKind.TheVariants as kind
use Rattle.cfg_build.specs.Flow.{flow, piece_in}
use Rattle.cfg_build.specs.Joined.{FlowGraph}
use Rattle.dep_routing.specs.Touches.{exec_kind}
use Rattle.net_board.specs.Nodes.{graph_in, kind_in}
use Rattle.op_board.specs.OperationNets.{OperationNet, operation_at, operation_count, operation_in, operations_at}
use Rattle.op_board.specs.Operations as board
use Rattle.operation_lists.specs.declared.operations.Operation.{Operation}
use Rattle.operation_lists.specs.Seen.{operand_seen, operation_seen}
use Rattle.operation_tables.specs.declared.plan.OperationPlan.{OperationPlan}
use Rattle.operation_tables.specs.declared.plan.PieceOperations.{PieceOperations}
use Rattle.operation_tables.specs.PlanView.{operations_in}
use Rattle.operation_tables.proofs.GrownLists.{get_some}

-- ---- operands

-- there are no more operations before one of so many pieces together with its operands than this
pub record AreMost {W : ℕ} (pieces : List (PieceOperations W)) (n most : ℕ) : Type 0 where
  pub each : (piece i : ℕ) (planned : PieceOperations W) (operation : Operation) → piece < n → slice_get pieces piece ≡ Some planned → slice_get planned.operations.items i ≡ Some operation → i + length operation.operands.items ≤ most

module _ {W : ℕ} where
  -- a piece that isn't there is the start, which has no operations
  no_operations : (plan : OperationPlan W) (piece : ℕ) → (graph_in (operations_in plan).net).nodes ≤ piece → operation_count (operations_in plan) piece ≡ 0
  no_operations plan piece past =
      let x : OperationNet = operations_in plan in
      let f : FlowGraph = flow x.net.program.execs in
      let pieces : length f.pieces ≡ f.graph.nodes = subst (λ (g : FlowGraph). length g.pieces ≡ g.graph.nodes) plan.board.plan.own_flow plan.board.plan.pieces in
      let none : slice_get f.pieces piece ≡ None = slice_get_past f.pieces piece (omega (arith, pieces, past)) in
      let start : kind_in x.net piece ≡ kind.Start = ap (λ o. (piece_in o).kind) none in
      ap (λ k. length (board.operations_of x.net.program.names k (exec_kind x.net.program piece))) start

  pub most_of_all : (plan : OperationPlan W) (n most : ℕ) → AreMost plan.pieces.items n most → n ≡ length plan.pieces.items → (piece i : ℕ) → i < operation_count (operations_in plan) piece → i + length (operation_at (operations_in plan) piece i).operands ≤ most
  most_of_all plan n most are all piece i inside =
      let x : OperationNet = operations_in plan in
      ⊎_elim
      (λ (exists : piece < length plan.pieces.items).
      let found = get_some plan.pieces.items piece exists in
      ∥∥₁_elim (plan.own_operations piece found.0 found.1) (hlevel props)
      (λ (own : map operation_seen found.0.operations.items ≡ operations_at x piece).
      let count : length found.0.operations.items ≡ operation_count x piece = sym (length-map found.0.operations.items operation_seen) ∙ ap length own in
      let op = get_some found.0.operations.items i (omega (arith, inside, count)) in
      let is : operation_at x piece i ≡ operation_seen op.0 = ap operation_in (ap (λ ops. slice_get ops i) (sym own) ∙ slice_get-map operation_seen found.0.operations.items i ∙ ap (option_map operation_seen) op.1) in
      let few = are.each piece i found.0 op.0 (omega (arith, exists, all)) found.1 op.1 in
      let seen : length (operation_seen op.0).operands ≡ length op.0.operands.items = length-map op.0.operands.items operand_seen in
      subst (λ (o : board.Operation). i + length o.operands ≤ most) (sym is) (omega (arith, few, seen))))
      (λ (past : length plan.pieces.items ≤ piece).
      let none = no_operations plan piece (omega (arith, past, plan.every_piece)) in
      absurd (omega (arith, inside, none)))
      (cases_lt piece (length plan.pieces.items))
