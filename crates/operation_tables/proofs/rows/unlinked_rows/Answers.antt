use Rattle.std.proofs.Common.{◌≡◌, ◌<◌, ◌∙◌, ◌++◌, ◌∷◌, [], ℕ, true, List, Some, length, map, slice_get, slice_index, sym, ap, subst, arith, rules, length-append}
use Rattle.std.proofs.Props.{props}
use Rattle.std.proofs.lemmas.Grind.{get_or_default_zero}
use mathlib.Core.Logic.{∥∥₁_elim, ∥∥₁_map}
use Rattle.op_board.specs.Operations as board
use Rattle.op_board.specs.OperationNets.{operation_at, operation_count, operations_at}
use Rattle.operation_lists.specs.Seen.{operation_seen}
use Rattle.operation_tables.specs.declared.rows.Row.{Row}
use Rattle.operation_tables.specs.OperationRows.{IsCountedHop, IsRowWith, IsTaker}
use Rattle.operation_tables.specs.PlanView.{operations_in}
use Rattle.operation_tables.specs.ScratchLines.{AreCounted}
use Rattle.operation_tables.proofs.RowLawLemmas.{piece_acts}
use Rattle.operation_tables.proofs.RowPlans.{found, planned_count}
use Rattle.operation_tables.proofs.RowTakers.{rows_more, taker_of}
use Rattle.operation_tables.proofs.rows.unlinked_rows.Goals as goal

pub overflow_cast-count : goal.overflow_cast-count
overflow_cast-count g c =
    let all = planned_count c.args.plan.now c.args.piece c.index.result.now c.requires.piece c.index.ensures in
    let few = c.plans_can_be_numbered.ensures.operations c.args.piece c.requires.piece in
    omega (arith, c.len-count.ensures, c.index.result.now.operations.ok.0, all, few)

pub value_takers-requires-clause-few : goal.value_takers-requires-clause-few
value_takers-requires-clause-few g c =
    let all = planned_count c.args.plan.now c.args.piece c.index.result.now c.requires.piece c.index.ensures in
    let few = c.plans_can_be_numbered.ensures.operations c.args.piece c.requires.piece in
    omega (arith, all, few)

pub value_takers-requires-clause-earlier : goal.value_takers-requires-clause-earlier
value_takers-requires-clause-earlier g c = λ i number op at takes.
    let plan = c.args.plan.now in
    let x = operations_in plan in
    let planned = c.index.result.now in
    ∥∥₁_elim (plan.own_operations c.args.piece planned (found plan c.args.piece planned c.requires.piece c.index.ensures)) (hlevel props) (λ (own : map operation_seen planned.operations.items ≡ operations_at x c.args.piece).
    c.values_are_taken_once.ensures.later x c.args.piece i number op (subst (λ (ops : List board.Operation). slice_get ops i ≡ Some op) own at) takes)

pub unlinked_row-requires : goal.unlinked_row-requires
unlinked_row-requires g c =
    let plan = c.args.plan.now in
    let x = operations_in plan in
    let piece = c.args.piece in
    let i = c.loop-i.i in
    let planned = c.index.result.now in
    let all = planned_count plan piece planned c.requires.piece c.index.ensures in
    let count : c.len-count.result ≡ length planned.operations.items = omega (arith, c.len-count.ensures, planned.operations.ok.0) in
    let inside : i < operation_count x piece = omega (arith, all, count, c.loop-i-test.true) in
    let few = c.plans_can_be_numbered.ensures.operations piece c.requires.piece in
    let takers = c.in_ok-takers.takers.items in
    let room : i < length takers = let size = c.in_ok-takers.ensures.all in omega (arith, size, all, inside) in
    let read : c.index-in-loop-i.result.now ≡ slice_index takers i = c.index-in-loop-i.ensures ∙ get_or_default_zero takers i c.index-in-loop-i.result.now room in
    let taker : board.gives_value (operation_at x piece i).work ≡ true → IsTaker x piece i c.index-in-loop-i.result.now = λ gives.
    ∥∥₁_elim (plan.own_operations piece planned (found plan piece planned c.requires.piece c.index.ensures)) (hlevel props) (λ (own : map operation_seen planned.operations.items ≡ operations_at x piece).
    subst (IsTaker x piece i) (sym read) (taker_of x piece i (map operation_seen planned.operations.items) (slice_index takers i) own (plan.facts.lists piece c.requires.piece (piece_acts x piece i inside)) inside (c.in_ok-takers.ensures.takers i) gives))
    in
    (search rules, (c.requires.piece, (inside, (few, (taker, c.loop-i.invariant.counted)))))

pub loop-i-preserved : goal.loop-i-preserved
loop-i-preserved g c =
    let x = operations_in c.args.plan.now in
    let piece = c.args.piece in
    let i = c.loop-i.i in
    let rows = c.loop-i.rows.items in
    let row : Row = c.in_ok-unlinked_row.field-0 in
    let inv = c.loop-i.invariant in
    let pushed : c.push.new.self.items ≡ rows ++ row ∷ [] = c.in_ok-push.ensures.items in
    record {
      counted = c.in_ok-unlinked_row.ensures.counted;
      first = c.in_ok-unlinked_row.ensures.first ∙ inv.first;
      count = let size = ap length pushed ∙ length-append rows (row ∷ []) in let before = inv.count in omega (arith, size, before);
      rows = ∥∥₁_elim inv.rows (hlevel props) (λ (all : (k : ℕ) (r : Row) → slice_get rows k ≡ Some r → IsRowWith (IsCountedHop x piece k) x piece k r).
          ∥∥₁_map c.in_ok-unlinked_row.ensures.row (λ (is : IsRowWith (IsCountedHop x piece i) x piece i row). λ (k : ℕ) (r : Row) (at : slice_get c.push.new.self.items k ≡ Some r).
          rows_more (λ j s. IsRowWith (IsCountedHop x piece j) x piece j s) rows row all (subst (λ j. IsRowWith (IsCountedHop x piece j) x piece j row) (sym inv.count) is) k r (subst (λ (rs : List Row). slice_get rs k ≡ Some r) pushed at)));
    }

pub returns-clause-rows : goal.returns-clause-rows
returns-clause-rows g c =
    let plan = c.args.plan.now in
    let x = operations_in plan in
    let all = planned_count plan c.args.piece c.index.result.now c.requires.piece c.index.ensures in
    let count : c.len-count.result ≡ length c.index.result.now.operations.items = omega (arith, c.len-count.ensures, c.index.result.now.operations.ok.0) in
    let end : c.loop-i.i ≡ operation_count x c.args.piece = let within = c.loop-i.auto.i-end in omega (arith, all, count, c.loop-i-test.false, within) in
    ∥∥₁_map c.loop-i.invariant.rows (λ (rows : (k : ℕ) (r : Row) → slice_get c.loop-i.rows.items k ≡ Some r → IsRowWith (IsCountedHop x c.args.piece k) x c.args.piece k r). record { count = c.loop-i.invariant.count ∙ end; rows = rows })

pub returns-clause-counted : goal.returns-clause-counted
returns-clause-counted g c =
    let plan = c.args.plan.now in
    let x = operations_in plan in
    let all = planned_count plan c.args.piece c.index.result.now c.requires.piece c.index.ensures in
    let count : c.len-count.result ≡ length c.index.result.now.operations.items = omega (arith, c.len-count.ensures, c.index.result.now.operations.ok.0) in
    let end : c.loop-i.i ≡ operation_count x c.args.piece = let within = c.loop-i.auto.i-end in omega (arith, all, count, c.loop-i-test.false, within) in
    subst (λ n. AreCounted x c.args.piece n c.loop-i.scratch) end c.loop-i.invariant.counted
