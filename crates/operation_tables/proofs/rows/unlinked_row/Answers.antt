use Rattle.std.proofs.Common.{◌≡◌, ◌<◌, ◌≤◌, ◌+◌, ◌^◌, ◌∙◌, ℕ, Bool, true, refl, List, [], Some, length, slice_get, map, filter, sym, ap, subst, arith, rules}
use Rattle.std.specs.List.{range_with_len}
use Rattle.std.proofs.lemmas.List.{length-map}
use Rattle.std.proofs.lemmas.List.FromFn.{length-range_with_len}
use Rattle.std.proofs.lemmas.List.Sums.{count_by-le-length, length-filter}
use Rattle.std.proofs.lemmas.Option.{slice_get_read}
use Rattle.std.proofs.Props.{props}
use mathlib.Core.Logic.{∥∥₁_elim, ∥∥₁_map}
use Rattle.class_set.specs.ClassSet.{holds}
use Rattle.op_board.specs.Operations as board
use Rattle.op_board.specs.OperationNets.{needed, operations_at}
use Rattle.op_board.specs.SoundOperationNets.{IsOperationNet}
use Rattle.operation_effects.specs.Works.{FitsProgram}
use Rattle.operation_lists.specs.declared.operations.Operation.{Operation}
use Rattle.operation_lists.specs.declared.operations.Operand.{Operand}
use Rattle.operation_lists.specs.Seen.{operand_seen, operation_seen, work_seen}
use Rattle.operation_tables.specs.declared.rows.Row.{Row}
use Rattle.operation_tables.specs.OperationRows.{first_three, short_count, waits_anew}
use Rattle.operation_tables.specs.PlanView.{operations_in}
use Rattle.operation_tables.specs.ScratchLines.{before_at}
use Rattle.operation_tables.specs.Waits.{one_if}
use Rattle.operation_tables.proofs.FitProps.{fits_prop}
use Rattle.operation_tables.proofs.HopLinks.{line_of}
use Rattle.operation_tables.proofs.RowMade.{counted_more, few_counted, hops_counted, row_made}
use Rattle.operation_tables.proofs.RowPlans.{found, needs_are, needs_count, operation_is, planned_count}
use Rattle.operation_tables.proofs.rows.unlinked_row.Goals as goal

pub index-operation-requires : goal.index-operation-requires
index-operation-requires g c =
    let all = planned_count c.args.plan.now c.args.piece c.index-operations.result.now c.requires.piece c.index-operations.ensures in
    let size = c.index-operations.result.now.operations.ok.0 in
    omega (arith, all, size, c.requires.operation)

pub at-needs-requires : goal.at-needs-requires
at-needs-requires g c =
    let all = needs_count c.args.plan.now c.args.piece c.index-operations.result.now c.requires.piece c.index-operations.ensures in
    omega (arith, all, c.requires.operation)

pub unlinked_hops-requires : goal.unlinked_hops-requires
unlinked_hops-requires g c =
    let plan = c.args.plan.now in
    let x = operations_in plan in
    let planned = c.index-operations.result.now in
    let set = c.at-needs.result in
    let needs : ◌≡◌ {A = ℕ → Bool} (λ line. x.needs c.args.piece c.args.i line) (λ line. holds set line) = needs_are plan c.args.piece planned c.requires.piece c.index-operations.ensures c.args.i set c.at-needs.ensures in
    let exist : (line : ℕ) → holds set line ≡ true → line < length c.args.scratch.now.before.items = λ line is.
    let own : x.needs c.args.piece c.args.i line ≡ true = ap (λ (test : ℕ → Bool). test line) needs ∙ is in
    let low : line < x.net.routing.lines = ∥∥₁_elim plan.is_net (hlevel props) (λ (net : IsOperationNet x). c.needed_lines_exist.ensures x c.args.piece c.args.i line net c.requires.piece c.requires.operation own) in
    let size = c.requires.counted.all.before in
    omega (arith, low, size)
    in
    let lines : length c.args.scratch.now.before.items ≤ 1024 = let size = c.requires.counted.all.before in omega (arith, size, plan.board.plan.few_lines) in
    let few : (line : ℕ) → before_at c.args.scratch.now line < 2 ^ 16 = few_counted x c.args.piece c.args.i c.args.scratch.now c.requires.counted c.requires.operation c.requires.few in
    (search rules, (plan.board.plan.width, (exist, (lines, few))))

pub task_of-requires-clause-places : goal.task_of-requires-clause-places
task_of-requires-clause-places g c = ∥∥₁_elim c.args.plan.now.is_net (hlevel props) (λ (is : IsOperationNet (operations_in c.args.plan.now)). is.is_net.can_run.placed)

pub task_of-requires-clause-fits : goal.task_of-requires-clause-fits
task_of-requires-clause-fits g c =
    let plan = c.args.plan.now in
    let x = operations_in plan in
    let i = c.args.i in
    let planned = c.index-operations.result.now in
    let op : Operation = c.index-operation.result.now in
    let all = planned_count plan c.args.piece planned c.requires.piece c.index-operations.ensures in
    let low : i < length planned.operations.items = omega (arith, all, c.requires.operation) in
    ∥∥₁_elim plan.is_net (fits_prop x.net.program (work_seen op.work)) (λ (is : IsOperationNet x).
    ∥∥₁_elim (plan.own_operations c.args.piece planned (found plan c.args.piece planned c.requires.piece c.index-operations.ensures)) (fits_prop x.net.program (work_seen op.work)) (λ (own : map operation_seen planned.operations.items ≡ operations_at x c.args.piece).
    subst (λ (o : board.Operation). FitsProgram x.net.program o.work) (operation_is plan c.args.piece planned c.requires.piece c.index-operations.ensures i op low c.index-operation.ensures own) (c.operations_fit.ensures.fits x c.args.piece i is c.requires.operation).0))

-- no more hops than there are lines
few_lines : (lines : List ℕ) (own : ℕ → Bool) (size : ℕ) → lines ≡ filter own (range_with_len 0 size) → size ≤ 1024 → length lines ≤ 1024
few_lines lines own size is low = omega (arith, ap length is, length-filter own (range_with_len 0 size), count_by-le-length own (range_with_len 0 size), length-range_with_len 0 size, low)

pub overflow_cast-lines : goal.overflow_cast-lines
overflow_cast-lines g c =
    let hops = c.in_ok-hops.hops.items in
    let size = c.requires.counted.all.before in
    let few = few_lines (map line_of hops) (holds c.at-needs.result) (length c.args.scratch.now.before.items) c.in_ok-hops.ensures.lines (omega (arith, size, c.args.plan.now.board.plan.few_lines)) in
    let hop_count : c.len-lines.result ≡ length hops = search rules in
    omega (arith, hop_count, few, length-map hops line_of)

pub overflow_cast-waits : goal.overflow_cast-waits
overflow_cast-waits g c =
    let plan = c.args.plan.now in
    let planned = c.index-operations.result.now in
    let op : Operation = c.index-operation.result.now in
    let hops = c.in_ok-hops.hops.items in
    let size = c.requires.counted.all.before in
    let few = few_lines (map line_of hops) (holds c.at-needs.result) (length c.args.scratch.now.before.items) c.in_ok-hops.ensures.lines (omega (arith, size, plan.board.plan.few_lines)) in
    let hop_count : c.len-lines.result ≡ length hops = search rules in
    let all = planned_count plan c.args.piece planned c.requires.piece c.index-operations.ensures in
    let there : slice_get planned.operations.items c.args.i ≡ Some op = slice_get_read planned.operations.items (length planned.operations.items) c.args.i op refl (omega (arith, all, c.requires.operation)) c.index-operation.ensures in
    let operands = plan.few_operands c.args.piece c.args.i planned op (found plan c.args.piece planned c.requires.piece c.index-operations.ensures) there in
    let most = c.waits_anew-waits.ensures.few in
    omega (arith, hop_count, few, length-map hops line_of, operands, most)

-- the lines of the hops are those that the operation needs
lines_needed : (lines : List ℕ) (needs own : ℕ → Bool) (size all : ℕ) → lines ≡ filter own (range_with_len 0 size) → size ≡ all → needs ≡ own → lines ≡ filter needs (range_with_len 0 all)
lines_needed lines needs own size all is same tests = is ∙ ap (λ n. filter own (range_with_len 0 n)) same ∙ ap (λ (test : ℕ → Bool). filter test (range_with_len 0 all)) (sym tests)

pub returns-clause-row : goal.returns-clause-row
returns-clause-row g c =
    let plan = c.args.plan.now in
    let x = operations_in plan in
    let piece = c.args.piece in
    let i = c.args.i in
    let planned = c.index-operations.result.now in
    let op : Operation = c.index-operation.result.now in
    let set = c.at-needs.result in
    let hops = c.in_ok-hops.hops.items in
    let all = planned_count plan piece planned c.requires.piece c.index-operations.ensures in
    let low : i < length planned.operations.items = omega (arith, all, c.requires.operation) in
    let needs : ◌≡◌ {A = ℕ → Bool} (λ line. x.needs piece i line) (λ line. holds set line) = needs_are plan piece planned c.requires.piece c.index-operations.ensures i set c.at-needs.ensures in
    let lines : map line_of hops ≡ needed x piece i = lines_needed (map line_of hops) (λ line. x.needs piece i line) (λ line. holds set line) (length c.args.scratch.now.before.items) x.net.routing.lines c.in_ok-hops.ensures.lines c.requires.counted.all.before needs in
    let few : map operand_seen c.first_operands.result ≡ first_three (map operand_seen op.operands.items) = c.first_operands.ensures ∙ ap (λ (os : List Operand). first_three (map operand_seen os)) c.in_ok-operands.ensures in
    let count : c.count_of-count.result ≡ short_count (length op.operands.items) = c.count_of-count.ensures ∙ ap (λ (os : List Operand). short_count (length os)) c.in_ok-operands.ensures in
    let hop_count : c.len-lines.result ≡ length hops = search rules in
    let waits : map operation_seen planned.operations.items ≡ operations_at x piece → c.waits_anew-waits.result ≡ waits_anew x piece i = λ own.
    c.waits_anew-waits.ensures.count i (operation_is plan piece planned c.requires.piece c.index-operations.ensures i op low c.index-operation.ensures own) (hop_count ∙ sym (length-map hops line_of) ∙ ap length lines) in
    let row : Row = record { task = c.task_of.result; operands = c.in_ok-operands.operands; few = c.first_operands.result; piece = piece; number = i; count = c.count_of-count.result; waits = c.waits_anew-waits.result; hops = c.in_ok-hops.hops; taker = c.args.taker; gives = c.gives_value.result; decides = c.is_decision.result; serial = c.holds.result; edge = c.first_out.result } in
    ∥∥₁_elim plan.is_net (hlevel props) (λ (is : IsOperationNet x).
    ∥∥₁_map (plan.own_operations piece planned (found plan piece planned c.requires.piece c.index-operations.ensures)) (λ (own : map operation_seen planned.operations.items ≡ operations_at x piece).
    row_made x piece i op (operation_is plan piece planned c.requires.piece c.index-operations.ensures i op low c.index-operation.ensures own) row
    refl refl c.task_of.ensures.task c.task_of.ensures.can c.task_of.ensures.operands
    (c.operations_fit.ensures.fits x piece i is c.requires.operation) (c.operations_fit.ensures.room x piece i is c.requires.piece c.requires.operation)
    c.in_ok-operands.ensures few count (waits own) c.gives_value.ensures c.is_decision.ensures (c.holds.ensures.member ∙ sym (ap (λ (test : ℕ → Bool). test 0) needs)) c.first_out.ensures.edge
    c.requires.taker lines (hops_counted x piece i c.args.scratch.now c.requires.counted hops lines c.in_ok-hops.ensures.before)))

pub returns-clause-counted : goal.returns-clause-counted
returns-clause-counted g c =
    let plan = c.args.plan.now in
    let x = operations_in plan in
    let planned = c.index-operations.result.now in
    let set = c.at-needs.result in
    let needs : ◌≡◌ {A = ℕ → Bool} (λ line. x.needs c.args.piece c.args.i line) (λ line. holds set line) = needs_are plan c.args.piece planned c.requires.piece c.index-operations.ensures c.args.i set c.at-needs.ensures in
    counted_more x c.args.piece c.args.i c.args.scratch.now c.requires.counted c.unlinked_hops.new.scratch c.in_ok-hops.ensures.all c.in_ok-hops.ensures.first
    (λ line. c.in_ok-hops.ensures.counts line ∙ ap (λ (test : ℕ → Bool). before_at c.args.scratch.now line + one_if (test line)) (sym needs))
