use Rattle.std.proofs.Common.{◌≡◌, ◌+◌, ◌-◌, suc, Bool, if◌then◌else◌, length, sym, ap, ◌∙◌, arith}
use Rattle.std.proofs.lemmas.List.FromFn.{length-range_with_len}
use Rattle.net_board.specs.Nodes.{first_node, kind_in, switch_lines, switches}
use Rattle.operation_tables.specs.PlanView.{operations_in}
use Rattle.operation_tables.proofs.PlanCounts.{switch_count_few}
use Rattle.operation_tables.proofs.SwitchNodes.{switch_count}
use Rattle.operation_tables.proofs.rows.switches_told.Goals as goal

pub returns-then-is_decision-clause-count : goal.returns-then-is_decision-clause-count
returns-then-is_decision-clause-count g c =
    let x = operations_in c.args.plan.now in
    let piece = c.args.piece in
    let all = switch_count x piece c.requires.acts in
    let size = length-range_with_len (suc (first_node x.net piece)) (length (switch_lines x.net piece (kind_in x.net piece))) in
    let first = c.first.ensures in
    let end = c.end.ensures.end in
    let count : c.end.result - (c.first.result + 1) ≡ length (switches x.net piece) = omega (arith, all, size, first, end) in
    count ∙ sym (ap (λ (b : Bool). if b then length (switches x.net piece) else 0) (sym c.is_decision.ensures ∙ c.if-is_decision.true))

pub returns-then-is_decision-clause-few : goal.returns-then-is_decision-clause-few
returns-then-is_decision-clause-few g c =
    let x = operations_in c.args.plan.now in
    let all = switch_count x c.args.piece c.requires.acts in
    let few = switch_count_few x c.args.plan.now.board.plan.few_lines c.args.piece in
    let first = c.first.ensures in
    let end = c.end.ensures.end in
    omega (arith, all, few, first, end)
