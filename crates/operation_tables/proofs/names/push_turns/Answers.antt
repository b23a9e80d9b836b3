use Rattle.std.proofs.Common.{◌≡◌, ◌≤◌, ◌-◌, ◌++◌, ◌∙◌, map, ap, arith}
use Rattle.std.specs.List.{range_with_len}
use Rattle.net_board.specs.Nodes.{node_at}
use Rattle.operation_tables.specs.PlanView.{operations_in}
use Rattle.operation_tables.proofs.NameLemmas.{turns_more}
use Rattle.operation_tables.proofs.names.push_turns.Goals as goal

pub loop-n-preserved : goal.loop-n-preserved
loop-n-preserved g c = turns_more (operations_in c.args.plan.now).net c.args.names.now c.loop-n.names c.push.new.self c.args.from c.loop-n.n c.name.result c.in_ok-push.ensures c.name.ensures c.loop-n.auto.n c.loop-n.invariant

pub returns : goal.returns
returns g c =
    let high : c.loop-n.n ≤ c.args.end = c.loop-n.auto.n-end c.requires.order in
    let all : c.loop-n.n - c.args.from ≡ c.args.end - c.args.from = omega arith in
    c.loop-n.invariant ∙ ap (λ k. c.args.names.now ++ map (node_at (operations_in c.args.plan.now).net) (range_with_len c.args.from k)) all
