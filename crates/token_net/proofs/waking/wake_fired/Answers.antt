use Rattle.std.proofs.Common.{◌≡◌, ◌<◌, ◌≤◌, ℕ, List, [], Option, length, vec_len, ap, sym, ◌∙◌, arith, rules, subst}
use Rattle.std.specs.Vec.{vec_capacity}
use Rattle.firing.specs.declared.system.NodeName.{NodeName}
use Rattle.firing.specs.declared.system.NodeName.TheVariants.{Merge, Switch}
use Rattle.net_board.specs.Nodes.{node_at}
use Rattle.net_board.specs.TokenEdges.{edge_at}
use Rattle.net_board.specs.WokenNodes.{HasNext, IsWoken, no_node}
use Rattle.net_tables.specs.LookupView.{net_on}
use Rattle.token_net.proofs.ActLemmas.{IsActing, IsMerging, IsSwitching, act_named, first_below, merge_named, switch_named}
use Rattle.token_net.proofs.FireShapes.{merge_woken, switch_woken}
use Rattle.net_tables.proofs.TokenLineLemmas.{none_all}
use Rattle.token_net.proofs.waking.wake_fired.Goals as goal

pub wake_past-requires : goal.wake_past-requires
wake_past-requires g c =
    let net = net_on c.args.board.now in
    let n : IsActing net c.in-Act.piece c.args.k = act_named net c.in-Act.piece c.args.k c.requires.node (sym c.name.ensures ∙ c.in-Act.is) in
    let empty : c.clear.new.self.items ≡ [] = search rules in
    (omega arith, (n.exists, (n.acts, (c.requires.all, (c.requires.edges, (empty, search rules))))))

pub first-first-requires : goal.first-first-requires
first-first-requires g c =
    let net = net_on c.args.board.now in
    let n : IsSwitching net c.in-Switch.piece c.in-Switch.line c.args.k = switch_named net c.in-Switch.piece c.args.k c.in-Switch.line c.requires.node (sym c.name.ensures ∙ c.in-Switch.is) in
    (omega arith, n.exists)

pub wake_before-requires : goal.wake_before-requires
wake_before-requires g c =
    let net = net_on c.args.board.now in
    let n : IsSwitching net c.in-Switch.piece c.in-Switch.line c.args.k = switch_named net c.in-Switch.piece c.args.k c.in-Switch.line c.requires.node (sym c.name.ensures ∙ c.in-Switch.is) in
    let empty : c.clear.new.self.items ≡ [] = search rules in
    let long : length c.clear.new.self.items ≡ vec_len c.clear.new.self = search rules in
    let none = ap length empty in
    let capacity : vec_capacity c.args.woken.now ≤ vec_capacity c.clear.new.self = search rules in
    (omega arith, (n.inside, (c.requires.all, (c.requires.edges, (none_all (λ (j : ℕ). j < no_node net) c.clear.new.self.items empty, omega (arith, long, none, capacity, c.requires.room))))))

pub wake_before-requires-in-Merge : goal.wake_before-requires-in-Merge
wake_before-requires-in-Merge g c =
    let net = net_on c.args.board.now in
    let n : IsMerging net c.in-Merge._piece c.in-Merge.line c.args.k = merge_named net c.in-Merge._piece c.args.k c.in-Merge.line c.requires.node (sym c.name.ensures ∙ c.in-Merge.is) in
    let empty : c.clear.new.self.items ≡ [] = search rules in
    let long : length c.clear.new.self.items ≡ vec_len c.clear.new.self = search rules in
    let none = ap length empty in
    let capacity : vec_capacity c.args.woken.now ≤ vec_capacity c.clear.new.self = search rules in
    (omega arith, (n.inside, (c.requires.all, (c.requires.edges, (none_all (λ (j : ℕ). j < no_node net) c.clear.new.self.items empty, omega (arith, long, none, capacity, c.requires.room))))))

pub returns-in-Switch-clause-woken : goal.returns-in-Switch-clause-woken
returns-in-Switch-clause-woken g c = λ m same.
    let net = net_on c.args.board.now in
    let line = c.in-Switch.line in
    let named : node_at net c.args.k ≡ Switch c.in-Switch.piece line = sym c.name.ensures ∙ c.in-Switch.is in
    let n : IsSwitching net c.in-Switch.piece line c.args.k = switch_named net c.in-Switch.piece c.args.k line c.requires.node named in
    let before = c.wake_before.new.woken.items in
    let has : HasNext net before line (edge_at m.lines line) = subst (λ (lines : List (Option ℕ)). HasNext net before line (edge_at lines line)) (sym same) c.wake_before.ensures.has in
    subst (λ (a : NodeName). IsWoken net m a c.wake.new.woken.items) (sym named)
    (switch_woken net m c.in-Switch.piece line c.first-first.result before c.wake.new.woken.items (c.wake.ensures.nodes (no_node net) c.wake_before.ensures.nodes (first_below net c.in-Switch.piece c.first-first.result n.exists n.acts c.first-first.ensures)) has c.wake.ensures.kept c.first-first.ensures c.wake.ensures.has)

pub returns-in-Merge-clause-woken : goal.returns-in-Merge-clause-woken
returns-in-Merge-clause-woken g c = λ m same.
    let net = net_on c.args.board.now in
    let line = c.in-Merge.line in
    let named : node_at net c.args.k ≡ Merge c.in-Merge._piece line = sym c.name.ensures ∙ c.in-Merge.is in
    let woken = c.wake_before-in-Merge.new.woken.items in
    let has : HasNext net woken line (edge_at m.lines line) = subst (λ (lines : List (Option ℕ)). HasNext net woken line (edge_at lines line)) (sym same) c.wake_before-in-Merge.ensures.has in
    subst (λ (a : NodeName). IsWoken net m a woken) (sym named) (merge_woken net m c.in-Merge._piece line woken c.wake_before-in-Merge.ensures.nodes has)
