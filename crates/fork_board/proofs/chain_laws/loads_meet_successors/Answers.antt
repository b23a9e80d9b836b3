use Rattle.net_board.specs.Nodes.{graph_in}
use Rattle.fork_board.proofs.ChainLaws.{meet_successors}
use Rattle.fork_board.proofs.chain_laws.loads_meet_successors.Goals as goal

pub returns : goal.returns
returns c =
    meet_successors c.nets_begin_soundly.ensures (λ net n. c.nets_simulate_programs.ensures.begins net n) c.operations_have_facts.ensures
    (λ x n r flow number. c.region_borders.ensures (graph_in x.net) n.is_net.tree r flow n.is_net.own_tree number)
    (λ x n r flow number. c.start_is_outside.ensures (graph_in x.net) n.is_net.tree r flow n.is_net.own_tree number)
