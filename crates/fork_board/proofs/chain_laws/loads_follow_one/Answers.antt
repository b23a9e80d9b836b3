use Rattle.net_board.specs.Nodes.{graph_in}
use Rattle.fork_board.proofs.ChainLaws.{follow_one}
use Rattle.fork_board.proofs.chain_laws.loads_follow_one.Goals as goal

pub returns : goal.returns
returns c =
    follow_one c.nets_begin_soundly.ensures (λ net n. c.nets_simulate_programs.ensures.begins net n) c.operations_have_facts.ensures
    (λ x n r flow number. c.region_borders.ensures (graph_in x.net) n.is_net.tree r flow n.is_net.own_tree number)
    (λ x n r flow number. c.start_is_outside.ensures (graph_in x.net) n.is_net.tree r flow n.is_net.own_tree number)
    (λ x n line node touched. c.free_nodes.ensures.touching (graph_in x.net) n.is_net.tree x.net.touches line node touched)
    (λ x n line e d f flow first second next other. c.next_edges.ensures.back (graph_in x.net) n.is_net.tree x.net.touches line e d f flow n.is_net.own_tree first second next other)
