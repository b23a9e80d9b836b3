use Rattle.std.proofs.lemmas.List.Filters.{dedup_is}
use Rattle.graph_dependences.proofs.InOrder.{all_kept, sorted_once}
use Rattle.graph_dependences.proofs.dependence.put_in_order.Goals as goal

pub returns-clause-ordered : goal.returns-clause-ordered
returns-clause-ordered c = sorted_once _ _ c.in_ok-sort.ensures.sorted (dedup_is _ _ _ c.dedup.ensures.filtered)

pub returns-clause-same : goal.returns-clause-same
returns-clause-same c = all_kept _ _ _ c.sort.ensures.permutation (dedup_is _ _ _ c.dedup.ensures.filtered)
