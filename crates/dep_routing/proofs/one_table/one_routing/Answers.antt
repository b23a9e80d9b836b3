use Rattle.std.proofs.Common.{sym, subst}
use Rattle.region_tree.specs.Tree.{Tree}
use Rattle.dep_routing.specs.Routing.{IsRouting}
use Rattle.dep_routing.proofs.OneTable.{one_routing, same_table}
use Rattle.dep_routing.proofs.one_table.one_routing.Goals as goal

pub returns-clause-cells : goal.returns-clause-cells
returns-clause-cells c = same_table

pub returns-clause-one : goal.returns-clause-one
returns-clause-one c = λ g t u touches lines r s flow tree other is too rows also.
    one_routing g t touches (λ line e f h. c.next_edges.ensures.one g t touches line e f h flow tree) lines r s is
    (subst (λ (x : Tree). IsRouting g x touches lines s) (sym (c.one_tree.ensures g t u flow tree other)) too) rows also
