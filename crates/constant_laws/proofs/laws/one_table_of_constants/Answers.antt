use Rattle.std.proofs.Common.{◌+◌, refl, subst}
use Rattle.region_tree.specs.Tree.{Tree}
use Rattle.alias_classes.specs.Classes.{class_count}
use Rattle.cfg_build.specs.Flow.{flow}
use Rattle.dep_routing.specs.Routing.{IsRouting}
use Rattle.constant_laws.proofs.OneTable.{routings_alike, constants-same}
use Rattle.constant_laws.proofs.laws.one_table_of_constants.Goals as goal

pub returns : goal.returns
returns c = λ p k touches r s t u well classes routes others one two.
    let g = (flow p.execs).graph in
    let lines = class_count k + 1 in
    let program = c.program_facts.ensures.program p (flow p.execs) well refl in
    let strong = c.program_facts.ensures.strong p well in
    let same = c.one_tree.ensures g others.tree routes.tree strong others.is_tree routes.is_tree in
    let routing = subst (λ (tree : Tree). IsRouting g tree touches lines s) same others.routing in
    let alike = routings_alike g routes.tree touches lines r s (λ line e h i. c.next_edges.ensures.one g routes.tree touches line e h i strong routes.is_tree) routes.routing routing in
    constants-same p (flow p.execs) k touches program classes r s alike t u one two
