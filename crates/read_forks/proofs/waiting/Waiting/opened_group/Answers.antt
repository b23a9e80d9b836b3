use Rattle.std.proofs.Common.{◌≡◌, ◌<◌, ◌+◌, ◌-◌, ◌^◌, ℕ, suc, Some, None, slice_get, refl, sym, ap, ◌∙◌, subst, add-one, arith, rules}
use Rattle.op_net.specs.NetView.{net_of as net_in}
use Rattle.operation_tables.specs.Waits.{IsNodeBefore, node_total}
use Rattle.fork_board.specs.LoadGroups.{most_loads, site, spot}
use Rattle.read_forks.specs.KeptLoads.{opened_of}
use Rattle.read_forks.specs.OpenedGroups.{node_at, node_in}
use Rattle.read_forks.specs.RisingLinks.{line_at}
use Rattle.read_forks.proofs.GroupStops.{StandAlone, few_passed, node_of_load, to_last, to_next}
use Rattle.read_forks.proofs.OpenedSteps.{HasOpened, apart_there, closed_there, loads_there, nothing_opened, one_more_load, shut_there, tables_there, way_there}
use Rattle.read_forks.proofs.OpenedTables.{read_item}
use Rattle.read_forks.proofs.OpenedWalks.{IsAlong, begins, never_all, opened_for_group, told_of_group}
use Rattle.read_forks.proofs.PlannedNodes.{stand_alone}
use Rattle.read_forks.proofs.StoodLinks.{HasHeads, IsLoadOf, load_of, node_low}
use Rattle.read_forks.proofs.waiting.Waiting.opened_group.Goals as goal

pub walk-init : goal.walk-init
walk-init g c =
    let x = net_in c.args.net.now in
    let s = spot c.args.edge c.args.passed in
    let links = c.args.self.now.links.items in
    let heads : HasHeads x = (c.nets_simulate_programs.ensures.begins x.net c.requires.is_net.is_net).ground.graph.heads in
    let alone : StandAlone x = stand_alone x (c.operations_have_facts.ensures x c.requires.is_net) in
    let first = c.requires.first in
    let load : IsLoadOf x c.args.line s (node_at links c.args.first) = load_of x c.args.line s (node_at links c.args.first) first.load in
    let is : slice_get links c.args.first ≡ Some c.index.result.now = read_item links c.args.first c.index.result.now first.inside c.index.ensures in
    let low = node_low x links c.args.line c.args.first s first c.args.self.now.steps c.requires.tables.steps in
    record {
      has = nothing_opened c.args.net.now c.args.self.now c.args.line s c.requires.tables c.requires.closed c.requires.none;
      all = omega (arith, c.nodes-most.ensures);
      along = begins x c.args.line s 0 refl c.requires.exists;
      stands = first;
      from = subst (λ (k : ℕ). IsNodeBefore x c.args.line (Some c.args.edge) c.args.passed k) (ap node_in is) (node_of_load x heads alone c.args.line s c.requires.exists load.piece load.number load.here s (node_at links c.args.first) low load.name);
    }

pub open_link-way-requires : goal.open_link-way-requires
open_link-way-requires g c =
    let x = net_in c.args.net.now in
    let s = spot c.args.edge c.args.passed in
    let t = spot c.walk.group.edge c.walk.group.passed in
    let inv = c.walk.invariant in
    let links = c.walk.self.links.items in
    let load : IsLoadOf x c.args.line t (node_at links c.walk.at) = load_of x c.args.line t (node_at links c.walk.at) inv.stands.load in
    let once = c.loads_come_once.ensures x c.requires.is_net in (
      omega arith,
      (
        inv.stands.inside,
        (
          loads_there c.args.net.now c.args.self.now c.args.line s c.walk.group.left c.walk.self c.walk.net t inv.has inv.along c.walk.at inv.stands,
          (
            shut_there c.args.net.now c.args.self.now c.args.line s c.walk.group.left c.walk.self c.walk.net t inv.has inv.along c.walk.at inv.stands once c.requires.line c.requires.exists,
            (apart_there c.args.net.now c.args.self.now c.args.line s c.walk.group.left c.walk.self c.walk.net t inv.has inv.along c.walk.at inv.stands c.requires.apart, (tables_there c.args.net.now c.args.self.now c.args.line s c.walk.group.left c.walk.self c.walk.net t inv.has inv.along c.walk.at inv.stands, closed_there c.args.net.now c.args.self.now c.args.line s c.walk.group.left c.walk.self c.walk.net t inv.has inv.along c.walk.at inv.stands)),
          ),
        ),
      ),
    )

pub gone_on-next-requires-clause-passed : goal.gone_on-next-requires-clause-passed
gone_on-next-requires-clause-passed g c =
    let x = net_in c.args.net.now in
    let s = spot c.args.edge c.args.passed in
    let t = spot c.walk.group.edge c.walk.group.passed in
    let inv = c.walk.invariant in
    let links = c.walk.self.links.items in
    let load : IsLoadOf x c.args.line t (node_at links c.walk.at) = load_of x c.args.line t (node_at links c.walk.at) inv.stands.load in
    let heads : HasHeads x = (c.nets_simulate_programs.ensures.begins x.net c.requires.is_net.is_net).ground.graph.heads in
    let alone : StandAlone x = stand_alone x (c.operations_have_facts.ensures x c.requires.is_net) in
    let did = c.open_link-way in
    let k = node_at links c.walk.at in
    let l = line_at links c.walk.at in
    let way = way_there c.args.net.now c.args.self.now c.args.line s c.walk.group.left c.walk.self c.walk.net t inv.has inv.along c.walk.at inv.stands did.new.self.links.items did.result did.ensures.way in
    let nodes : c.nodes-most.result < 2 ^ 32 = search rules in
    let total : node_total x < 2 ^ 32 = subst (λ (n : ℕ). n < 2 ^ 32) c.nodes-most.ensures nodes in
    few_passed x heads alone c.args.line t inv.along.exists load.piece load.number load.here t did.new.self.links.items k l load.name inv.stands.same did.result way total

pub walk-preserved : goal.walk-preserved
walk-preserved g c =
    let x = net_in c.args.net.now in
    let s = spot c.args.edge c.args.passed in
    let t = spot c.walk.group.edge c.walk.group.passed in
    let inv = c.walk.invariant in
    let links = c.walk.self.links.items in
    let load : IsLoadOf x c.args.line t (node_at links c.walk.at) = load_of x c.args.line t (node_at links c.walk.at) inv.stands.load in
    let heads : HasHeads x = (c.nets_simulate_programs.ensures.begins x.net c.requires.is_net.is_net).ground.graph.heads in
    let alone : StandAlone x = stand_alone x (c.operations_have_facts.ensures x c.requires.is_net) in
    let did = c.open_link-way in
    let k = node_at links c.walk.at in
    let l = line_at links c.walk.at in
    let way = way_there c.args.net.now c.args.self.now c.args.line s c.walk.group.left c.walk.self c.walk.net t inv.has inv.along c.walk.at inv.stands did.new.self.links.items did.result did.ensures.way in
    let gone = c.gone_on-next in
    let u = spot gone.result.0.edge gone.result.0.passed in
    let left : gone.result.0.left ≡ suc c.walk.group.left = gone.ensures.left ∙ add-one c.walk.group.left in
    let all = inv.all in
    let next = to_next x heads alone c.args.line t inv.along.exists load.piece load.number load.here u did.new.self.links.items k l load.name inv.stands.same did.result c.in-Some.link way (sym gone.ensures.next ∙ c.in-Some.is) gone.ensures.edge gone.ensures.passed in
    let then_is = one_more_load c.args.net.now c.args.self.now c.args.line s c.walk.group.left c.walk.self c.walk.net t inv.has inv.along c.walk.at inv.stands did.new.self did.new.net did.ensures.rest did.ensures.tables did.ensures.closed did.ensures.opened did.ensures.marks did.ensures.steps did.ensures.groups u next.0 next.1 next.2 in
    record {
      has = subst (λ (n : ℕ). HasOpened c.args.net.now c.args.self.now c.args.line s n did.new.self did.new.net) (sym left) then_is.0;
      all = omega (arith, all, left, c.walk-test.true);
      along = subst (λ (n : ℕ). IsAlong x c.args.line s n u) (sym left) then_is.1;
      stands = record { inside = next.3; same = next.4; load = next.5 };
      from = subst (λ (n : ℕ). IsNodeBefore x c.args.line (Some c.args.edge) c.args.passed n) (sym gone.ensures.from) inv.from;
    }

pub returns-in_default-clause-rest : goal.returns-in_default-clause-rest
returns-in_default-clause-rest g c =
    let x = net_in c.args.net.now in
    let s = spot c.args.edge c.args.passed in
    let t = spot c.walk.group.edge c.walk.group.passed in
    let inv = c.walk.invariant in
    let links = c.walk.self.links.items in
    let load : IsLoadOf x c.args.line t (node_at links c.walk.at) = load_of x c.args.line t (node_at links c.walk.at) inv.stands.load in
    let heads : HasHeads x = (c.nets_simulate_programs.ensures.begins x.net c.requires.is_net.is_net).ground.graph.heads in
    let alone : StandAlone x = stand_alone x (c.operations_have_facts.ensures x c.requires.is_net) in
    let did = c.open_link-way in
    let k = node_at links c.walk.at in
    let l = line_at links c.walk.at in
    let way = way_there c.args.net.now c.args.self.now c.args.line s c.walk.group.left c.walk.self c.walk.net t inv.has inv.along c.walk.at inv.stands did.new.self.links.items did.result did.ensures.way in
    let gone = c.gone_on-next in
    let u = spot gone.result.0.edge gone.result.0.passed in
    let left : gone.result.0.left ≡ suc c.walk.group.left = gone.ensures.left ∙ add-one c.walk.group.left in
    let all = inv.all in
    let none : gone.result.1 ≡ None = search rules in
    let end = to_last x heads alone c.args.line t inv.along.exists load.piece load.number load.here u did.new.self.links.items k l load.name inv.stands.same did.result c.walk.group.to way (sym gone.ensures.next ∙ none) gone.ensures.edge gone.ensures.passed in
    let then_is = one_more_load c.args.net.now c.args.self.now c.args.line s c.walk.group.left c.walk.self c.walk.net t inv.has inv.along c.walk.at inv.stands did.new.self did.new.net did.ensures.rest did.ensures.tables did.ensures.closed did.ensures.opened did.ensures.marks did.ensures.steps did.ensures.groups u end.0 end.1 end.2 in
    let has : HasOpened c.args.net.now c.args.self.now c.args.line s gone.result.0.left did.new.self did.new.net = subst (λ (n : ℕ). HasOpened c.args.net.now c.args.self.now c.args.line s n did.new.self did.new.net) (sym left) then_is.0 in
    let along : IsAlong x c.args.line s gone.result.0.left u = subst (λ (n : ℕ). IsAlong x c.args.line s n u) (sym left) then_is.1 in
    let whole : (c.walk.most - 1) + gone.result.0.left ≡ most_loads x = omega (arith, all, left, c.walk-test.true) in
    has.rest

pub returns-in_default-clause-tables : goal.returns-in_default-clause-tables
returns-in_default-clause-tables g c =
    let x = net_in c.args.net.now in
    let s = spot c.args.edge c.args.passed in
    let t = spot c.walk.group.edge c.walk.group.passed in
    let inv = c.walk.invariant in
    let links = c.walk.self.links.items in
    let load : IsLoadOf x c.args.line t (node_at links c.walk.at) = load_of x c.args.line t (node_at links c.walk.at) inv.stands.load in
    let heads : HasHeads x = (c.nets_simulate_programs.ensures.begins x.net c.requires.is_net.is_net).ground.graph.heads in
    let alone : StandAlone x = stand_alone x (c.operations_have_facts.ensures x c.requires.is_net) in
    let did = c.open_link-way in
    let k = node_at links c.walk.at in
    let l = line_at links c.walk.at in
    let way = way_there c.args.net.now c.args.self.now c.args.line s c.walk.group.left c.walk.self c.walk.net t inv.has inv.along c.walk.at inv.stands did.new.self.links.items did.result did.ensures.way in
    let gone = c.gone_on-next in
    let u = spot gone.result.0.edge gone.result.0.passed in
    let left : gone.result.0.left ≡ suc c.walk.group.left = gone.ensures.left ∙ add-one c.walk.group.left in
    let all = inv.all in
    let none : gone.result.1 ≡ None = search rules in
    let end = to_last x heads alone c.args.line t inv.along.exists load.piece load.number load.here u did.new.self.links.items k l load.name inv.stands.same did.result c.walk.group.to way (sym gone.ensures.next ∙ none) gone.ensures.edge gone.ensures.passed in
    let then_is = one_more_load c.args.net.now c.args.self.now c.args.line s c.walk.group.left c.walk.self c.walk.net t inv.has inv.along c.walk.at inv.stands did.new.self did.new.net did.ensures.rest did.ensures.tables did.ensures.closed did.ensures.opened did.ensures.marks did.ensures.steps did.ensures.groups u end.0 end.1 end.2 in
    let has : HasOpened c.args.net.now c.args.self.now c.args.line s gone.result.0.left did.new.self did.new.net = subst (λ (n : ℕ). HasOpened c.args.net.now c.args.self.now c.args.line s n did.new.self did.new.net) (sym left) then_is.0 in
    let along : IsAlong x c.args.line s gone.result.0.left u = subst (λ (n : ℕ). IsAlong x c.args.line s n u) (sym left) then_is.1 in
    let whole : (c.walk.most - 1) + gone.result.0.left ≡ most_loads x = omega (arith, all, left, c.walk-test.true) in
    has.tables

pub returns-in_default-clause-closed : goal.returns-in_default-clause-closed
returns-in_default-clause-closed g c =
    let x = net_in c.args.net.now in
    let s = spot c.args.edge c.args.passed in
    let t = spot c.walk.group.edge c.walk.group.passed in
    let inv = c.walk.invariant in
    let links = c.walk.self.links.items in
    let load : IsLoadOf x c.args.line t (node_at links c.walk.at) = load_of x c.args.line t (node_at links c.walk.at) inv.stands.load in
    let heads : HasHeads x = (c.nets_simulate_programs.ensures.begins x.net c.requires.is_net.is_net).ground.graph.heads in
    let alone : StandAlone x = stand_alone x (c.operations_have_facts.ensures x c.requires.is_net) in
    let did = c.open_link-way in
    let k = node_at links c.walk.at in
    let l = line_at links c.walk.at in
    let way = way_there c.args.net.now c.args.self.now c.args.line s c.walk.group.left c.walk.self c.walk.net t inv.has inv.along c.walk.at inv.stands did.new.self.links.items did.result did.ensures.way in
    let gone = c.gone_on-next in
    let u = spot gone.result.0.edge gone.result.0.passed in
    let left : gone.result.0.left ≡ suc c.walk.group.left = gone.ensures.left ∙ add-one c.walk.group.left in
    let all = inv.all in
    let none : gone.result.1 ≡ None = search rules in
    let end = to_last x heads alone c.args.line t inv.along.exists load.piece load.number load.here u did.new.self.links.items k l load.name inv.stands.same did.result c.walk.group.to way (sym gone.ensures.next ∙ none) gone.ensures.edge gone.ensures.passed in
    let then_is = one_more_load c.args.net.now c.args.self.now c.args.line s c.walk.group.left c.walk.self c.walk.net t inv.has inv.along c.walk.at inv.stands did.new.self did.new.net did.ensures.rest did.ensures.tables did.ensures.closed did.ensures.opened did.ensures.marks did.ensures.steps did.ensures.groups u end.0 end.1 end.2 in
    let has : HasOpened c.args.net.now c.args.self.now c.args.line s gone.result.0.left did.new.self did.new.net = subst (λ (n : ℕ). HasOpened c.args.net.now c.args.self.now c.args.line s n did.new.self did.new.net) (sym left) then_is.0 in
    let along : IsAlong x c.args.line s gone.result.0.left u = subst (λ (n : ℕ). IsAlong x c.args.line s n u) (sym left) then_is.1 in
    let whole : (c.walk.most - 1) + gone.result.0.left ≡ most_loads x = omega (arith, all, left, c.walk-test.true) in
    has.closed

pub returns-in_default-clause-marks : goal.returns-in_default-clause-marks
returns-in_default-clause-marks g c =
    let x = net_in c.args.net.now in
    let s = spot c.args.edge c.args.passed in
    let t = spot c.walk.group.edge c.walk.group.passed in
    let inv = c.walk.invariant in
    let links = c.walk.self.links.items in
    let load : IsLoadOf x c.args.line t (node_at links c.walk.at) = load_of x c.args.line t (node_at links c.walk.at) inv.stands.load in
    let heads : HasHeads x = (c.nets_simulate_programs.ensures.begins x.net c.requires.is_net.is_net).ground.graph.heads in
    let alone : StandAlone x = stand_alone x (c.operations_have_facts.ensures x c.requires.is_net) in
    let did = c.open_link-way in
    let k = node_at links c.walk.at in
    let l = line_at links c.walk.at in
    let way = way_there c.args.net.now c.args.self.now c.args.line s c.walk.group.left c.walk.self c.walk.net t inv.has inv.along c.walk.at inv.stands did.new.self.links.items did.result did.ensures.way in
    let gone = c.gone_on-next in
    let u = spot gone.result.0.edge gone.result.0.passed in
    let left : gone.result.0.left ≡ suc c.walk.group.left = gone.ensures.left ∙ add-one c.walk.group.left in
    let all = inv.all in
    let none : gone.result.1 ≡ None = search rules in
    let end = to_last x heads alone c.args.line t inv.along.exists load.piece load.number load.here u did.new.self.links.items k l load.name inv.stands.same did.result c.walk.group.to way (sym gone.ensures.next ∙ none) gone.ensures.edge gone.ensures.passed in
    let then_is = one_more_load c.args.net.now c.args.self.now c.args.line s c.walk.group.left c.walk.self c.walk.net t inv.has inv.along c.walk.at inv.stands did.new.self did.new.net did.ensures.rest did.ensures.tables did.ensures.closed did.ensures.opened did.ensures.marks did.ensures.steps did.ensures.groups u end.0 end.1 end.2 in
    let has : HasOpened c.args.net.now c.args.self.now c.args.line s gone.result.0.left did.new.self did.new.net = subst (λ (n : ℕ). HasOpened c.args.net.now c.args.self.now c.args.line s n did.new.self did.new.net) (sym left) then_is.0 in
    let along : IsAlong x c.args.line s gone.result.0.left u = subst (λ (n : ℕ). IsAlong x c.args.line s n u) (sym left) then_is.1 in
    let whole : (c.walk.most - 1) + gone.result.0.left ≡ most_loads x = omega (arith, all, left, c.walk-test.true) in
    has.marks

pub returns-in_default-clause-steps : goal.returns-in_default-clause-steps
returns-in_default-clause-steps g c =
    let x = net_in c.args.net.now in
    let s = spot c.args.edge c.args.passed in
    let t = spot c.walk.group.edge c.walk.group.passed in
    let inv = c.walk.invariant in
    let links = c.walk.self.links.items in
    let load : IsLoadOf x c.args.line t (node_at links c.walk.at) = load_of x c.args.line t (node_at links c.walk.at) inv.stands.load in
    let heads : HasHeads x = (c.nets_simulate_programs.ensures.begins x.net c.requires.is_net.is_net).ground.graph.heads in
    let alone : StandAlone x = stand_alone x (c.operations_have_facts.ensures x c.requires.is_net) in
    let did = c.open_link-way in
    let k = node_at links c.walk.at in
    let l = line_at links c.walk.at in
    let way = way_there c.args.net.now c.args.self.now c.args.line s c.walk.group.left c.walk.self c.walk.net t inv.has inv.along c.walk.at inv.stands did.new.self.links.items did.result did.ensures.way in
    let gone = c.gone_on-next in
    let u = spot gone.result.0.edge gone.result.0.passed in
    let left : gone.result.0.left ≡ suc c.walk.group.left = gone.ensures.left ∙ add-one c.walk.group.left in
    let all = inv.all in
    let none : gone.result.1 ≡ None = search rules in
    let end = to_last x heads alone c.args.line t inv.along.exists load.piece load.number load.here u did.new.self.links.items k l load.name inv.stands.same did.result c.walk.group.to way (sym gone.ensures.next ∙ none) gone.ensures.edge gone.ensures.passed in
    let then_is = one_more_load c.args.net.now c.args.self.now c.args.line s c.walk.group.left c.walk.self c.walk.net t inv.has inv.along c.walk.at inv.stands did.new.self did.new.net did.ensures.rest did.ensures.tables did.ensures.closed did.ensures.opened did.ensures.marks did.ensures.steps did.ensures.groups u end.0 end.1 end.2 in
    let has : HasOpened c.args.net.now c.args.self.now c.args.line s gone.result.0.left did.new.self did.new.net = subst (λ (n : ℕ). HasOpened c.args.net.now c.args.self.now c.args.line s n did.new.self did.new.net) (sym left) then_is.0 in
    let along : IsAlong x c.args.line s gone.result.0.left u = subst (λ (n : ℕ). IsAlong x c.args.line s n u) (sym left) then_is.1 in
    let whole : (c.walk.most - 1) + gone.result.0.left ≡ most_loads x = omega (arith, all, left, c.walk-test.true) in
    has.steps

pub returns-in_default-clause-groups : goal.returns-in_default-clause-groups
returns-in_default-clause-groups g c =
    let x = net_in c.args.net.now in
    let s = spot c.args.edge c.args.passed in
    let t = spot c.walk.group.edge c.walk.group.passed in
    let inv = c.walk.invariant in
    let links = c.walk.self.links.items in
    let load : IsLoadOf x c.args.line t (node_at links c.walk.at) = load_of x c.args.line t (node_at links c.walk.at) inv.stands.load in
    let heads : HasHeads x = (c.nets_simulate_programs.ensures.begins x.net c.requires.is_net.is_net).ground.graph.heads in
    let alone : StandAlone x = stand_alone x (c.operations_have_facts.ensures x c.requires.is_net) in
    let did = c.open_link-way in
    let k = node_at links c.walk.at in
    let l = line_at links c.walk.at in
    let way = way_there c.args.net.now c.args.self.now c.args.line s c.walk.group.left c.walk.self c.walk.net t inv.has inv.along c.walk.at inv.stands did.new.self.links.items did.result did.ensures.way in
    let gone = c.gone_on-next in
    let u = spot gone.result.0.edge gone.result.0.passed in
    let left : gone.result.0.left ≡ suc c.walk.group.left = gone.ensures.left ∙ add-one c.walk.group.left in
    let all = inv.all in
    let none : gone.result.1 ≡ None = search rules in
    let end = to_last x heads alone c.args.line t inv.along.exists load.piece load.number load.here u did.new.self.links.items k l load.name inv.stands.same did.result c.walk.group.to way (sym gone.ensures.next ∙ none) gone.ensures.edge gone.ensures.passed in
    let then_is = one_more_load c.args.net.now c.args.self.now c.args.line s c.walk.group.left c.walk.self c.walk.net t inv.has inv.along c.walk.at inv.stands did.new.self did.new.net did.ensures.rest did.ensures.tables did.ensures.closed did.ensures.opened did.ensures.marks did.ensures.steps did.ensures.groups u end.0 end.1 end.2 in
    let has : HasOpened c.args.net.now c.args.self.now c.args.line s gone.result.0.left did.new.self did.new.net = subst (λ (n : ℕ). HasOpened c.args.net.now c.args.self.now c.args.line s n did.new.self did.new.net) (sym left) then_is.0 in
    let along : IsAlong x c.args.line s gone.result.0.left u = subst (λ (n : ℕ). IsAlong x c.args.line s n u) (sym left) then_is.1 in
    let whole : (c.walk.most - 1) + gone.result.0.left ≡ most_loads x = omega (arith, all, left, c.walk-test.true) in
    has.groups

pub returns-in_default-clause-opened : goal.returns-in_default-clause-opened
returns-in_default-clause-opened g c =
    let x = net_in c.args.net.now in
    let s = spot c.args.edge c.args.passed in
    let t = spot c.walk.group.edge c.walk.group.passed in
    let inv = c.walk.invariant in
    let links = c.walk.self.links.items in
    let load : IsLoadOf x c.args.line t (node_at links c.walk.at) = load_of x c.args.line t (node_at links c.walk.at) inv.stands.load in
    let heads : HasHeads x = (c.nets_simulate_programs.ensures.begins x.net c.requires.is_net.is_net).ground.graph.heads in
    let alone : StandAlone x = stand_alone x (c.operations_have_facts.ensures x c.requires.is_net) in
    let did = c.open_link-way in
    let k = node_at links c.walk.at in
    let l = line_at links c.walk.at in
    let way = way_there c.args.net.now c.args.self.now c.args.line s c.walk.group.left c.walk.self c.walk.net t inv.has inv.along c.walk.at inv.stands did.new.self.links.items did.result did.ensures.way in
    let gone = c.gone_on-next in
    let u = spot gone.result.0.edge gone.result.0.passed in
    let left : gone.result.0.left ≡ suc c.walk.group.left = gone.ensures.left ∙ add-one c.walk.group.left in
    let all = inv.all in
    let none : gone.result.1 ≡ None = search rules in
    let end = to_last x heads alone c.args.line t inv.along.exists load.piece load.number load.here u did.new.self.links.items k l load.name inv.stands.same did.result c.walk.group.to way (sym gone.ensures.next ∙ none) gone.ensures.edge gone.ensures.passed in
    let then_is = one_more_load c.args.net.now c.args.self.now c.args.line s c.walk.group.left c.walk.self c.walk.net t inv.has inv.along c.walk.at inv.stands did.new.self did.new.net did.ensures.rest did.ensures.tables did.ensures.closed did.ensures.opened did.ensures.marks did.ensures.steps did.ensures.groups u end.0 end.1 end.2 in
    let has : HasOpened c.args.net.now c.args.self.now c.args.line s gone.result.0.left did.new.self did.new.net = subst (λ (n : ℕ). HasOpened c.args.net.now c.args.self.now c.args.line s n did.new.self did.new.net) (sym left) then_is.0 in
    let along : IsAlong x c.args.line s gone.result.0.left u = subst (λ (n : ℕ). IsAlong x c.args.line s n u) (sym left) then_is.1 in
    let whole : (c.walk.most - 1) + gone.result.0.left ≡ most_loads x = omega (arith, all, left, c.walk-test.true) in
    opened_for_group x c.args.line s u gone.result.0.left (c.walk.most - 1) whole along end.3 (opened_of x c.args.self.now) (opened_of x did.new.self) has.opened

pub returns-in_default-clause-group : goal.returns-in_default-clause-group
returns-in_default-clause-group g c =
    let x = net_in c.args.net.now in
    let s = spot c.args.edge c.args.passed in
    let t = spot c.walk.group.edge c.walk.group.passed in
    let inv = c.walk.invariant in
    let links = c.walk.self.links.items in
    let load : IsLoadOf x c.args.line t (node_at links c.walk.at) = load_of x c.args.line t (node_at links c.walk.at) inv.stands.load in
    let heads : HasHeads x = (c.nets_simulate_programs.ensures.begins x.net c.requires.is_net.is_net).ground.graph.heads in
    let alone : StandAlone x = stand_alone x (c.operations_have_facts.ensures x c.requires.is_net) in
    let did = c.open_link-way in
    let k = node_at links c.walk.at in
    let l = line_at links c.walk.at in
    let way = way_there c.args.net.now c.args.self.now c.args.line s c.walk.group.left c.walk.self c.walk.net t inv.has inv.along c.walk.at inv.stands did.new.self.links.items did.result did.ensures.way in
    let gone = c.gone_on-next in
    let u = spot gone.result.0.edge gone.result.0.passed in
    let left : gone.result.0.left ≡ suc c.walk.group.left = gone.ensures.left ∙ add-one c.walk.group.left in
    let all = inv.all in
    let none : gone.result.1 ≡ None = search rules in
    let end = to_last x heads alone c.args.line t inv.along.exists load.piece load.number load.here u did.new.self.links.items k l load.name inv.stands.same did.result c.walk.group.to way (sym gone.ensures.next ∙ none) gone.ensures.edge gone.ensures.passed in
    let then_is = one_more_load c.args.net.now c.args.self.now c.args.line s c.walk.group.left c.walk.self c.walk.net t inv.has inv.along c.walk.at inv.stands did.new.self did.new.net did.ensures.rest did.ensures.tables did.ensures.closed did.ensures.opened did.ensures.marks did.ensures.steps did.ensures.groups u end.0 end.1 end.2 in
    let has : HasOpened c.args.net.now c.args.self.now c.args.line s gone.result.0.left did.new.self did.new.net = subst (λ (n : ℕ). HasOpened c.args.net.now c.args.self.now c.args.line s n did.new.self did.new.net) (sym left) then_is.0 in
    let along : IsAlong x c.args.line s gone.result.0.left u = subst (λ (n : ℕ). IsAlong x c.args.line s n u) (sym left) then_is.1 in
    let whole : (c.walk.most - 1) + gone.result.0.left ≡ most_loads x = omega (arith, all, left, c.walk-test.true) in
    told_of_group x c.args.line s u gone.result.0.left (c.walk.most - 1) whole along end.3 (opened_of x c.args.self.now) (opened_of x did.new.self) has.opened gone.result.0 refl refl refl
    (subst (λ (n : ℕ). IsNodeBefore x c.args.line (Some c.args.edge) c.args.passed n) (sym gone.ensures.from) inv.from)
    (subst (λ (n : ℕ). IsNodeBefore x c.args.line (Some u.edge) u.passed n) (sym gone.ensures.to) end.4)

pub returns-clause-rest : goal.returns-clause-rest
returns-clause-rest g c = c.walk.invariant.has.rest

pub returns-clause-tables : goal.returns-clause-tables
returns-clause-tables g c = c.walk.invariant.has.tables

pub returns-clause-closed : goal.returns-clause-closed
returns-clause-closed g c = c.walk.invariant.has.closed

pub returns-clause-marks : goal.returns-clause-marks
returns-clause-marks g c = c.walk.invariant.has.marks

pub returns-clause-steps : goal.returns-clause-steps
returns-clause-steps g c = c.walk.invariant.has.steps

pub returns-clause-groups : goal.returns-clause-groups
returns-clause-groups g c = c.walk.invariant.has.groups

pub returns-clause-opened : goal.returns-clause-opened
returns-clause-opened g c =
    let x = net_in c.args.net.now in
    let s = spot c.args.edge c.args.passed in
    let t = spot c.walk.group.edge c.walk.group.passed in
    let inv = c.walk.invariant in
    let links = c.walk.self.links.items in
    let load : IsLoadOf x c.args.line t (node_at links c.walk.at) = load_of x c.args.line t (node_at links c.walk.at) inv.stands.load in
    let all = inv.all in
    let whole : c.walk.group.left ≡ most_loads x = omega (arith, all, c.walk-test.false) in
    absurd (never_all x c.args.line (c.groups_end.ensures x c.requires.is_net) c.requires.line s c.walk.group.left t (site load.piece load.number) c.requires.exists whole inv.along load.here)

pub returns-clause-group : goal.returns-clause-group
returns-clause-group g c =
    let x = net_in c.args.net.now in
    let s = spot c.args.edge c.args.passed in
    let t = spot c.walk.group.edge c.walk.group.passed in
    let inv = c.walk.invariant in
    let links = c.walk.self.links.items in
    let load : IsLoadOf x c.args.line t (node_at links c.walk.at) = load_of x c.args.line t (node_at links c.walk.at) inv.stands.load in
    let all = inv.all in
    let whole : c.walk.group.left ≡ most_loads x = omega (arith, all, c.walk-test.false) in
    absurd (never_all x c.args.line (c.groups_end.ensures x c.requires.is_net) c.requires.line s c.walk.group.left t (site load.piece load.number) c.requires.exists whole inv.along load.here)
