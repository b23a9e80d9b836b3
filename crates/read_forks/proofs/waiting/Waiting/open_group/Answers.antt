use Rattle.std.proofs.Common.{◌+◌, ℕ, refl, sym, subst, arith}
use Rattle.std.specs.Vec.{with_item}
use Rattle.op_board.specs.OperationNets.{first_operation}
use Rattle.op_board.specs.OperationTokens.{passed_by}
use Rattle.op_net.specs.NetView.{marking_of as operations_on, net_of as net_in}
use Rattle.fork_board.specs.LoadGroups.{group_at, site, spot}
use Rattle.read_forks.specs.KeptLoads.{opened_of}
use Rattle.read_forks.specs.OpenGroups.{IsGroupAt}
use Rattle.read_forks.specs.OpenedGroups.{IsOpenedFor, StandsAt}
use Rattle.read_forks.specs.declared.waiting.Waiting.{Waiting}
use Rattle.read_forks.proofs.OpenedGroupsKept.{kept_then, opened_then}
use Rattle.read_forks.proofs.StoodLinks.{HasHeads, name_there, stands_by}
use Rattle.read_forks.proofs.waiting.Waiting.open_group.Goals as goal

pub opened_group-group-requires : goal.opened_group-group-requires
opened_group-group-requires g c =
    let x = net_in c.args.net.now in
    let m = operations_on c.args.net.now in
    let line = c.args.line in
    let links = c.args.self.now.links.items in
    let kept = c.requires.kept in
    let r = c.requires.first in
    let s = spot c.args.edge (passed_by m line) in
    let heads : HasHeads x = (c.nets_simulate_programs.ensures.begins x.net c.requires.is_net.is_net).ground.graph.heads in
    let name = name_there x heads line s c.requires.exists (site r.0 r.1.0) r.1.1.0 in
    let stands : StandsAt x links line c.args.first s = stands_by x links line c.args.first (first_operation x r.0 + r.1.0) s r.0 r.1.0 r.1.1.1 name r.1.1.0 in
    let there : StandsAt x links line c.args.first (spot c.args.edge c.passed-passed.result) = subst (λ (n : ℕ). StandsAt x links line c.args.first (spot c.args.edge n)) (sym c.passed-passed.ensures) stands in
    (omega arith, (c.requires.line, (c.requires.is_net, (c.requires.exists, (c.requires.apart, (kept.tables, (kept.closed, (c.requires.none, there))))))))

pub returns-clause-kept : goal.returns-clause-kept
returns-clause-kept g c =
    let x = net_in c.args.net.now in
    let m = operations_on c.args.net.now in
    let line = c.args.line in
    let edge = c.args.edge in
    let w = c.args.self.now in
    let did = c.opened_group-group in
    let mid = did.new.self in
    let new : Waiting = record { steps = mid.steps; links = mid.links; givers = mid.givers; closed = mid.closed; groups = with_item mid.groups line did.result } in
    let opened : IsOpenedFor line (group_at x line (spot edge (passed_by m line))) (opened_of x w) (opened_of x mid) = subst (λ (n : ℕ). IsOpenedFor line (group_at x line (spot edge n)) (opened_of x w) (opened_of x mid)) c.passed-passed.ensures did.ensures.opened in
    let own : IsGroupAt x (opened_of x mid) line (spot edge (passed_by m line)) did.result = subst (λ (n : ℕ). IsGroupAt x (opened_of x mid) line (spot edge n) did.result) c.passed-passed.ensures did.ensures.group in
    kept_then x m line edge c.requires.stands w mid new did.result c.requires.kept c.requires.line did.ensures.tables did.ensures.closed opened own did.ensures.groups refl refl refl refl refl

pub returns-clause-opened : goal.returns-clause-opened
returns-clause-opened g c =
    let x = net_in c.args.net.now in
    let m = operations_on c.args.net.now in
    let line = c.args.line in
    let edge = c.args.edge in
    let w = c.args.self.now in
    let did = c.opened_group-group in
    let mid = did.new.self in
    let new : Waiting = record { steps = mid.steps; links = mid.links; givers = mid.givers; closed = mid.closed; groups = with_item mid.groups line did.result } in
    let opened : IsOpenedFor line (group_at x line (spot edge (passed_by m line))) (opened_of x w) (opened_of x mid) = subst (λ (n : ℕ). IsOpenedFor line (group_at x line (spot edge n)) (opened_of x w) (opened_of x mid)) c.passed-passed.ensures did.ensures.opened in
    let own : IsGroupAt x (opened_of x mid) line (spot edge (passed_by m line)) did.result = subst (λ (n : ℕ). IsGroupAt x (opened_of x mid) line (spot edge n) did.result) c.passed-passed.ensures did.ensures.group in
    opened_then x m line edge c.requires.stands w mid new did.result c.requires.kept c.requires.line did.ensures.tables did.ensures.closed opened own did.ensures.groups refl refl refl refl refl
