use Rattle.std.proofs.Common.{◌≡◌, ◌-◌, ℕ, true, false, Some, length, slice_get, slice_index, slice_set, refl, sym, ap, ◌∙◌, subst, arith}
use Rattle.std.specs.Vec.{with_item}
use Rattle.firing.specs.declared.system.NodeName.TheVariants.{Op}
use Rattle.net_board.proofs.ListPlaces.{length_slice_set}
use Rattle.net_board.proofs.NodeLaws.{same_some}
use Rattle.op_board.specs.OperationNets.{operation_node}
use Rattle.op_net.specs.NetView.{net_of as net_in}
use Rattle.fork_board.specs.ForkTokens.{is_load_node}
use Rattle.read_forks.specs.KeptLoads.{opened_of}
use Rattle.read_forks.specs.LoadChanges.{IsPut}
use Rattle.read_forks.specs.OpenedGroups.{is_open_in, node_in}
use Rattle.read_forks.specs.RisingLinks.{line_at, line_in}
use Rattle.read_forks.specs.Ways.{IsWayOf}
use Rattle.read_forks.specs.declared.steps.Link.{Link}
use Rattle.read_forks.specs.declared.waiting.Waiting.{Waiting}
use Rattle.read_forks.specs.declared.ways.Way.{Way}
use Rattle.read_forks.proofs.OpenedTables.{IsOperation, closed_now, node_inside, node_low, opened_link, opened_now, operation_is, read_item, step_named, tables_kept, waits_there, way_now}
use Rattle.read_forks.proofs.waiting.Waiting.open_link.Goals as goal

pub open_for-requires : goal.open_for-requires
open_for-requires g c =
    let x = net_in c.args.net.now in
    let w = c.args.self.now in
    let at = c.args.at in
    let t = c.requires.tables in
    let link : Link = c.index-link.result.now in
    let is : slice_get w.links.items at ≡ Some link = read_item w.links.items at link c.requires.inside c.index-link.ensures in
    let loads : is_load_node x (operation_node x link.node) ≡ true = subst (λ (k : ℕ). is_load_node x (operation_node x k) ≡ true) (ap node_in is) c.requires.loads in
    let shut : link.open ≡ false = sym (ap is_open_in is) ∙ c.requires.shut in
    let op : IsOperation (operation_node x link.node) = operation_is x (operation_node x link.node) loads in
    let inside = node_inside x w t at link is in
    let nodes = t.nodes in (
      omega arith,
      (
        node_low x w t at link is,
        (
          step_named x w t at link is op.piece op.number op.is,
          (inside, (loads, (c.requires.apart, (omega (arith, inside, nodes), waits_there x w t at link is op.piece op.number op.is shut c.requires.closed loads)))),
        ),
      ),
    )

pub returns-clause-way : goal.returns-clause-way
returns-clause-way g c =
    let x = net_in c.args.net.now in
    let w = c.args.self.now in
    let at = c.args.at in
    let t = c.requires.tables in
    let link : Link = c.index_mut.result.now in
    let is : slice_get w.links.items at ≡ Some link = read_item w.links.items at link c.requires.inside c.index_mut.ensures.value in
    let same : c.index-link.result.now ≡ link = same_some c.index-link.result.now link (sym (read_item w.links.items at c.index-link.result.now c.requires.inside c.index-link.ensures) ∙ is) in
    let new : Waiting = record { steps = w.steps; links = with_item w.links at (opened_link link); givers = w.givers; closed = c.open_for.new.closed; groups = w.groups } in
    let set : new.closed.items ≡ slice_set w.closed.items link.node (slice_index w.closed.items link.node - 1) = subst (λ (l : Link). new.closed.items ≡ slice_set w.closed.items l.node (slice_index w.closed.items l.node - 1)) same c.open_for.ensures.closed in
    let tables = tables_kept x w t at link is new refl refl refl refl (ap length set ∙ length_slice_set w.closed.items link.node (slice_index w.closed.items link.node - 1)) in
    let way = way_now x w t at link is new refl refl refl tables in
    subst (λ (k : ℕ). ∥ IsWayOf x new.links.items (operation_node x k) (line_at w.links.items at) c.index-link.result.now.way ∥₁) (sym (ap node_in is))
    (subst (λ (l : ℕ). ∥ IsWayOf x new.links.items (operation_node x link.node) l c.index-link.result.now.way ∥₁) (sym (ap line_in is))
    (subst (λ (v : Way). ∥ IsWayOf x new.links.items (operation_node x link.node) link.line v ∥₁) (sym (ap (λ (l : Link). l.way) same)) way))

pub returns-clause-tables : goal.returns-clause-tables
returns-clause-tables g c =
    let x = net_in c.args.net.now in
    let w = c.args.self.now in
    let at = c.args.at in
    let t = c.requires.tables in
    let link : Link = c.index_mut.result.now in
    let is : slice_get w.links.items at ≡ Some link = read_item w.links.items at link c.requires.inside c.index_mut.ensures.value in
    let same : c.index-link.result.now ≡ link = same_some c.index-link.result.now link (sym (read_item w.links.items at c.index-link.result.now c.requires.inside c.index-link.ensures) ∙ is) in
    let new : Waiting = record { steps = w.steps; links = with_item w.links at (opened_link link); givers = w.givers; closed = c.open_for.new.closed; groups = w.groups } in
    let set : new.closed.items ≡ slice_set w.closed.items link.node (slice_index w.closed.items link.node - 1) = subst (λ (l : Link). new.closed.items ≡ slice_set w.closed.items l.node (slice_index w.closed.items l.node - 1)) same c.open_for.ensures.closed in
    tables_kept x w t at link is new refl refl refl refl (ap length set ∙ length_slice_set w.closed.items link.node (slice_index w.closed.items link.node - 1))

pub returns-clause-closed : goal.returns-clause-closed
returns-clause-closed g c =
    let x = net_in c.args.net.now in
    let w = c.args.self.now in
    let at = c.args.at in
    let t = c.requires.tables in
    let link : Link = c.index_mut.result.now in
    let is : slice_get w.links.items at ≡ Some link = read_item w.links.items at link c.requires.inside c.index_mut.ensures.value in
    let same : c.index-link.result.now ≡ link = same_some c.index-link.result.now link (sym (read_item w.links.items at c.index-link.result.now c.requires.inside c.index-link.ensures) ∙ is) in
    let new : Waiting = record { steps = w.steps; links = with_item w.links at (opened_link link); givers = w.givers; closed = c.open_for.new.closed; groups = w.groups } in
    let set : new.closed.items ≡ slice_set w.closed.items link.node (slice_index w.closed.items link.node - 1) = subst (λ (l : Link). new.closed.items ≡ slice_set w.closed.items l.node (slice_index w.closed.items l.node - 1)) same c.open_for.ensures.closed in
    let loads : is_load_node x (operation_node x link.node) ≡ true = subst (λ (k : ℕ). is_load_node x (operation_node x k) ≡ true) (ap node_in is) c.requires.loads in
    let shut : link.open ≡ false = sym (ap is_open_in is) ∙ c.requires.shut in
    let op : IsOperation (operation_node x link.node) = operation_is x (operation_node x link.node) loads in
    closed_now x w t at link is new refl refl refl op.piece op.number op.is shut set c.requires.closed

pub returns-clause-opened : goal.returns-clause-opened
returns-clause-opened g c = λ piece number name.
    let x = net_in c.args.net.now in
    let w = c.args.self.now in
    let at = c.args.at in
    let t = c.requires.tables in
    let link : Link = c.index_mut.result.now in
    let is : slice_get w.links.items at ≡ Some link = read_item w.links.items at link c.requires.inside c.index_mut.ensures.value in
    let same : c.index-link.result.now ≡ link = same_some c.index-link.result.now link (sym (read_item w.links.items at c.index-link.result.now c.requires.inside c.index-link.ensures) ∙ is) in
    let new : Waiting = record { steps = w.steps; links = with_item w.links at (opened_link link); givers = w.givers; closed = c.open_for.new.closed; groups = w.groups } in
    let set : new.closed.items ≡ slice_set w.closed.items link.node (slice_index w.closed.items link.node - 1) = subst (λ (l : Link). new.closed.items ≡ slice_set w.closed.items l.node (slice_index w.closed.items l.node - 1)) same c.open_for.ensures.closed in
    subst (λ (l : ℕ). IsPut l piece number true (opened_of x w) (opened_of x new)) (sym (ap line_in is))
    (opened_now x w t at link is new refl refl refl piece number (subst (λ (k : ℕ). operation_node x k ≡ Op piece number) (ap node_in is) name))
