-- The links of the loads before which a line stands, from one load of a group to the next.
use Rattle.std.proofs.Common.{◌≡◌, ◌<◌, ℕ, suc, ◌+◌, true, false, if◌then◌else◌, List, length, Option, Some, None, is_some, slice_get, refl, sym, ap, ◌∙◌, subst, arith}
use Rattle.closed_walks.specs.Graph.{edge_count, to}
use Rattle.dep_routing.specs.Touches.{exec_kind}
use Rattle.firing.specs.declared.system.NodeName.{NodeName}
use Rattle.firing.specs.declared.system.NodeName.TheVariants.{Act, Merge, Op, Switch}
use Rattle.net_board.specs.Nodes.{graph_in, kind_in}
use Rattle.net_board.proofs.NodeLaws.{get_some}
use Rattle.op_board.specs.OperationNets.{OperationNet, all_operation_nodes, first_operation, operation_count, operation_node}
use Rattle.op_board.proofs.OperationNumbers.{operation_name, operation_stands}
use Rattle.operation_tables.specs.Waits.{IsNodeBefore, node_total}
use Rattle.fork_board.specs.ForkTokens.{is_load_node}
use Rattle.fork_board.specs.LoadGroups.{Site, Spot, load_at, site, spot, spot_after}
use Rattle.fork_board.proofs.ForkLines.{same_site}
use Rattle.fork_board.proofs.ForksApart.{acting_with}
use Rattle.read_forks.specs.NodeLinks.{AreSteps, opened_in}
use Rattle.read_forks.specs.OpenedGroups.{StandsAt, is_load_of, is_open_in, node_at, node_in}
use Rattle.read_forks.specs.RisingLinks.{line_at, line_in}
use Rattle.read_forks.specs.Ways.{IsHere, IsLinkAt, IsLinkOf, IsNodeHere, IsWay, IsWayOf}
use Rattle.read_forks.specs.declared.steps.Link.{Link}
use Rattle.read_forks.specs.declared.steps.Step.{Step}
use Rattle.read_forks.specs.declared.ways.Way.{Way}
use Rattle.read_forks.proofs.LoadFollows.{follows_next, passed_few, spot_next}
use Rattle.read_forks.proofs.LoadWalks.{IsNeeding, needing_at, within}
use Rattle.read_forks.proofs.OnceLoads.{own_site}
use Rattle.read_forks.proofs.OpenedLinks.{opened_at}

-- edges lead to pieces
abbrev pub HasHeads : OperationNet → Type 0
HasHeads x = (e : ℕ) → e < edge_count (graph_in x.net) → to (graph_in x.net) e < (graph_in x.net).nodes

-- ---- operations as nodes

module _ (x : OperationNet) (piece i : ℕ) (exists : piece < (graph_in x.net).nodes) (inside : i < operation_count x piece) where
  pub name_of : operation_node x (first_operation x piece + i) ≡ Op piece i
  name_of = operation_name x piece i exists (acting_with x.net.program.names (kind_in x.net piece) (exec_kind x.net.program piece) i inside) inside

  pub node_within : first_operation x piece + i < node_total x
  node_within =
      within (all_operation_nodes x) (first_operation x piece + i) (Op piece i) (operation_stands x piece i exists (acting_with x.net.program.names (kind_in x.net piece) (exec_kind x.net.program piece) i inside) inside)

-- ---- the load before which the line stands

-- the load, by the node of its link
pub record IsLoadOf (x : OperationNet) (line : ℕ) (s : Spot) (k : ℕ) : Type 0 where
  pub piece : ℕ
  pub number : ℕ
  pub name : operation_node x k ≡ Op piece number
  pub here : load_at x line s ≡ Some (site piece number)

pub load_of : (x : OperationNet) (line : ℕ) (s : Spot) (k : ℕ) → is_load_of (operation_node x k) (load_at x line s) ≡ true → IsLoadOf x line s k
load_of x line s k told = by (operation_node x k) (load_at x line s) refl refl told
  where
    by : (name : NodeName) (o : Option Site) → operation_node x k ≡ name → load_at x line s ≡ o → is_load_of name o ≡ true → IsLoadOf x line s k
    by (Op p i) (Some load) named here own =
        let same = same_site p i load own in
        let e : load ≡ site p i = λ n. site (same.0 n) (same.1 n) in
        record { piece = p; number = i; name = named; here = here ∙ ap (λ (z : Site). Some z) e }
    by (Op p i) None named here own = let e : false ≡ true = own in absurd cc
    by (Switch p l) o named here own = let e : false ≡ true = own in absurd cc
    by (Merge p l) o named here own = let e : false ≡ true = own in absurd cc
    by (Act p) o named here own = let e : false ≡ true = own in absurd cc

pub tells_load : (x : OperationNet) (line : ℕ) (s : Spot) (k piece number : ℕ) → operation_node x k ≡ Op piece number → load_at x line s ≡ Some (site piece number) → is_load_of (operation_node x k) (load_at x line s) ≡ true
tells_load x line s k piece number name here =
    ap (λ (a : NodeName). is_load_of a (load_at x line s)) name ∙ ap (is_load_of (Op piece number)) here ∙ own_site (site piece number)

pub stands_by : (x : OperationNet) (links : List Link) (line n k : ℕ) (s : Spot) (piece number : ℕ) → IsLinkAt links n line k → operation_node x k ≡ Op piece number → load_at x line s ≡ Some (site piece number) → StandsAt x links line n s
stands_by x links line n k s piece number there name here = by (slice_get links n) refl there
  where
    by : (o : Option Link) → slice_get links n ≡ o → IsLinkOf o line k → StandsAt x links line n s
    by None is own = absurd own
    by (Some link) is own = record {
      inside = within links n link is;
      same = ap line_in is ∙ own.0;
      load = tells_load x line s (node_at links n) piece number (ap (λ (o : Option Link). operation_node x (node_in o)) is ∙ ap (operation_node x) own.1 ∙ name) here;
    }

module _ (x : OperationNet) (links : List Link) (line n : ℕ) (s : Spot) (stands : StandsAt x links line n s) where
  abbrev load : IsLoadOf x line s (node_at links n)
  load = load_of x line s (node_at links n) stands.load

  pub loads : is_load_node x (operation_node x (node_at links n)) ≡ true
  loads = ap (is_load_node x) load.name ∙ (needing_at x line s (site load.piece load.number) load.here).loads

  -- a line that isn't open for the load has a link that isn't open
  pub shut : (steps : List Step) → AreSteps x steps links → opened_in x links line load.piece load.number ≡ false → is_open_in (slice_get links n) ≡ false
  shut steps are none =
      let at = get_some x.net links n stands.inside in
      let own : at.0.line ≡ line = sym (ap line_in at.1) ∙ stands.same in
      let name : operation_node x at.0.node ≡ Op load.piece load.number = sym (ap (λ (o : Option Link). operation_node x (node_in o)) at.1) ∙ load.name in
      ap is_open_in at.1 ∙ sym (opened_at x links steps are n at.0 load.piece load.number at.1 name) ∙ ap (λ (l : ℕ). opened_in x links l load.piece load.number) own ∙ none

  pub node_low : (steps : List Step) → AreSteps x steps links → node_at links n < node_total x
  node_low steps are = let at = get_some x.net links n stands.inside in subst (λ (k : ℕ). k < node_total x) (sym (ap node_in at.1)) (are.own n at.0 at.1).node

-- ---- from one load to the next

-- the line stands before another load, whose link this is, after that one
abbrev pub IsNextStop : OperationNet → (links : List Link) (line n : ℕ) (s t : Spot) → Type 0
IsNextStop x links line n s t =
    ((spot_after x line s).edge ≡ t.edge) × ((spot_after x line s).passed ≡ t.passed) × (t.edge < edge_count (graph_in x.net)) × (n < length links) × (line_at links n ≡ line) × (is_load_of (operation_node x (node_at links n)) (load_at x line t) ≡ true)

-- it stands before this node, or before none, but before no load
abbrev pub IsLastStop : OperationNet → (line node : ℕ) (s t : Spot) → Type 0
IsLastStop x line node s t =
    ((spot_after x line s).edge ≡ t.edge) × ((spot_after x line s).passed ≡ t.passed) × (t.edge < edge_count (graph_in x.net)) × (is_some (load_at x line t) ≡ false) × IsNodeBefore x line (Some t.edge) t.passed node

pub way_at : (x : OperationNet) (links : List Link) (name : NodeName) (piece i line other : ℕ) (way : Way) → name ≡ Op piece i → other ≡ line → IsWayOf x links name other way → IsWay x links piece i line way
way_at x links name piece i line other way named same is =
    subst (λ (l : ℕ). IsWay x links piece i l way) same (subst (λ (a : NodeName). IsWayOf x links a other way) named is)

module _ (x : OperationNet) (heads : HasHeads x) (line : ℕ) (s : Spot) (exists : s.edge < edge_count (graph_in x.net)) where
  piece_exists : (z : Site) → load_at x line s ≡ Some z → z.piece < (graph_in x.net).nodes
  piece_exists z here =
      let n : IsNeeding x line s z = needing_at x line s z here in
      subst (λ (p : ℕ). p < (graph_in x.net).nodes) (sym n.here) (heads s.edge exists)

  pub name_there : (z : Site) → load_at x line s ≡ Some z → operation_node x (first_operation x z.piece + z.number) ≡ Op z.piece z.number
  name_there z here = name_of x z.piece z.number (piece_exists z here) (needing_at x line s z here).below

  module _ (links : List Link) (piece i : ℕ) (here : load_at x line s ≡ Some (site piece i)) (t : Spot) where
    is_spot : (edge passed : ℕ) → t.edge ≡ edge → t.passed ≡ passed → spot edge passed ≡ t
    is_spot edge passed e p = λ n. spot (sym e n) (sym p n)

    pub here_next : (n next : ℕ) → IsHere x links piece i line n next → t.edge ≡ s.edge → t.passed ≡ suc s.passed → IsNextStop x links line n s t
    here_next n next w edge passed =
        let after : spot_after x line s ≡ t = sym (spot_next x line s piece i next here w.follows) ∙ is_spot s.edge (suc s.passed) edge passed in
        let loads : load_at x line t ≡ Some (site piece next) =
        ap (load_at x line) (sym after) ∙ sym (follows_next x line piece i next w.follows s exists here) ∙ ap (λ b. if b then Some (site piece next) else None) w.loads in
        let name = name_of x piece next (piece_exists (site piece i) here) w.follows.inside in
        let stands : StandsAt x links line n t = stands_by x links line n (first_operation x piece + next) t piece next w.link name loads in
        (ap (λ (u : Spot). u.edge) after, ap (λ (u : Spot). u.passed) after, subst (λ (e : ℕ). e < edge_count (graph_in x.net)) (sym edge) exists, stands.inside, stands.same, stands.load)

    -- the number of the next operation is as large
    pub here_few : (n next : ℕ) → IsHere x links piece i line n next → s.passed < node_total x
    here_few n next w =
        let few = passed_few x line s piece i next here w.follows in
        let low = node_within x piece next (piece_exists (site piece i) here) w.follows.inside in
        omega (arith, few, low)

    pub node_few : (node next : ℕ) → IsNodeHere x piece i line node next → s.passed < node_total x
    node_few node next w =
        let few = passed_few x line s piece i next here w.follows in
        let low = node_within x piece next (piece_exists (site piece i) here) w.follows.inside in
        omega (arith, few, low)
