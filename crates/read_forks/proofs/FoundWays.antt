-- Where lines go on from nodes, as it is looked up when the tables are made.
use Rattle.std.proofs.Common.{◌≡◌, ◌<◌, ◌≤◌, ◌⊎◌, ⊎_elim, inl, inr, ℕ, zero, suc, ◌+◌, ◌-◌, ◌==◌, ◌&&◌, true, false, List, [], ◌∷◌, length, Option, Some, None, slice_get, slice_set, refl, sym, ap, ◌∙◌, subst, eqb-true, arith}
use Rattle.std.proofs.lemmas.Bool.{and_from, cases_eq, eq-eqb}
use Rattle.closed_walks.specs.Graph.{edge_count, to}
use Rattle.firing.specs.declared.system.NodeName.{NodeName}
use Rattle.firing.specs.declared.system.NodeName.TheVariants.{Act, Merge, Op, Switch}
use Rattle.net_board.specs.Nodes.{graph_in}
use Rattle.net_board.specs.Tokens.{leads_to}
use Rattle.net_board.proofs.ListPlaces.{get_set_other}
use Rattle.op_board.specs.OperationNets.{OperationNet, first_operation, is_last_at, needed, needing_before, operation_at, operation_node}
use Rattle.op_board.proofs.OperationNumbers.{operation_number}
use Rattle.operation_tables.specs.OperationRows.{IsNextNeed}
use Rattle.operation_tables.specs.Waits.{IsNodeBefore, goes_through, node_total, stands_at}
use Rattle.fork_board.specs.ForkTokens.{is_load_node}
use Rattle.fork_board.specs.LoadGroups.{Site, is_load, load_at, number_at, piece_at, spot}
use Rattle.fork_board.proofs.LoadSpots.{IsLoadIn, IsNumberAt, load_is, number_is}
use Rattle.read_forks.specs.MadeSteps.{AreShut, AreWaysBelow}
use Rattle.read_forks.specs.NodeLinks.{AreSteps, IsStep, linked_lines}
use Rattle.read_forks.specs.RisingLinks.{HasLine, line_at}
use Rattle.read_forks.specs.Ways.{AreWays, IsLinkAt, IsWay, IsWayOf, led_from_load}
use Rattle.read_forks.specs.declared.steps.Link.{Link}
use Rattle.read_forks.specs.declared.steps.Step.{Step}
use Rattle.read_forks.specs.declared.ways.Way.{Way}
use Rattle.read_forks.specs.declared.ways.Way.TheVariants.{Before, Behind, Here, Out, Over}
use Rattle.read_forks.proofs.LoadFlags.{below_or_last}
use Rattle.read_forks.proofs.LoadWalks.{IsNeeding, needing_at}
use Rattle.read_forks.proofs.LoadsBefore.{IsLoadBefore, has_line, link_is, load_before}
use Rattle.read_forks.proofs.MadeGivers.{operation_exists}
use Rattle.read_forks.proofs.SameLinks.{AreSameLinks, get_set_here, same_way_of, set_links}
use Rattle.read_forks.proofs.TestedLoads.{name_there}

-- ---- to the next operation of the piece

module _ (x : OperationNet) (links : List Link) (piece i line n : ℕ) (follows : IsNextNeed x piece i line n) (exists : piece < (graph_in x.net).nodes) (k : ℕ) (is : k ≡ first_operation x piece + n) where
  pub next_name : operation_node x k ≡ Op piece n
  next_name = ap (operation_node x) is ∙ name_there x piece n exists follows.inside n follows.inside

  module _ (next : Step) (step : IsStep x links k next) where
    load_next : next.loads ≡ is_load (operation_at x piece n).work
    load_next = step.loads ∙ ap (is_load_node x) next_name

    pub next_line : line < x.net.routing.lines → HasLine links line next.first (next.first + next.count)
    next_line low = has_line x links k next step line piece n next_name low follows.needs

    pub way_here : next.loads ≡ true → (at : ℕ) → line_at links at ≡ line → next.first ≤ at → at < next.first + next.count → IsWay x links piece i line (Here at)
    way_here loads at own from below = (
      n,
      record {
        follows = follows;
        loads = sym load_next ∙ loads;
        link = subst (λ (m : ℕ). IsLinkAt links at line m) is (link_is x links k next step line piece n at own from below);
      },
    )

    pub way_before : next.loads ≡ false → IsWay x links piece i line (Before k)
    way_before not = (n, record { follows = follows; loads = sym load_next ∙ not; is_node = is })

-- ---- out of the piece of a load

module _ (x : OperationNet) (line edge k : ℕ) (before : IsNodeBefore x line (Some edge) 0 k) where
  -- the load that stands there is that node
  pub record IsThatNode : Type 0 where
    pub low : k < node_total x
    pub loads : is_load_node x (operation_node x k) ≡ true

  that_node : to (graph_in x.net) edge < (graph_in x.net).nodes → (load : Site) → load_at x line (spot edge 0) ≡ Some load → IsThatNode
  that_node head load here =
      let n : IsNeeding x line (spot edge 0) load = needing_at x line (spot edge 0) load here in
      let r : IsLoadIn x (piece_at x (spot edge 0)) (number_at x line (spot edge 0)) load = load_is x (piece_at x (spot edge 0)) (number_at x line (spot edge 0)) load here in
      let at : IsNumberAt x line (spot edge 0) r.number = number_is x line (spot edge 0) r.number r.at in
      let count : 0 ≡ needing_before x load.piece load.number line = sym at.before ∙ ap (λ (z : Site). needing_before x z.piece z.number line) (sym r.is) in
      let there : load.piece < (graph_in x.net).nodes = subst (λ (p : ℕ). p < (graph_in x.net).nodes) (sym n.here) head in
      let low = operation_exists x load.piece load.number there n.below in
      let name : operation_node x (first_operation x load.piece + load.number) ≡ Op load.piece load.number = name_there x load.piece load.number there n.below load.number n.below in
      let stands : (goes_through x (Op load.piece load.number) line && stands_at x (Some edge) 0 (Op load.piece load.number) line) ≡ true =
      and_from (x.needs load.piece load.number line) (leads_to (graph_in x.net) load.piece (Some edge) && 0 == needing_before x load.piece load.number line) n.needs
      (and_from (to (graph_in x.net) edge == load.piece) (0 == needing_before x load.piece load.number line) (eq-eqb (to (graph_in x.net) edge) load.piece (sym n.here)) (eq-eqb 0 (needing_before x load.piece load.number line) count)) in
      let is : first_operation x load.piece + load.number ≡ k = eqb-true (first_operation x load.piece + load.number) k
      (sym (before (first_operation x load.piece + load.number) low)
      ∙ ap (λ (a : NodeName). goes_through x a line && stands_at x (Some edge) 0 a line) name
      ∙ stands) in
      record { low = subst (λ (m : ℕ). m < node_total x) is low; loads = ap (λ (m : ℕ). is_load_node x (operation_node x m)) (sym is) ∙ ap (is_load_node x) name ∙ n.loads }

  pub none_there : to (graph_in x.net) edge < (graph_in x.net).nodes → (IsThatNode → ⊥) → load_at x line (spot edge 0) ≡ None
  none_there head not = by (load_at x line (spot edge 0)) refl
    where
      by : (o : Option Site) → load_at x line (spot edge 0) ≡ o → o ≡ None
      by None at = refl
      by (Some load) at = absurd (not (that_node head load at))

  module _ (links : List Link) (piece i : ℕ) (last : is_last_at x piece i line ≡ true) (led : edge ≡ led_from_load x line piece) (exists : edge < edge_count (graph_in x.net)) where
    pub way_behind : to (graph_in x.net) edge < (graph_in x.net).nodes → (IsThatNode → ⊥) → IsWay x links piece i line (Behind edge k)
    way_behind head not = record { last = last; led = led; exists = exists; loads = none_there head not; before = before }

    module _ (low : k < node_total x) (next : Step) (step : IsStep x links k next) (loads : next.loads ≡ true) where
      load_here : IsLoadBefore x line edge 0 k before
      load_here = load_before x line edge 0 k before low (sym step.loads ∙ loads)

      pub over_line : line < x.net.routing.lines → HasLine links line next.first (next.first + next.count)
      over_line exists_line = has_line x links k next step line load_here.piece load_here.number load_here.name exists_line load_here.needs

      pub way_over : (at : ℕ) → line_at links at ≡ line → next.first ≤ at → at < next.first + next.count → IsWay x links piece i line (Over at edge)
      way_over at own from below = (
        load_here.piece,
        (
          load_here.number,
          record {
            last = last;
            led = led;
            exists = exists;
            loads = load_here.here;
            link = subst (λ (m : ℕ). IsLinkAt links at line m) (operation_number x k load_here.piece load_here.number low load_here.name) (link_is x links k next step line load_here.piece load_here.number at own from below);
          },
        ),
      )

-- ---- one link after another

pub no_ways : (x : OperationNet) (links : List Link) → AreWaysBelow x 0 links
no_ways x links at link low is = absurd (omega (arith, low))

pub all_ways : (x : OperationNet) (n : ℕ) (links : List Link) → length links ≤ n → AreWaysBelow x n links → AreWays x links
all_ways x n links over are at link is = are at link (let low = within links at link is in omega (arith, low, over)) is
  where
    within : (ls : List Link) (k : ℕ) (l : Link) → slice_get ls k ≡ Some l → k < length ls
    within (m ∷ ls) zero l e = omega arith
    within (m ∷ ls) (suc k) l e = let r = within ls k l e in omega (arith, r)
    within [] k l e = absurd cc

module _ (x : OperationNet) (n : ℕ) (links : List Link) (link changed : Link) (is : slice_get links n ≡ Some link) (line : changed.line ≡ link.line) (node : changed.node ≡ link.node) where
  abbrev now : List Link
  now = slice_set links n changed

  same : AreSameLinks links now
  same = set_links links n link changed is line node

  pub ways_more : AreWaysBelow x n links → IsWayOf x links (operation_node x link.node) link.line changed.way → AreWaysBelow x (n + 1) now
  ways_more are way at one low there = ⊎_elim old own (below_or_last at n low)
    where
      old : at < n → IsWayOf x now (operation_node x one.node) one.line one.way
      old under =
          let was : slice_get links at ≡ Some one = sym (get_set_other links n at changed (λ e. omega (arith, e, under))) ∙ there in
          same_way_of links now same x (operation_node x one.node) one.line one.way (are at one under was)

      own : at ≡ n → IsWayOf x now (operation_node x one.node) one.line one.way
      own e =
          let both : Some one ≡ Some changed = sym there ∙ ap (slice_get now) e ∙ get_set_here links n link changed is in
          let f : one ≡ changed = cc in
          let w : IsWayOf x now (operation_node x link.node) link.line changed.way = same_way_of links now same x (operation_node x link.node) link.line changed.way way in
          subst (λ (l : Link). IsWayOf x now (operation_node x l.node) l.line l.way) (sym f)
          (subst (λ (m : ℕ). IsWayOf x now (operation_node x m) changed.line changed.way) (sym node) (subst (λ (m : ℕ). IsWayOf x now (operation_node x link.node) m changed.way) (sym line) w))

  pub still_shut : changed.open ≡ link.open → AreShut links → AreShut now
  still_shut same_open shut at one there = by (cases_eq n at)
    where
      by : (n ≡ at) ⊎ (n ≡ at → ⊥) → one.open ≡ false
      by (inl e) =
          let both : Some one ≡ Some changed = sym there ∙ ap (slice_get now) (sym e) ∙ get_set_here links n link changed is in
          let f : one ≡ changed = cc in
          ap (λ (l : Link). l.open) f ∙ same_open ∙ shut n link is
      by (inr differ) = shut at one (sym (get_set_other links n at changed differ) ∙ there)

-- ---- by a link

module _ (x : OperationNet) (steps : List Step) (links : List Link) (are : AreSteps x steps links) (at : ℕ) (link : Link) (is : slice_get links at ≡ Some link) where
  pub link_node : link.node < node_total x
  link_node = (are.own at link is).node

  same_way_at : (way : Way) → ∥ IsWayOf x links (operation_node x link.node) link.line way ∥₁ → (one : Link) → slice_get links at ≡ Some one → ∥ IsWayOf x links (operation_node x one.node) one.line way ∥₁
  same_way_at way told one there =
      let both : Some link ≡ Some one = sym is ∙ there in
      let e : link ≡ one = cc in
      subst (λ (l : Link). ∥ IsWayOf x links (operation_node x l.node) l.line way ∥₁) e told

  -- the node is no operation
  pub leads_out : ((p i : ℕ) → operation_node x link.node ≡ Op p i → ⊥) → (one : Link) → slice_get links at ≡ Some one → ∥ IsWayOf x links (operation_node x one.node) one.line Out ∥₁
  leads_out turns = same_way_at Out ∣ by (operation_node x link.node) refl ∣₁
    where
      by : (name : NodeName) → operation_node x link.node ≡ name → IsWayOf x links name link.line Out
      by (Op p i) named = absurd (turns p i named)
      by (Switch p l) named = refl
      by (Merge p l) named = refl
      by (Act p) named = refl

  -- it is an operation
  module _ (step : Step) (there : slice_get steps link.node ≡ Some step) (piece i : ℕ) (name : operation_node x link.node ≡ Op piece i) where
    own : IsStep x links link.node step
    own = are.each link.node step there

    pub from_first : step.first ≤ at
    from_first = (are.own at link is).from step there

    pub own_name : operation_node x link.node ≡ Op step.piece step.number
    own_name =
        let two = own.named piece i name in
        name ∙ sym (ap (λ (p : ℕ). Op p i) two.0) ∙ sym (ap (λ (n : ℕ). Op step.piece n) two.1)

    pub own_line : slice_get (needed x step.piece step.number) (at - step.first) ≡ Some link.line
    own_line =
        let from = from_first in
        let below = (are.own at link is).below step there in
        let place : step.first + (at - step.first) ≡ at = omega (arith, from) in
        sym (ap (λ (n : NodeName). slice_get (linked_lines x n) (at - step.first)) own_name) ∙ own.has_links.line (at - step.first) link (omega (arith, from, below)) (ap (slice_get links) place ∙ is)

    pub way_of_link : (way : Way) → ∥ IsWay x links step.piece step.number link.line way ∥₁ → (one : Link) → slice_get links at ≡ Some one → ∥ IsWayOf x links (operation_node x one.node) one.line way ∥₁
    way_of_link way told = same_way_at way (subst (λ (n : NodeName). ∥ IsWayOf x links n link.line way ∥₁) (sym own_name) told)
