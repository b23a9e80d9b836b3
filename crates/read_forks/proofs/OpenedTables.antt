-- A link is set to open: what is kept.
use Rattle.std.proofs.Common.{◌≡◌, ◌<◌, ℕ, zero, suc, ◌+◌, ◌-◌, true, false, List, [], ◌∷◌, length, get_or, Some, slice_get, slice_index, slice_set, refl, sym, ap, ◌∙◌, subst, arith}
use Rattle.list_laws.specs.Member.{Member}
use Rattle.std.proofs.Math.Logic.{∥∥₁_map}
use Rattle.firing.specs.declared.system.NodeName.TheVariants.{Act, Merge, Op, Switch}
use Rattle.firing.specs.declared.system.NodeName.{NodeName}
use Rattle.net_board.proofs.ListPrefixes.{member_at}
use Rattle.net_board.proofs.NodeLaws.{get_some}
use Rattle.op_board.specs.OperationNets.{OperationNet, needed, operation_node}
use Rattle.operation_tables.specs.Waits.{node_total}
use Rattle.fork_board.specs.ForkTokens.{is_load_node}
use Rattle.read_forks.specs.KeptLoads.{AreTables, opened_of}
use Rattle.read_forks.specs.LoadChanges.{IsPut}
use Rattle.read_forks.specs.NodeLinks.{AreSteps, AreValueLoads, HasLinks, IsOwnLink, linked_lines, opened_in}
use Rattle.read_forks.specs.OpenGroups.{AreClosed, closed_of}
use Rattle.read_forks.specs.Ways.{AreWays, IsWayOf}
use Rattle.read_forks.specs.declared.steps.Link.{Link}
use Rattle.read_forks.specs.declared.steps.Step.{Step}
use Rattle.read_forks.specs.declared.waiting.Waiting.{Waiting}
use Rattle.read_forks.proofs.CountedLines.{opened_closed, opened_one}
use Rattle.read_forks.proofs.OpenedLinks.{opened_at, set_opened, set_steps}
use Rattle.read_forks.proofs.SameLinks.{get_set_here, same_ways, set_links, set_ways}

abbrev pub opened_link : Link → Link
opened_link link = record link { «open» = true }

-- what is read at a place of a list
pub read_item : {A : Type 0} (xs : List A) (k : ℕ) (a : A) → k < length xs → a ≡ get_or xs k a → slice_get xs k ≡ Some a
read_item [] k a below is = absurd (omega (arith, below))
read_item (y ∷ xs) zero a below is = ap (λ z. Some z) (sym is)
read_item (y ∷ xs) (suc k) a below is = read_item xs k a (omega (arith, below)) is

-- a load is an operation
pub record IsOperation (name : NodeName) : Type 0 where
  pub piece : ℕ
  pub number : ℕ
  pub is : name ≡ Op piece number

pub operation_is : (x : OperationNet) (name : NodeName) → is_load_node x name ≡ true → IsOperation name
operation_is x (Op piece i) loads = record { piece = piece; number = i; is = refl }
operation_is x (Switch piece line) loads = let e : false ≡ true = loads in absurd cc
operation_is x (Merge piece line) loads = let e : false ≡ true = loads in absurd cc
operation_is x (Act piece) loads = let e : false ≡ true = loads in absurd cc

module _ (x : OperationNet) (w : Waiting) (t : AreTables x w) (at : ℕ) (link : Link) (is : slice_get w.links.items at ≡ Some link) where
  abbrev own : IsOwnLink x w.steps at link
  own = t.steps.own at link is

  -- the node of the link is looked up
  pub node_low : link.node < node_total x
  node_low = own.node

  pub node_inside : link.node < length w.steps
  node_inside = let low = own.node in let all = t.steps.all in omega (arith, low, all)

  module _ (piece number : ℕ) (name : operation_node x link.node ≡ Op piece number) where
    pub step_named : (step : Step) → slice_get w.steps link.node ≡ Some step → operation_node x link.node ≡ Op step.piece step.number
    step_named step there =
        let n = (t.steps.each link.node step there).named piece number name in
        name ∙ (λ j. Op (sym n.0 j) (sym n.1 j))

    -- the line is one that the load needs
    pub line_needed : Member (needed x piece number) link.line
    line_needed =
        let found = get_some x.net w.steps link.node node_inside in
        let step : Step = found.0 in
        let has : HasLinks x w.links.items link.node step = (t.steps.each link.node step found.1).has_links in
        let from = own.from step found.1 in
        let below = own.below step found.1 in
        let count = has.count in
        let place : step.first + (at - step.first) ≡ at = omega (arith, from) in
        let there : slice_get w.links.items (step.first + (at - step.first)) ≡ Some link = ap (slice_get w.links.items) place ∙ is in
        let line = has.line (at - step.first) link (omega (arith, from, below)) there in
        member_at (needed x piece number) (at - step.first) link.line (ap (λ a. slice_get (linked_lines x a) (at - step.first)) (sym name) ∙ line)

    -- it waits for the line
    pub waits_there : link.open ≡ false → AreClosed x (opened_of x w) w.closed.items → is_load_node x (operation_node x link.node) ≡ true → 0 < slice_index w.closed.items link.node
    waits_there shut closed loads =
        let was = opened_at x w.links.items w.steps t.steps at link piece number is name ∙ shut in
        let put = set_opened x w.steps w.links.items t.steps at link (opened_link link) is refl refl piece number name in
        let more = opened_one x link.line piece number _ _ put was line_needed in
        let count : slice_index w.closed.items link.node ≡ closed_of x (opened_of x w) (operation_node x link.node) = index_at w.closed.items link.node _ (closed link.node node_low loads) in
        let same : closed_of x (opened_of x w) (operation_node x link.node) ≡ closed_of x (opened_of x w) (Op piece number) = ap (closed_of x (opened_of x w)) name in
        omega (arith, more, count, same)
      where
        index_at : (xs : List ℕ) (n a : ℕ) → slice_get xs n ≡ Some a → slice_index xs n ≡ a
        index_at [] n a at = absurd cc
        index_at (y ∷ xs) zero a at = cc
        index_at (y ∷ xs) (suc n) a at = index_at xs n a at

  module _ (new : Waiting) (set : new.links.items ≡ slice_set w.links.items at (opened_link link)) (steps : new.steps ≡ w.steps) (givers : new.givers.items ≡ w.givers.items) where
    pub tables_kept : length new.groups.items ≡ length w.groups.items → length new.closed.items ≡ length w.closed.items → AreTables x new
    tables_kept groups room = record {
      steps = subst (λ (ss : List Step). AreSteps x ss new.links.items) (sym steps) (subst (λ (ls : List Link). AreSteps x w.steps ls) (sym set) (set_steps x w.steps w.links.items t.steps at link (opened_link link) is refl refl));
      ways = subst (λ (ls : List Link). ∥ AreWays x ls ∥₁) (sym set)
          (same_ways w.links.items (slice_set w.links.items at (opened_link link)) (set_links w.links.items at link (opened_link link) is refl refl) x (set_ways w.links.items at link (opened_link link) is refl) t.ways);
      values = subst (λ (ss : List Step). AreValueLoads x ss new.givers.items) (sym steps) (subst (λ (gs : List ℕ). AreValueLoads x w.steps gs) (sym givers) t.values);
      lines = groups ∙ t.lines;
      nodes = room ∙ t.nodes ∙ sym (ap length steps);
    }

    pub opened_now : (piece number : ℕ) → operation_node x link.node ≡ Op piece number → IsPut link.line piece number true (opened_of x w) (opened_of x new)
    opened_now piece number name =
        subst (λ (ls : List Link). IsPut link.line piece number true (opened_of x w) (opened_in x ls)) (sym set) (set_opened x w.steps w.links.items t.steps at link (opened_link link) is refl refl piece number name)

    pub closed_now : (piece number : ℕ) → operation_node x link.node ≡ Op piece number → link.open ≡ false → new.closed.items ≡ slice_set w.closed.items link.node (slice_index w.closed.items link.node - 1) → AreClosed x (opened_of x w) w.closed.items → AreClosed x (opened_of x new) new.closed.items
    closed_now piece number name shut is_set closed =
        subst (λ (ns : List ℕ). AreClosed x (opened_of x new) ns) (sym is_set)
        (opened_closed x link.line piece number (opened_of x w) (opened_of x new) w.closed.items link.node node_low name (opened_now piece number name)
        (opened_at x w.links.items w.steps t.steps at link piece number is name ∙ shut) (line_needed piece number name) closed)

    -- the way is as before
    pub way_now : AreTables x new → ∥ IsWayOf x new.links.items (operation_node x link.node) link.line link.way ∥₁
    way_now tables = ∥∥₁_map tables.ways (λ (a : AreWays x new.links.items). a at (opened_link link) (ap (λ ls. slice_get ls at) set ∙ get_set_here w.links.items at link (opened_link link) is))
