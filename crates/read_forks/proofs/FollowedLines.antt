-- Where lines stand that nodes which are no loads have let pass, by the ways that are looked up.
use Rattle.std.proofs.Common.{◌≡◌, ◌<◌, ℕ, ◌+◌, ◌==◌, ◌||◌, Bool, true, false, if◌then◌else◌, List, [], ◌∷◌, Option, Some, None, slice_get, refl, sym, ap, ◌∙◌, subst, eqb-true}
use Rattle.std.proofs.Props.{props}
use mathlib.Core.Logic.{∥∥₁_elim}
use Rattle.std.specs.List.{list_any}
use Rattle.closed_walks.specs.Graph.{to}
use Rattle.firing.specs.declared.system.NodeName.{NodeName}
use Rattle.firing.specs.declared.system.NodeName.TheVariants.{Act, Merge, Op, Switch}
use Rattle.net_board.specs.Nodes.{graph_in}
use Rattle.net_board.specs.Tokens.{edge_of}
use Rattle.op_board.specs.OperationNets.{OperationNet, first_operation, needing_before, operation_count, operation_node}
use Rattle.op_board.specs.OperationTokens.{OperationTokens, passed_by}
use Rattle.operation_tables.specs.OperationRows.{IsNextNeed}
use Rattle.fork_board.specs.LoadGroups.{Site, Spot, load_at, load_in, most_loads, number_at, piece_at, site, spot}
use Rattle.fork_board.proofs.LoadSpots.{number_there}
use Rattle.read_forks.specs.KeptLoads.{AreOpened, IsOpenForNone}
use Rattle.read_forks.specs.LedLines.{HasGoneOn, HasPassed}
use Rattle.read_forks.specs.LoadChanges.{Loaded}
use Rattle.read_forks.specs.LoadedGroups.{is_near_on}
use Rattle.read_forks.specs.OpenGroups.{is_near_in}
use Rattle.read_forks.specs.Ways.{AreWays, IsHere, IsLinkAt, IsLinkOf, IsNodeHere, IsWayOf}
use Rattle.read_forks.specs.declared.steps.Link.{Link}
use Rattle.read_forks.specs.declared.ways.Way.{Way}
use Rattle.read_forks.specs.declared.ways.Way.TheVariants.{Before, Behind, Here, Out, Over}
use Rattle.read_forks.proofs.LoadWalks.{nowhere}

-- ---- lines before which no load stands

module _ (x : OperationNet) (m : OperationTokens) (line : ℕ) where
  pub none_opened : (opened : Loaded) → IsOpenForNone opened line → ((piece number : ℕ) → is_near_in x m line piece number ≡ false) → AreOpened x m (line ∷ []) opened opened
  none_opened opened none far = record {
    here = λ l among piece number. by l (line == l) refl among piece number;
    others = λ l not piece number. refl;
  }
    where
      by : (l : ℕ) (b : Bool) → (line == l) ≡ b → list_any (λ (n : ℕ). n == l) (line ∷ []) ≡ true → (piece number : ℕ) → opened l piece number ≡ is_near_in x m l piece number
      by l true same among piece number = subst (λ (n : ℕ). opened n piece number ≡ is_near_in x m n piece number) (eqb-true line l same) (none piece number ∙ sym (far piece number))
      by l false other among piece number = let e : true ≡ false = sym among ∙ ap (λ b. b || false) other in absurd cc

  pub far_where_vanished : edge_of m.tokens line ≡ None → (piece number : ℕ) → is_near_in x m line piece number ≡ false
  far_where_vanished none piece number = ap (is_near_on x line piece number (passed_by m line)) none

  pub far_before_none : (edge : ℕ) → edge_of m.tokens line ≡ Some edge → load_at x line (spot edge (passed_by m line)) ≡ None → (piece number : ℕ) → is_near_in x m line piece number ≡ false
  far_before_none edge stands none piece number =
      ap (is_near_on x line piece number (passed_by m line)) stands ∙ nowhere x line (most_loads x) (spot edge (passed_by m line)) piece number none

-- ---- before the next operation of the piece

module _ (x : OperationNet) (m : OperationTokens) (line edge : ℕ) where
  abbrev here : Spot
  here = spot edge (passed_by m line)

  pub next_stands : (piece i next : ℕ) → HasPassed x m piece i line edge → IsNextNeed x piece i line next → load_at x line here ≡ load_in x piece (Some next)
  next_stands piece i next passed follows =
      let there : to (graph_in x.net) edge ≡ piece = passed.within follows.more in
      let count : passed_by m line ≡ needing_before x (to (graph_in x.net) edge) next line =
      passed.after follows.more ∙ sym follows.after ∙ ap (λ (p : ℕ). needing_before x p next line) (sym there) in
      let number : number_at x line here ≡ Some next =
      ap (λ n. number_at x line (spot edge n)) count
      ∙ number_there x line edge next (subst (λ (p : ℕ). next < operation_count x p) (sym there) follows.inside) (subst (λ (p : ℕ). x.needs p next line ≡ true) (sym there) follows.needs) in
      ap (load_in x (piece_at x here)) number ∙ ap (λ (p : ℕ). load_in x p (Some next)) there

  load_next : (piece i n next : ℕ) (links : List Link) → HasPassed x m piece i line edge → IsHere x links piece i line n next → load_at x line here ≡ Some (site piece next)
  load_next piece i n next links passed is = next_stands piece i next passed is.follows ∙ ap (λ b. if b then Some (site piece next) else None) is.loads

  no_load_next : (piece i node next : ℕ) → HasPassed x m piece i line edge → IsNodeHere x piece i line node next → load_at x line here ≡ None
  no_load_next piece i node next passed is = next_stands piece i next passed is.follows ∙ ap (λ b. if b then Some (site piece next) else None) is.loads

-- ---- by the way of a link

link_prop : (o : Option Link) (line k : ℕ) → IsProp (IsLinkOf o line k)
link_prop None line k = hlevel props
link_prop (Some link) line k = hlevel props

none_prop : IsProp ⊥
none_prop = hlevel props

module _ (x : OperationNet) (m : OperationTokens) (links : List Link) (line edge : ℕ) (stands : edge_of m.tokens line ≡ Some edge) where
  before_node : (name : NodeName) (node : ℕ) → HasGoneOn x m name line → IsWayOf x links name line (Before node) → load_at x line (spot edge (passed_by m line)) ≡ None
  before_node (Op piece i) node gone way = no_load_next x m line edge piece i node way.0 (gone edge stands) way.1
  before_node (Switch piece own) node gone way = let e : Before node ≡ Out = way in absurd cc
  before_node (Merge piece own) node gone way = let e : Before node ≡ Out = way in absurd cc
  before_node (Act piece) node gone way = let e : Before node ≡ Out = way in absurd cc

  -- the line stands before this load, and this is its link
  record IsLoadHere (n : ℕ) : Type 0 where
    piece : ℕ
    number : ℕ
    at : load_at x line (spot edge (passed_by m line)) ≡ Some (site piece number)
    link : IsLinkAt links n line (first_operation x piece + number)

  load_here : (name : NodeName) (n : ℕ) → HasGoneOn x m name line → IsWayOf x links name line (Here n) → IsLoadHere n
  load_here (Op piece i) n gone way = record { piece = piece; number = way.0; at = load_next x m line edge piece i n way.0 links (gone edge stands) way.1; link = way.1.link }
  load_here (Switch piece own) n gone way = let e : Here n ≡ Out = way in absurd cc
  load_here (Merge piece own) n gone way = let e : Here n ≡ Out = way in absurd cc
  load_here (Act piece) n gone way = let e : Here n ≡ Out = way in absurd cc

  left_piece : (name : NodeName) (way : Way) → ((n : ℕ) → way ≡ Here n → ⊥) → ((node : ℕ) → way ≡ Before node → ⊥) → HasGoneOn x m name line → IsWayOf x links name line way → passed_by m line ≡ 0
  left_piece (Op piece i) (Here n) not_here not_before gone way = absurd (not_here n refl)
  left_piece (Op piece i) (Before node) not_here not_before gone way = absurd (not_before node refl)
  left_piece (Op piece i) (Over n wire) not_here not_before gone way = (gone edge stands).left way.1.1.last
  left_piece (Op piece i) (Behind wire node) not_here not_before gone way = (gone edge stands).left way.last
  left_piece (Op piece i) Out not_here not_before gone way = (gone edge stands).left way.last
  left_piece (Switch piece own) way not_here not_before gone is = gone
  left_piece (Merge piece own) way not_here not_before gone is = gone
  left_piece (Act piece) way not_here not_before gone is = gone

  module _ (ways : ∥ AreWays x links ∥₁) (place : ℕ) (link : Link) (at : slice_get links place ≡ Some link) (own : link.line ≡ line) (gone : HasGoneOn x m (operation_node x link.node) line) where
    way_is : AreWays x links → IsWayOf x links (operation_node x link.node) line link.way
    way_is are = subst (λ (l : ℕ). IsWayOf x links (operation_node x link.node) l link.way) own (are place link at)

    pub no_load_there : (node : ℕ) → link.way ≡ Before node → load_at x line (spot edge (passed_by m line)) ≡ None
    no_load_there node is = by (load_at x line (spot edge (passed_by m line))) refl
      where
        by : (o : Option Site) → load_at x line (spot edge (passed_by m line)) ≡ o → o ≡ None
        by None at = refl
        by (Some load) at =
            absurd (∥∥₁_elim ways none_prop (λ (are : AreWays x links).
            let e : Some load ≡ None = sym at ∙ before_node (operation_node x link.node) node gone (subst (λ (w : Way). IsWayOf x links (operation_node x link.node) line w) is (way_is are)) in
            let none : ⊥ = absurd cc in none))

    pub load_there : (n : ℕ) → link.way ≡ Here n
        → (piece : ℕ) × ((number : ℕ) × ((load_at x line (spot edge (passed_by m line)) ≡ Some (site piece number)) × IsLinkAt links n line (first_operation x piece + number)))
    load_there n is = by (load_at x line (spot edge (passed_by m line))) refl
      where
        told : AreWays x links → IsLoadHere n
        told are = load_here (operation_node x link.node) n gone (subst (λ (w : Way). IsWayOf x links (operation_node x link.node) line w) is (way_is are))

        by : (o : Option Site) → load_at x line (spot edge (passed_by m line)) ≡ o → (piece : ℕ) × ((number : ℕ) × ((o ≡ Some (site piece number)) × IsLinkAt links n line (first_operation x piece + number)))
        by None at = absurd (∥∥₁_elim ways none_prop (λ (are : AreWays x links). let e : None ≡ Some _ = sym at ∙ (told are).at in let none : ⊥ = absurd cc in none))
        by (Some load) at = (
          load.piece,
          (
            load.number,
            (
              refl,
              ∥∥₁_elim ways (link_prop (slice_get links n) line (first_operation x load.piece + load.number)) (λ (are : AreWays x links).
                  let h : IsLoadHere n = told are in
                  let e : Some load ≡ Some (site h.piece h.number) = sym at ∙ h.at in
                  let same : site h.piece h.number ≡ load = cc in
                  subst (λ (s : Site). IsLinkAt links n line (first_operation x s.piece + s.number)) same h.link),
            ),
          ),
        )

    pub passed_nothing : ((n : ℕ) → link.way ≡ Here n → ⊥) → ((node : ℕ) → link.way ≡ Before node → ⊥) → passed_by m line ≡ 0
    passed_nothing not_here not_before = ∥∥₁_elim ways (hlevel props) (λ (are : AreWays x links). left_piece (operation_node x link.node) link.way not_here not_before gone (way_is are))
