-- Where a line stands after a load of a group, by the way of the load's link.
use Rattle.std.proofs.Common.{◌≡◌, ◌<◌, ◌≤◌, ℕ, suc, ◌+◌, ◌^◌, true, if◌then◌else◌, List, Some, None, is_some, sym, ap, ◌∙◌, subst, arith}
use Rattle.std.proofs.Math.Logic.{∥∥₁_elim}
use Rattle.std.proofs.Props.{props}
use Rattle.closed_walks.specs.Graph.{edge_count, to}
use Rattle.firing.specs.declared.system.NodeName.TheVariants.{Op}
use Rattle.net_board.specs.Nodes.{graph_in}
use Rattle.op_board.specs.OperationNets.{OperationNet, first_operation, needing_before, operation_at, operation_count, operation_node}
use Rattle.op_board.proofs.OperationNumbers.{operation_number}
use Rattle.operation_tables.specs.Waits.{IsNodeBefore, node_total}
use Rattle.fork_board.specs.LoadGroups.{Site, Spot, is_load, load_at, number_at, piece_at, site, spot, spot_after}
use Rattle.fork_board.proofs.ForkFirings.{both_ways}
use Rattle.fork_board.proofs.LoadSpots.{IsLoadIn, IsNumberAt, load_is, number_is}
use Rattle.read_forks.specs.OpenedGroups.{StandsAt}
use Rattle.read_forks.specs.Ways.{IsBehind, IsNodeHere, IsOver, IsWayOf, edge_after, link_after, node_after, passed_after}
use Rattle.read_forks.specs.declared.steps.Link.{Link}
use Rattle.read_forks.specs.declared.ways.Way.{Way}
use Rattle.read_forks.specs.declared.ways.Way.TheVariants.{Before, Behind, Here, Out, Over}
use Rattle.read_forks.proofs.LoadFollows.{follows_next, spot_next, spot_out}
use Rattle.read_forks.proofs.LoadWalks.{IsNeeding, needing_at}
use Rattle.read_forks.proofs.StoodLinks.{HasHeads, IsLastStop, IsNextStop, here_few, here_next, name_there, node_few, stands_by, way_at}

-- a line that has come to an operation which needs it stands before this one and no other node
abbrev pub StandAlone : OperationNet → Type 0
StandAlone x =
    (piece i line edge passed : ℕ) → piece < (graph_in x.net).nodes → i < operation_count x piece → x.needs piece i line ≡ true → to (graph_in x.net) edge ≡ piece → passed ≡ needing_before x piece i line → IsNodeBefore x line (Some edge) passed (first_operation x piece + i)

pub below : (a b c : ℕ) → a ≤ b → b < c → a < c
below a b c first second = omega (arith, first, second)

some : (c a : ℕ) → a < c → 0 < c
some c a low = omega (arith, low)

module _ (x : OperationNet) (heads : HasHeads x) (alone : StandAlone x) (line : ℕ) (s : Spot) (exists : s.edge < edge_count (graph_in x.net)) (piece i : ℕ) (here : load_at x line s ≡ Some (site piece i)) (t : Spot) where
  own : IsNeeding x line s (site piece i)
  own = needing_at x line s (site piece i) here

  there : piece < (graph_in x.net).nodes
  there = subst (λ (p : ℕ). p < (graph_in x.net).nodes) (sym own.here) (heads s.edge exists)

  is_spot : (edge passed : ℕ) → t.edge ≡ edge → t.passed ≡ passed → spot edge passed ≡ t
  is_spot edge passed e p = λ n. spot (sym e n) (sym p n)

  -- the load's own node
  pub before_load : IsNodeBefore x line (Some s.edge) s.passed (first_operation x piece + i)
  before_load =
      let r : IsLoadIn x (piece_at x s) (number_at x line s) (site piece i) = load_is x (piece_at x s) (number_at x line s) (site piece i) here in
      let at : IsNumberAt x line s r.number = number_is x line s r.number r.at in
      let p : piece ≡ piece_at x s = ap (λ (z : Site). z.piece) r.is in
      let n : i ≡ r.number = ap (λ (z : Site). z.number) r.is in
      alone piece i line s.edge s.passed there own.below own.needs (sym p)
      (sym (ap (λ (q : ℕ). needing_before x q i line) p ∙ ap (λ (k : ℕ). needing_before x (piece_at x s) k line) n ∙ at.before))

  -- and where its number as a node is looked up
  pub node_of_load : (k : ℕ) → k < node_total x → operation_node x k ≡ Op piece i → IsNodeBefore x line (Some s.edge) s.passed k
  node_of_load k low name = subst (λ (n : ℕ). IsNodeBefore x line (Some s.edge) s.passed n) (sym (operation_number x k piece i low name)) before_load

  over_next : (links : List Link) (n edge other number : ℕ) → IsOver x links piece i line n edge other number → t.edge ≡ edge → t.passed ≡ 0 → IsNextStop x links line n s t
  over_next links n edge other number w same passed =
      let at : spot edge 0 ≡ t = is_spot edge 0 same passed in
      let after : spot_after x line s ≡ t = sym (spot_out x line s piece i here w.last) ∙ ap (λ (e : ℕ). spot e 0) (sym w.led) ∙ at in
      let loads : load_at x line t ≡ Some (site other number) = ap (load_at x line) (sym at) ∙ w.loads in
      let name = name_there x heads line (spot edge 0) w.exists (site other number) w.loads in
      let stands : StandsAt x links line n t = stands_by x links line n (first_operation x other + number) t other number w.link name loads in
      (ap (λ (u : Spot). u.edge) after, ap (λ (u : Spot). u.passed) after, subst (λ (e : ℕ). e < edge_count (graph_in x.net)) (sym same) w.exists, stands.inside, stands.same, stands.load)

  node_last : (node next : ℕ) → IsNodeHere x piece i line node next → t.edge ≡ s.edge → t.passed ≡ suc s.passed → IsLastStop x line node s t
  node_last node next w edge passed =
      let after : spot_after x line s ≡ t = sym (spot_next x line s piece i next here w.follows) ∙ is_spot s.edge (suc s.passed) edge passed in
      let loads : load_at x line t ≡ None =
      ap (load_at x line) (sym after) ∙ sym (follows_next x line piece i next w.follows s exists here) ∙ ap (λ b. if b then Some (site piece next) else None) w.loads in
      let r : IsLoadIn x (piece_at x s) (number_at x line s) (site piece i) = load_is x (piece_at x s) (number_at x line s) (site piece i) here in
      let at : IsNumberAt x line s r.number = number_is x line s r.number r.at in
      let p : piece ≡ piece_at x s = ap (λ (z : Site). z.piece) r.is in
      let n : i ≡ r.number = ap (λ (z : Site). z.number) r.is in
      let count : needing_before x piece i line ≡ s.passed = ap (λ (q : ℕ). needing_before x q i line) p ∙ ap (λ (k : ℕ). needing_before x (piece_at x s) k line) n ∙ at.before in
      let before : IsNodeBefore x line (Some t.edge) t.passed (first_operation x piece + next) =
      alone piece next line t.edge t.passed there w.follows.inside w.follows.needs (ap (to (graph_in x.net)) edge ∙ sym p) (passed ∙ ap suc (sym count) ∙ sym w.follows.after) in
      (ap (λ (u : Spot). u.edge) after, ap (λ (u : Spot). u.passed) after, subst (λ (e : ℕ). e < edge_count (graph_in x.net)) (sym edge) exists, ap is_some loads, subst (λ (k : ℕ). IsNodeBefore x line (Some t.edge) t.passed k) (sym w.is_node) before)

  behind_last : (edge node : ℕ) → IsBehind x piece i line edge node → t.edge ≡ edge → t.passed ≡ 0 → IsLastStop x line node s t
  behind_last edge node w same passed =
      let at : spot edge 0 ≡ t = is_spot edge 0 same passed in
      let after : spot_after x line s ≡ t = sym (spot_out x line s piece i here w.last) ∙ ap (λ (e : ℕ). spot e 0) (sym w.led) ∙ at in (
        ap (λ (u : Spot). u.edge) after,
        ap (λ (u : Spot). u.passed) after,
        subst (λ (e : ℕ). e < edge_count (graph_in x.net)) (sym same) w.exists,
        ap is_some (ap (load_at x line) (sym at) ∙ w.loads),
        subst (λ (u : Spot). IsNodeBefore x line (Some u.edge) u.passed node) at w.before,
      )

  -- ---- the same, where the way is only known to be one

  module _ (links : List Link) (k other : ℕ) (name : operation_node x k ≡ Op piece i) (same : other ≡ line) where
    pub by_here : (n : ℕ) → ∥ IsWayOf x links (operation_node x k) other (Here n) ∥₁ → t.edge ≡ s.edge → t.passed ≡ suc s.passed → IsNextStop x links line n s t
    by_here n is edge passed =
        ∥∥₁_elim is (hlevel props) (λ w. let h = way_at x links (operation_node x k) piece i line other (Here n) name same w in here_next x heads line s exists links piece i here t n h.0 h.1 edge passed)

    pub here_below : (n : ℕ) → ∥ IsWayOf x links (operation_node x k) other (Here n) ∥₁ → s.passed < node_total x
    here_below n is = ∥∥₁_elim is (hlevel props) (λ w. let h = way_at x links (operation_node x k) piece i line other (Here n) name same w in here_few x heads line s exists links piece i here t n h.0 h.1)

    pub by_over : (n edge : ℕ) → ∥ IsWayOf x links (operation_node x k) other (Over n edge) ∥₁ → t.edge ≡ edge → t.passed ≡ 0 → IsNextStop x links line n s t
    by_over n edge is led passed =
        ∥∥₁_elim is (hlevel props) (λ w. let h = way_at x links (operation_node x k) piece i line other (Over n edge) name same w in over_next links n edge h.0 h.1.0 h.1.1 led passed)

    pub by_node : (node : ℕ) → ∥ IsWayOf x links (operation_node x k) other (Before node) ∥₁ → t.edge ≡ s.edge → t.passed ≡ suc s.passed → IsLastStop x line node s t
    by_node node is edge passed =
        ∥∥₁_elim is (hlevel props) (λ w. let h = way_at x links (operation_node x k) piece i line other (Before node) name same w in node_last node h.0 h.1 edge passed)

    pub node_below : (node : ℕ) → ∥ IsWayOf x links (operation_node x k) other (Before node) ∥₁ → s.passed < node_total x
    node_below node is = ∥∥₁_elim is (hlevel props) (λ w. let h = way_at x links (operation_node x k) piece i line other (Before node) name same w in node_few x heads line s exists links piece i here t node h.0 h.1)

    pub by_behind : (edge node : ℕ) → ∥ IsWayOf x links (operation_node x k) other (Behind edge node) ∥₁ → t.edge ≡ edge → t.passed ≡ 0 → IsLastStop x line node s t
    by_behind edge node is led passed =
        ∥∥₁_elim is (hlevel props) (λ w. behind_last edge node (way_at x links (operation_node x k) piece i line other (Behind edge node) name same w) led passed)

    -- a line doesn't leave a load unseen
    pub never_out : ∥ IsWayOf x links (operation_node x k) other Out ∥₁ → ⊥
    never_out is = ∥∥₁_elim is (hlevel props) (λ w. both_ways (is_load (operation_at x piece i).work) own.loads (way_at x links (operation_node x k) piece i line other Out name same w).loads)

    -- ---- whatever way it is

    pub to_next : (way : Way) (n : ℕ) → ∥ IsWayOf x links (operation_node x k) other way ∥₁ → link_after way ≡ Some n → t.edge ≡ edge_after way s.edge → t.passed ≡ passed_after way s.passed → IsNextStop x links line n s t
    to_next (Here m) n is at edge passed = let e : m ≡ n = cc in subst (λ (j : ℕ). IsNextStop x links line j s t) e (by_here m is edge passed)
    to_next (Over m led) n is at edge passed = let e : m ≡ n = cc in subst (λ (j : ℕ). IsNextStop x links line j s t) e (by_over m led is edge passed)
    to_next (Before node) n is at edge passed = let e : None ≡ Some n = at in absurd cc
    to_next (Behind led node) n is at edge passed = let e : None ≡ Some n = at in absurd cc
    to_next Out n is at edge passed = let e : None ≡ Some n = at in absurd cc

    pub to_last : (way : Way) (node : ℕ) → ∥ IsWayOf x links (operation_node x k) other way ∥₁ → link_after way ≡ None → t.edge ≡ edge_after way s.edge → t.passed ≡ passed_after way s.passed → IsLastStop x line (node_after way node) s t
    to_last (Here m) node is at edge passed = let e : Some m ≡ None = at in absurd cc
    to_last (Over m led) node is at edge passed = let e : Some m ≡ None = at in absurd cc
    to_last (Before next) node is at edge passed = by_node next is edge passed
    to_last (Behind led next) node is at edge passed = by_behind led next is edge passed
    to_last Out node is at edge passed = absurd (never_out is)

    -- what it has passed is told by a number of 32 bits, as nodes are
    pub few_passed : (way : Way) → ∥ IsWayOf x links (operation_node x k) other way ∥₁ → node_total x < 2 ^ 32 → passed_after way s.passed < 2 ^ 32
    few_passed (Here n) is few = let f = here_below n is in below (suc s.passed) (node_total x) (2 ^ 32) (omega (arith, f)) few
    few_passed (Over n led) is few = some (2 ^ 32) (node_total x) few
    few_passed (Before node) is few = let f = node_below node is in below (suc s.passed) (node_total x) (2 ^ 32) (omega (arith, f)) few
    few_passed (Behind led node) is few = some (2 ^ 32) (node_total x) few
    few_passed Out is few = absurd (never_out is)
