-- The steps over a scan that find the parents of regions and the smallest regions that hold nodes.
use Rattle.std.proofs.Common.{◌≡◌, ◌≢◌, ℕ, ◌+◌, ◌<◌, ◌⊎◌, List, [], ◌∷◌, length, take, get_or, set, refl, sym, ◌∙◌, inl, inr, ⊎_elim, arith, get_or-set_same, get_or-set_other, length-set}
use Rattle.std.proofs.lemmas.Bool.{cases_eq}
use Rattle.std.proofs.lemmas.Grind.{elements}
use Rattle.std.proofs.lemmas.List.{take_more}
use Rattle.closed_walks.specs.Graph.{Graph, edge_count, from, to}
use Rattle.closed_walks.specs.Walk.{Walk, Holds, Reach, no_edge, only}
use Rattle.closed_walks.specs.Region.{IsFlowGraph, IsReachedBy, IsRegion}
use Rattle.region_tree.specs.Facts.{RegionFacts}
use Rattle.region_tree.specs.Scan.{IsHead, IsScan}
use Rattle.region_tree.specs.Tree.{Tree, entry_of, exit_of, IsNumber, IsIn, AreRegions, IsLeastOrNone}
use Rattle.region_tree.specs.Nesting.{IsNested}
use Rattle.closed_walks.proofs.Held.{Holds-append, Holds-at}
use Rattle.region_tree.proofs.Within.{IsOuter, least_row, one_number, outer_stays, outer_leaves, head_none, entered_parent, entered_least}

-- ---- where a walk ends

last_head : (g : Graph) (u v : ℕ) (w : List ℕ) → Walk g u w v → (v ≡ u) ⊎ ((e : ℕ) × Holds w e × (to g e ≡ v))
last_head g u v [] leads = inl (sym leads)
last_head g u v (e ∷ w) leads = ⊎_elim
    (λ here. inr (e, inl refl, sym here))
    (λ later. inr (later.0, inr later.1, later.2))
    (last_head g (to g e) v w leads.2)

pub reached_head : (g : Graph) (edges : List ℕ) (v : ℕ) → IsReachedBy g edges v → (v ≡ 0) ⊎ IsHead g edges v
reached_head g edges v r = grind (arith, r.among, last_head g 0 v r.walk r.leads)

walk_exists : (g : Graph) (u v e : ℕ) (w : List ℕ) → Walk g u w v → Holds w e → e < edge_count g
walk_exists g u v e [] leads h = absurd h
walk_exists g u v e (x ∷ w) leads h = grind (arith, walk_exists g (to g x) v e w)

-- a node is the start, or an edge ends at it
pub start_or_head : (g : Graph) → IsFlowGraph g → (edges : List ℕ) → IsScan g edges → (v : ℕ) → v < g.nodes → (v ≡ 0) ⊎ IsHead g edges v
start_or_head g flow edges scan v exists =
    let start_node : 0 < g.nodes = grind (arith, flow.start, flow.sound.ends 0 flow.some) in
    let way : Reach g no_edge 0 v = flow.strong 0 v start_node exists in
    reached_head g edges v (record { walk = way.walk; leads = way.leads; among = λ e h. scan.all e (walk_exists g 0 v e way.walk way.leads h) })

-- the start lies in no region
pub start_outside : (g : Graph) → RegionFacts g → (t : Tree) → AreRegions g t → (r : ℕ) → IsNumber t r → IsIn g t r 0 → ⊥
start_outside g f t s r number inside =
    let region : IsRegion g (entry_of t r) (exit_of t r) = s.sound r number in
    let way : Reach g (only (exit_of t r)) 0 0 = record { walk = []; leads = refl; avoids = tt } in
    f.left (entry_of t r) (exit_of t r) 0 region.pair region.before inside way

module _ (g : Graph) (flow : IsFlowGraph g) (f : RegionFacts g) (t : Tree) (s : AreRegions g t) where
  pub IsNested-begin : (parents innermost : List ℕ) → length parents ≡ length t.entries → ((k : ℕ) → get_or parents k 0 ≡ 0) → length innermost ≡ g.nodes → ((k : ℕ) → get_or innermost k 0 ≡ 0) → IsNested g t [] parents innermost
  IsNested-begin parents innermost size no_parents nodes no_innermost = record {
    parents_size = size;
    no_parent = no_parents 0;
    right_parents = λ r number held. absurd held;
    nodes = nodes;
    right_innermost = λ node exists at. ⊎_elim
        (λ (same : node ≡ 0). inl (no_innermost node, λ q number inside. start_outside g f t s q number (rw same at inside)))
        (λ (h : IsHead g [] node). absurd h.among)
        at;
  }

  module _ (edges : List ℕ) (scan : IsScan g edges) (k : ℕ) (within : k < length edges) (parents innermost : List ℕ) (n : IsNested g t (take k edges) parents innermost) where
    abbrev here_edge : ℕ
    here_edge = get_or edges k 0

    edge : here_edge < edge_count g
    edge = scan.exist here_edge (Holds-at edges k within)

    abbrev here : ℕ
    here = get_or innermost (from g here_edge) 0

    pub here_right : IsLeastOrNone g t (λ q. IsIn g t q (from g here_edge)) here
    here_right = n.right_innermost (from g here_edge) (flow.sound.begins here_edge edge) (reached_head g (take k edges) (from g here_edge) (scan.grown k within))

    pub here_row : here < length t.entries
    here_row = least_row g t (λ q. IsIn g t q (from g here_edge)) here s.some here_right

    -- what is left of the regions that hold the beginning of the edge
    pub outer_right_stays : exit_of t here ≢ here_edge → IsLeastOrNone g t (λ q. IsOuter g t here_edge q) here
    outer_right_stays not_exit = outer_stays g f t s here_edge edge here here_right not_exit

    outer_of : (r : ℕ) → here ≡ r → IsLeastOrNone g t (λ q. IsIn g t q (from g here_edge)) r → exit_of t r ≡ here_edge → IsLeastOrNone g t (λ q. IsOuter g t here_edge q) (get_or parents r 0)
    outer_of r is (inl none) is_exit = inl (cc (n.no_parent), λ q number h. none.1 q number h.0)
    outer_of r is (inr l) is_exit =
        let region : IsRegion g (entry_of t r) (exit_of t r) = s.sound r l.number in
        outer_leaves g f t s here_edge edge r (get_or parents r 0) l is_exit
        (n.right_parents r l.number (f.grown (entry_of t r) (exit_of t r) edges region.pair region.before scan.grown k within l.has))

    pub outer_right_leaves : exit_of t here ≡ here_edge → IsLeastOrNone g t (λ q. IsOuter g t here_edge q) (get_or parents here 0)
    outer_right_leaves is_exit = outer_of here refl here_right is_exit

    old_or_here : (e : ℕ) → Holds (take (k + 1) edges) e → (here_edge ≡ e) ⊎ Holds (take k edges) e
    old_or_here e h = grind (arith, take_more edges k 0 within, Holds-append (take k edges) (here_edge ∷ []) e)

    inside_node : to g here_edge < length innermost
    inside_node = omega (arith, flow.sound.ends here_edge edge, n.nodes)

    -- the node at which the edge ends has its region
    node_right : (there : ℕ) → IsLeastOrNone g t (λ q. IsIn g t q (to g here_edge)) there → (node : ℕ) → node < g.nodes → (node ≡ 0) ⊎ IsHead g (take (k + 1) edges) node → IsLeastOrNone g t (λ q. IsIn g t q node) (get_or (set innermost (to g here_edge) there) node 0)
    node_right there right node exists at = ⊎_elim
        (λ (same : node ≡ to g here_edge). rw (same, get_or-set_same innermost (to g here_edge) there 0 inside_node) right)
        (λ (apart : node ≢ to g here_edge).
        rw (get_or-set_other innermost (to g here_edge) node there 0 apart)
        (n.right_innermost node exists (⊎_elim (λ start. inl start) (λ (h : IsHead g (take (k + 1) edges) node). inr (record { edge = h.edge; among = grind (arith, old_or_here h.edge h.among, h.ends); ends = h.ends })) at)))
        (cases_eq node (to g here_edge))

    -- the edge enters no region
    pub IsNested-none : (outer : ℕ) → IsLeastOrNone g t (λ q. IsOuter g t here_edge q) outer → ((q : ℕ) → IsNumber t q → entry_of t q ≢ here_edge) → IsNested g t (take (k + 1) edges) parents (set innermost (to g here_edge) outer)
    IsNested-none outer right none = record {
      parents_size = n.parents_size;
      no_parent = n.no_parent;
      right_parents = λ r number held. ⊎_elim (λ same. absurd (none r number (sym same))) (n.right_parents r number) (old_or_here (entry_of t r) held);
      nodes = length-set innermost (to g here_edge) outer ∙ n.nodes;
      right_innermost = node_right outer (head_none g f t s here_edge edge outer none right);
    }

    -- the edge enters a region
    pub IsNested-entered : (outer r : ℕ) → IsLeastOrNone g t (λ q. IsOuter g t here_edge q) outer → IsNumber t r → entry_of t r ≡ here_edge → IsNested g t (take (k + 1) edges) (set parents r outer) (set innermost (to g here_edge) r)
    IsNested-entered outer r right number is_entry =
        let some : 0 < r = number.0 in
        let row : r < length t.entries = number.1 in
        let row_parents : r < length parents = omega (arith, row, n.parents_size) in
        record {
          parents_size = length-set parents r outer ∙ n.parents_size;
          no_parent = grind (arith, elements, n.no_parent);
          right_parents = λ q other held. ⊎_elim
              (λ (same : q ≡ r). rw (same, get_or-set_same parents r outer 0 row_parents) (entered_parent g f t s here_edge edge r number is_entry outer right))
              (λ (apart : q ≢ r). rw (get_or-set_other parents r q outer 0 apart) (n.right_parents q other (⊎_elim (λ same. absurd (apart (one_number g f t s q r other number (cc)))) (λ old. old) (old_or_here (entry_of t q) held))))
              (cases_eq q r);
          nodes = length-set innermost (to g here_edge) r ∙ n.nodes;
          right_innermost = node_right r (entered_least g f t s here_edge edge r number is_entry);
        }
