-- Groups of loads end: behind one stands another operation, or none.
use Rattle.std.proofs.Common.{◌≡◌, ◌<◌, ◌≤◌, ◌⊎◌, inl, inr, ⊎_elim, ℕ, zero, suc, ◌+◌, Bool, true, false, List, [], ◌∷◌, length, map, Option, Some, None, slice_get, refl, sym, ap, ◌∙◌, subst, arith}
use Rattle.std.proofs.lemmas.Bool.{eqb-true, eq-eqb, and_from, false≢true, ne_eqb, or_cases}
use Rattle.std.proofs.lemmas.List.{length-map}
use Rattle.std.proofs.lemmas.Map.Steps.{length-le_from_distinct_below}
use Rattle.std.proofs.Math.Dec.{eqb}
use Rattle.std.specs.List.{AllByRecursion, IsDistinct, list_any}
use Rattle.closed_walks.specs.Graph.{edge_count}
use Rattle.firing.specs.declared.system.NodeName.{NodeName}
use Rattle.firing.specs.declared.system.NodeName.TheVariants.{Act, Merge, Switch, Op}
use Rattle.list_laws.specs.Member.{Member}
use Rattle.list_laws.proofs.Members.{IsImage, Member-mapped, list_any_member}
use Rattle.net_board.specs.Nodes.{graph_in}
use Rattle.net_board.proofs.NodeLaws.{Distinct, distinct_append, piece_of}
use Rattle.op_board.specs.OperationNets.{OperationNet, all_operation_nodes, first_operation, operation_node}
use Rattle.op_board.specs.SoundOperationNets.{IsOperationNet}
use Rattle.op_board.proofs.OperationNumbers.{operation_name, operation_stands}
use Rattle.fork_board.specs.LoadGroups.{Site, Spot, behind_group, followed_by, here_or, is_among, is_site, load_at, loads_within, most_loads, site, spot_after, spot_behind}
use Rattle.fork_board.proofs.GroupChains.{IsLoadThere, LineFacts, acting, load_there, not_among, one_further}
use Rattle.fork_board.proofs.LinesInStep.{IsOneMore, one_more}
use Rattle.fork_board.proofs.LoadLists.{AreLoads, IsFirstLoad, first_of}

-- ---- different numbers below a bound are few

apart_from : (y : ℕ) (ys : List ℕ) → (Member ys y → ⊥) → AllByRecursion (λ z. eqb y z ≡ false) ys
apart_from y [] none = tt
apart_from y (z ∷ ys) none = (ne_eqb y z (λ same. none (inl (sym same))), apart_from y ys (λ m. none (inr m)))

distinct : (ys : List ℕ) → Distinct ys → IsDistinct eqb ys
unfolding IsDistinct
distinct [] differ = tt
distinct (y ∷ ys) differ = (apart_from y ys differ.0, distinct ys differ.1)

found_below : (ys : List ℕ) (n : ℕ) → ((y : ℕ) → Member ys y → y < n) → (q : ℕ) → list_any (eqb q) ys ≡ true → q < n
found_below [] n each q found = absurd (false≢true found)
found_below (y ∷ ys) n each q found = ⊎_elim
    (λ (h : eqb q y ≡ true). subst (λ z. z < n) (sym (eqb-true q y h)) (each y (inl refl)))
    (λ (h : list_any (eqb q) ys ≡ true). found_below ys n (λ z m. each z (inr m)) q h)
    (or_cases (eqb q y) (list_any (eqb q) ys) found)

within : {A : Type 0} (xs : List A) (k : ℕ) (a : A) → slice_get xs k ≡ Some a → k < length xs
within [] k a is = let none : None ≡ Some a = is in absurd cc
within (y ∷ ys) zero a is = omega arith
within (y ∷ ys) (suc k) a is = let below = within ys k a is in omega (arith, below)

number_of : NodeName → ℕ
number_of (Op piece i) = i
number_of (Switch piece line) = 0
number_of (Merge piece line) = 0
number_of (Act piece) = 0

module _ (x : OperationNet) (n : IsOperationNet x) (line : ℕ) (facts : LineFacts x n line) where
  -- ---- loads before others

  record IsPrefix (count : ℕ) (s : Spot) : Type 0 where
    pub are : AreLoads x line count s
    pub load : Site
    pub at : load_at x line (spot_behind count x line s) ≡ Some load

  prefix : (count : ℕ) (s : Spot) → AreLoads x line (suc count) s → IsPrefix count s
  prefix zero s are = let f : IsFirstLoad x line 0 s = first_of x line 0 s are in record { are = refl; load = f.load; at = f.at }
  prefix (suc count) s are =
      let f : IsFirstLoad x line (suc count) s = first_of x line (suc count) s are in
      let p : IsPrefix count (spot_after x line s) = prefix count (spot_after x line s) f.others in
      record {
        are = ap (λ o. length (followed_by o (loads_within count x line (spot_after x line s)))) f.at ∙ ap suc p.are;
        load = p.load;
        at = ap (λ o. load_at x line (here_or o s (spot_behind count x line (spot_after x line s)))) f.at ∙ p.at;
      }

  -- ---- they are different operations

  among_members : (sites : List Site) (load : Site) → Member sites load → is_among sites load.piece load.number ≡ true
  among_members sites load m = list_any_member (is_site load.piece load.number) sites load m (and_from _ _ (eq-eqb load.piece load.piece refl) (eq-eqb load.number load.number refl))

  both_ways : {P : Type 0} (b : Bool) → b ≡ true → b ≡ false → P
  both_ways b yes' no' = let e : true ≡ false = sym yes' ∙ no' in absurd cc

  distinct_loads : (count : ℕ) (s : Spot) → s.edge < edge_count (graph_in x.net) → AreLoads x line count s → Distinct (loads_within count x line s)
  distinct_loads zero s exists are = tt
  distinct_loads (suc count) s exists are =
      let p : IsPrefix count s = prefix count s are in
      let more : IsOneMore x line count s p.load = one_more x line count s p.load p.are p.at in
      subst (λ sites. Distinct sites) (sym more.list)
      (distinct_append (loads_within count x line s) (p.load ∷ []) (distinct_loads count s exists p.are) ((λ m. m), tt)
      (λ z m last. ⊎_elim
      (λ (same : p.load ≡ z). both_ways (is_among (loads_within count x line s) p.load.piece p.load.number) (among_members (loads_within count x line s) p.load (subst (λ (l : Site). Member (loads_within count x line s) l) (sym same) m)) (not_among x n line facts count s p.load exists p.are p.at))
      (λ none. none)
      last))

  -- an operation of the net
  record IsOperation (z : Site) : Type 0 where
    pub node : slice_get (all_operation_nodes x) (first_operation x z.piece + z.number) ≡ Some (Op z.piece z.number)
    pub name : operation_node x (first_operation x z.piece + z.number) ≡ Op z.piece z.number

  operation_there : (s : Spot) (load : Site) → s.edge < edge_count (graph_in x.net) → load_at x line s ≡ Some load → IsOperation load
  operation_there s load exists at =
      let r : IsLoadThere x n line facts s load = load_there x n line facts s load at in
      let there = facts.graph.heads s.edge exists in
      let acts = acting x n line facts s load r in
      subst (λ z. IsOperation z) (sym r.is) (record { node = operation_stands x _ r.number there acts r.at.below; name = operation_name x _ r.number there acts r.at.below })

  are_operations : (count : ℕ) (s : Spot) → s.edge < edge_count (graph_in x.net) → (z : Site) → Member (loads_within count x line s) z → IsOperation z
  are_operations zero s exists z m = absurd m
  are_operations (suc count) s exists z m = by (λ there m. are_operations count (spot_after x line s) there z m) (load_at x line s) refl m
    where
      by : ((spot_after x line s).edge < edge_count (graph_in x.net) → Member (loads_within count x line (spot_after x line s)) z → IsOperation z) → (o : Option Site) → load_at x line s ≡ o → Member (followed_by o (loads_within count x line (spot_after x line s))) z → IsOperation z
      by later None at m = absurd m
      by later (Some load) at (inl same) = subst (λ l. IsOperation l) same (operation_there s load exists at)
      by later (Some load) at (inr m) = later ((one_further x n line facts s load exists at).0) m

  -- ---- their numbers as nodes

  abbrev place : Site → ℕ
  place z = first_operation x z.piece + z.number

  one_place : (y z : Site) → IsOperation y → IsOperation z → place y ≡ place z → y ≡ z
  unfolding number_of
  one_place y z first second same =
      let names : Op y.piece y.number ≡ Op z.piece z.number = sym first.name ∙ ap (operation_node x) same ∙ second.name in
      let piece : y.piece ≡ z.piece = ap piece_of names in
      let number : y.number ≡ z.number = ap number_of names in
      λ i. site (piece i) (number i)

  distinct_places : (sites : List Site) → ((z : Site) → Member sites z → IsOperation z) → Distinct sites → Distinct (map place sites)
  distinct_places [] each differ = tt
  distinct_places (y ∷ sites) each differ = (
    (λ m. let r : IsImage place sites (place y) = Member-mapped place sites (place y) m in
        differ.0 (subst (λ (z : Site). Member sites z) (one_place r.origin y (each r.origin (inr r.among)) (each y (inl refl)) r.is) r.among)),
    distinct_places sites (λ z m. each z (inr m)) differ.1,
  )

  few : (count : ℕ) (s : Spot) → s.edge < edge_count (graph_in x.net) → AreLoads x line count s → count ≤ most_loads x
  few count s exists are =
      let sites : List Site = loads_within count x line s in
      let each : (z : Site) → Member sites z → IsOperation z = are_operations count s exists in
      let below : (k : ℕ) → Member (map place sites) k → k < length (all_operation_nodes x) = λ k m.
      let r : IsImage place sites k = Member-mapped place sites k m in
      let o : IsOperation r.origin = each r.origin r.among in
      subst (λ j. j < length (all_operation_nodes x)) r.is (within (all_operation_nodes x) (place r.origin) (Op r.origin.piece r.origin.number) o.node) in
      let bound : length (map place sites) ≤ length (all_operation_nodes x) = length-le_from_distinct_below (map place sites) (length (all_operation_nodes x)) (distinct (map place sites) (distinct_places sites each (distinct_loads count s exists are))) (found_below (map place sites) (length (all_operation_nodes x)) below) in
      let same : length (map place sites) ≡ length sites = length-map sites place in
      omega (arith, bound, same, are)

  -- ---- the end

  all_or_end : (count : ℕ) (s : Spot) → AreLoads x line count s ⊎ (load_at x line (spot_behind count x line s) ≡ None)
  all_or_end zero s = inl refl
  all_or_end (suc count) s = by (load_at x line s) refl (all_or_end count (spot_after x line s))
    where
      by : (o : Option Site) → load_at x line s ≡ o → AreLoads x line count (spot_after x line s) ⊎ (load_at x line (spot_behind count x line (spot_after x line s)) ≡ None) → AreLoads x line (suc count) s ⊎ (load_at x line (spot_behind (suc count) x line s) ≡ None)
      by None at rest = inr (ap (λ o. load_at x line (here_or o s (spot_behind count x line (spot_after x line s)))) at ∙ at)
      by (Some load) at (inl are) = inl (ap (λ o. length (followed_by o (loads_within count x line (spot_after x line s)))) at ∙ ap suc are)
      by (Some load) at (inr none) = inr (ap (λ o. load_at x line (here_or o s (spot_behind count x line (spot_after x line s)))) at ∙ none)

  pub ends : (s : Spot) → s.edge < edge_count (graph_in x.net) → load_at x line (behind_group x line s) ≡ None
  ends s exists = ⊎_elim (λ (are : AreLoads x line (most_loads x) s). full are (load_at x line (behind_group x line s)) refl) (λ none. none) (all_or_end (most_loads x) s)
    where
      full : AreLoads x line (most_loads x) s → (o : Option Site) → load_at x line (behind_group x line s) ≡ o → load_at x line (behind_group x line s) ≡ None
      full are None at = at
      full are (Some load) at =
          let more : IsOneMore x line (most_loads x) s load = one_more x line (most_loads x) s load are at in
          let bound = few (suc (most_loads x)) s exists more.are in
          absurd (omega (arith, bound))
