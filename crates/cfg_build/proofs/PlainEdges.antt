-- Edges that neither leave a hold nor lead to one are those of the joined graph on which no hold stands.
use Rattle.std.proofs.Common.{◌≡◌, ◌≢◌, ℕ, zero, suc, ◌+◌, ◌-◌, ◌<◌, ◌≤◌, ◌==◌, true, List, [], ◌∷◌, length, get_or, map, sym, ap, ◌∙◌, subst, ⊎_elim, arith}
use Rattle.std.proofs.lemmas.Bool.{cases_lt, eq-eqb}
use Rattle.std.proofs.lemmas.List.{length-map}
use Rattle.std.specs.List.{range_with_len}
use Rattle.closed_walks.specs.Graph.{Graph, edge_count, from, to}
use Rattle.f77_tree.specs.declared.programs.Exec.{Exec}
use Rattle.f77_tree.specs.declared.programs.NameInfo.{NameInfo}
use Rattle.f77_tree.specs.WellFormed.{AreExecs}
use Rattle.cfg_build.specs.declared.parts.Part.{Part}
use Rattle.cfg_build.specs.declared.parts.Target.{Target}
use Rattle.cfg_build.specs.declared.parts.Target.TheVariants.{First}
use Rattle.cfg_build.specs.declared.pieces.PieceKind.TheVariants as piece
use Rattle.cfg_build.specs.Parts.{parts}
use Rattle.cfg_build.specs.Joined.{rows, finish, is_joined, number}
use Rattle.cfg_build.specs.Flow.{flow, held}
use Rattle.cfg_build.specs.Passes.{outs}
use Rattle.cfg_build.specs.Shape.{kind_at}
use Rattle.cfg_build.specs.Zones.{IsPlain}
use Rattle.list_laws.specs.Member.{Member}
use Rattle.list_laws.proofs.Members.{Member-filter, Member-filtered, Member-range, Member-in_range}
use Rattle.cfg_build.proofs.ReachedNodes.{IsTold}
use Rattle.cfg_build.proofs.Lowest.{IsMet}
use Rattle.cfg_build.proofs.JoinedGraph.{row_graph, heads_in, heads_at, heads_of_join, heads_of_part, edge_zero, IsRowEdge, row_edge}
use Rattle.cfg_build.proofs.Fans.{places_before}
use Rattle.cfg_build.proofs.OutEdges.{first_out}
use Rattle.cfg_build.proofs.PieceNumbers.{part_at, first_piece, own_piece, joins, number_is, IsPieceOf, piece_of}
use Rattle.cfg_build.proofs.ReachedPieces.{apart}
use Rattle.cfg_build.proofs.HeldEdges.{edge_for}
use Rattle.cfg_build.proofs.AfterHolds.{AfterHolds}
use Rattle.cfg_build.proofs.FlowEdges.{after, outs_old, held_edge_at}
use Rattle.cfg_build.proofs.EnteredParts.{IsHeldEdge, cases_held}
use Rattle.cfg_build.proofs.PartRoutes.{hold_kind}
use Rattle.std.proofs.lemmas.Bool.{cond-true}

nth_mapped : (f : Target → ℕ) (ts : List Target) (i : ℕ) → i < length ts → get_or (map f ts) i 0 ≡ f (get_or ts i (First 0))
nth_mapped f [] i some = absurd (omega (arith, some))
nth_mapped f (t ∷ ts) zero some = let e : f t ≡ f t = λ _. f t in e
nth_mapped f (t ∷ ts) (suc i) some = nth_mapped f ts i (omega (arith, some))

module _ (told : IsTold) (met : IsMet) (names : List NameInfo) (execs : List Exec) (loops : ℕ) (well : AreExecs names execs loops) where
  abbrev ps : List Part
  ps = parts execs

  abbrev g : Graph
  g = row_graph (parts execs) (finish execs)

  abbrev f : Graph
  f = (flow execs).graph

  abbrev n : ℕ
  n = length (rows (parts execs))

  holds_made : AfterHolds (row_graph (parts execs) (finish execs)) (finish execs) (edge_for told names execs loops well) (held execs) (length (held execs)) (flow execs).graph
  holds_made = after told names execs loops well

  hold_from : (x : ℕ) → n ≤ x → x < n + length (held execs) → kind_at (flow execs) x ≡ piece.Hold
  hold_from x low high =
      let q : ℕ = x - n in
      let is : n + q ≡ x = omega (arith, low) in
      ap (λ y. kind_at (flow execs) y) (sym is) ∙ hold_kind told met names execs loops well q (omega (arith, low, high))

  -- an edge of the joined graph that leads where it led there
  pub record IsOld (e : ℕ) : Type 0 where
    pub exists : e < edge_count (row_graph (parts execs) (finish execs))
    pub begins : from (flow execs).graph e ≡ from (row_graph (parts execs) (finish execs)) e
    pub ends : to (flow execs).graph e ≡ to (row_graph (parts execs) (finish execs)) e

  old_below : (e : ℕ) → e < edge_count f → from f e < n → e < edge_count g
  old_below e exists begins =
      let x : ℕ = from f e in
      let here : Member (outs f x) e = Member-filter (λ d. from f d == x) (range_with_len 0 (edge_count f)) e (Member-range 0 (edge_count f) e (omega arith) (omega (arith, exists))) (eq-eqb (from f e) x (λ _. from f e)) in
      let there : Member (outs g x) e = subst (λ es. Member es e) (outs_old told names execs loops well x begins) here in
      let r = Member-filtered (λ d. from g d == x) (range_with_len 0 (edge_count g)) e there in
      let within = Member-in_range 0 (edge_count g) e r.0 in
      omega (arith, within.1)

  nodes_are : (flow execs).graph.nodes ≡ n + length (held execs)
  nodes_are = holds_made.nodes

  pub plain_old : ((e : ℕ) → e < edge_count (flow execs).graph → from (flow execs).graph e < (flow execs).graph.nodes) → (e : ℕ) → IsPlain (flow execs) e → IsOld e
  plain_old sound e plain = ⊎_elim
      (λ (l : from f e < n).
      let below : e < edge_count g = old_below e plain.exists l in
      ⊎_elim
      (λ (h : IsHeldEdge told names execs loops well e).
      let ends : to f e ≡ n + h.place = ap (λ d. to f d) (sym h.is) ∙ holds_made.held h.place h.some in
      absurd (plain.leads (ap (λ y. kind_at (flow execs) y) ends ∙ hold_kind told met names execs loops well h.place h.some)))
      (λ (none : (q : ℕ) → q < length (held execs) → held_edge_at told names execs loops well q ≢ e).
      record { exists = below; begins = holds_made.tails e below; ends = holds_made.free e below none })
      (cases_held told names execs loops well e))
      (λ (h : n ≤ from f e).
      let node : from f e < (flow execs).graph.nodes = sound e plain.exists in
      absurd (plain.leaves (hold_from (from f e) h (omega (arith, node, nodes_are)))))
      (cases_lt (from f e) n)

  -- ---- what such an edge is: edge 0, that of a join to its part, or a way of a part

  pub data IsOldWay (e : ℕ) : Type 0 where
    Back : from (flow execs).graph e ≡ finish execs → to (flow execs).graph e ≡ 0 → IsOldWay e
    Joins : (j : ℕ) → j < length (parts execs) → is_joined (parts execs) (part_at (parts execs) j) ≡ true → from (flow execs).graph e ≡ first_piece (parts execs) j → to (flow execs).graph e ≡ own_piece (parts execs) j → IsOldWay e
    Way : (j i : ℕ) → j < length (parts execs) → i < length (part_at (parts execs) j).outs → from (flow execs).graph e ≡ own_piece (parts execs) j → to (flow execs).graph e ≡ number (parts execs) (get_or (part_at (parts execs) j).outs i (First 0)) → e ≡ first_out (parts execs) (finish execs) (own_piece (parts execs) j) + i → IsOldWay e

  row_way : (e : ℕ) → IsOld e → (r : IsRowEdge ps (finish execs) e) → (b : IsPieceOf ps r.piece) → IsOldWay e
  row_way e old r b =
      let j : ℕ = b.part in
      let p : Part = part_at ps j in
      ⊎_elim
      (λ (own : r.piece ≡ own_piece ps j).
      let heads : heads_at ps r.piece ≡ map (number ps) p.outs = ap (λ x. heads_at ps x) own ∙ heads_of_part ps j b.exists in
      let count : length (heads_at ps r.piece) ≡ length p.outs = ap (λ (xs : List ℕ). length xs) heads ∙ length-map p.outs (number ps) in
      let within : r.nth < length p.outs = omega (arith, count, r.within) in
      let at : e ≡ first_out ps (finish execs) r.piece + r.nth = r.at ∙ (let c : suc (places_before (heads_in ps) r.piece + r.nth) ≡ suc (places_before (heads_in ps) r.piece) + r.nth = omega arith in c) in
      Way j r.nth b.exists within (old.begins ∙ r.begins ∙ own)
      (old.ends ∙ r.ends ∙ ap (λ (xs : List ℕ). get_or xs r.nth 0) heads ∙ nth_mapped (number ps) p.outs r.nth within)
      (at ∙ ap (λ x. first_out ps (finish execs) x + r.nth) own))
      (λ (join : (is_joined ps p ≡ true) × (r.piece ≡ first_piece ps j)).
      let heads : heads_at ps r.piece ≡ (number ps p.own + 1) ∷ [] = ap (λ x. heads_at ps x) join.1 ∙ heads_of_join ps j b.exists join.0 in
      let count : length (heads_at ps r.piece) ≡ 1 = ap (λ (xs : List ℕ). length xs) heads in
      let zeroth : r.nth ≡ 0 = omega (arith, count, r.within) in
      let one : joins ps p ≡ 1 = cond-true (is_joined ps p) 1 0 join.0 in
      let is : number ps p.own ≡ first_piece ps j = number_is ps j (apart told names execs loops well) b.exists in
      let next : number ps p.own + 1 ≡ own_piece ps j = omega (arith, one, is) in
      Joins j b.exists join.0 (old.begins ∙ r.begins ∙ join.1)
      (old.ends ∙ r.ends ∙ ap (λ (xs : List ℕ). get_or xs r.nth 0) heads ∙ ap (λ i. get_or ((number ps p.own + 1) ∷ []) i 0) zeroth ∙ next))
      b.which

  pub old_way : (e : ℕ) → IsOld e → IsOldWay e
  old_way zero old = Back (old.begins ∙ (edge_zero ps (finish execs)).0) (old.ends ∙ (edge_zero ps (finish execs)).1)
  old_way (suc e) old = let r : IsRowEdge ps (finish execs) (suc e) = row_edge ps (finish execs) e old.exists in row_way (suc e) old r (piece_of ps r.piece r.exists)
