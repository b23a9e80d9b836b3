-- The graph of rows: its edges are the heads of each row, and edge 0.
use Rattle.std.proofs.Common.{◌≡◌, ℕ, zero, suc, ◌+◌, ◌<◌, true, List, [], ◌∷◌, length, get_or, map, refl, sym, ap, ◌∙◌, subst, zero-add, arith}
use Rattle.std.proofs.lemmas.Bool.{cond-true, cond-false}
use Rattle.closed_walks.specs.Graph.{Graph, IsGraph, edge_count, from, to}
use Rattle.cfg_build.specs.declared.parts.Part.{Part}
use Rattle.cfg_build.specs.declared.parts.Target.{Target}
use Rattle.cfg_build.specs.Control.{fan}
use Rattle.cfg_build.specs.Parts.{start_part}
use Rattle.cfg_build.specs.Joined.{Row, is_joined, number, join_row, part_row, rows}
use Rattle.cfg_build.proofs.Fans.{places_before, get_or-fan, fan_below, IsInFan, cases_fan}
use Rattle.list_laws.specs.Member.{Member}
use Rattle.list_laws.proofs.Members.{IsAt, at_of, Member-at, Member-map, Member-mapped}
use Rattle.cfg_build.proofs.PieceNumbers.{part_at, first_piece, own_piece, joins, number_is, row_of_join, row_of_part, own_below, first_below, piece_of}
use Rattle.cfg_build.proofs.PartOrder.{AreApart}
use Rattle.cfg_build.proofs.PartsFound.{HasPart}
use Rattle.cfg_build.proofs.ReachedNodes.{IsEdge, Reaches, stay, along, along_last, join}
use Rattle.std.proofs.lemmas.Grind.{elements}

abbrev pub heads_in : List Part → List (List ℕ)
heads_in ps = map (λ row. row.heads) (rows ps)

-- the graph of the rows of these parts
abbrev pub row_graph : List Part → (finish : ℕ) → Graph
row_graph ps finish = record { nodes = length (rows ps); edges = (finish, 0) ∷ fan 0 (heads_in ps) }

-- where the edges of a piece lead
abbrev pub heads_at : List Part → ℕ → List ℕ
heads_at ps piece = get_or (heads_in ps) piece []

length_heads_of : (rs : List Row) → length (map (λ (row : Row). row.heads) rs) ≡ length rs
length_heads_of [] = refl
length_heads_of (r ∷ rs) = ap suc (length_heads_of rs)

pub length_heads : (ps : List Part) → length (heads_in ps) ≡ length (rows ps)
length_heads ps = length_heads_of (rows ps)

heads_of_row : (rs : List Row) (k : ℕ) (r : Row) → k < length rs → ((d : Row) → get_or rs k d ≡ r) → get_or (map (λ (row : Row). row.heads) rs) k [] ≡ r.heads
heads_of_row [] k r some is = absurd (omega (arith, some))
heads_of_row (q ∷ rs) zero r some is = ap (λ (x : Row). x.heads) (is r)
heads_of_row (q ∷ rs) (suc k) r some is = heads_of_row rs k r (omega (arith, some)) is

pub heads_of_join : (ps : List Part) (j : ℕ) → j < length ps → is_joined ps (part_at ps j) ≡ true → heads_at ps (first_piece ps j) ≡ (number ps (part_at ps j).own + 1) ∷ []
heads_of_join ps j some joined = heads_of_row (rows ps) (first_piece ps j) (join_row ps (part_at ps j)) (first_below ps j some) (λ d. row_of_join ps j d some joined)

pub heads_of_part : (ps : List Part) (j : ℕ) → j < length ps → heads_at ps (own_piece ps j) ≡ map (number ps) (part_at ps j).outs
heads_of_part ps j some = heads_of_row (rows ps) (own_piece ps j) (part_row ps (part_at ps j)) (own_below ps j some) (λ d. row_of_part ps j d some)

-- an edge but edge 0 leads from a piece to one of its heads
pub record IsRowEdge (ps : List Part) (finish e : ℕ) : Type 0 where
  pub piece : ℕ
  pub nth : ℕ
  pub exists : piece < length (rows ps)
  pub within : nth < length (heads_at ps piece)
  pub at : e ≡ suc (places_before (heads_in ps) piece + nth)
  pub begins : from (row_graph ps finish) e ≡ piece
  pub ends : to (row_graph ps finish) e ≡ get_or (heads_at ps piece) nth 0

module _ (ps : List Part) (finish : ℕ) where
  pub row_edge : (e : ℕ) → suc e < edge_count (row_graph ps finish) → IsRowEdge ps finish (suc e)
  unfolding from to
  row_edge e edge =
      let lists : List (List ℕ) = heads_in ps in
      let r : IsInFan lists e = cases_fan 0 lists e (omega (arith, edge)) in
      let same : length lists ≡ length (rows ps) = length_heads ps in
      let is : get_or (fan 0 lists) e (0, 0) ≡ (r.list, get_or (get_or lists r.list []) r.nth 0) =
      ap (λ n. get_or (fan 0 lists) n (0, 0)) r.at ∙ get_or-fan 0 lists r.list r.nth r.exists r.edge ∙ ap (λ n. (n, get_or (get_or lists r.list []) r.nth 0)) (zero-add r.list) in
      record {
        piece = r.list;
        nth = r.nth;
        exists = omega (arith, r.exists, same);
        within = r.edge;
        at = ap suc r.at;
        begins = ap (λ (p : ℕ × ℕ). p.0) is;
        ends = ap (λ (p : ℕ × ℕ). p.1) is;
      }

  -- the edge number `nth` of a piece
  pub edge_to : (piece nth : ℕ) → piece < length (rows ps) → nth < length (heads_at ps piece) → IsEdge (row_graph ps finish) piece (get_or (heads_at ps piece) nth 0)
  unfolding from to
  edge_to piece nth some within =
      let lists : List (List ℕ) = heads_in ps in
      let same : length lists ≡ length (rows ps) = length_heads ps in
      let exists : piece < length lists = omega (arith, some, same) in
      let is : get_or (fan 0 lists) (places_before lists piece + nth) (0, 0) ≡ (0 + piece, get_or (get_or lists piece []) nth 0) = get_or-fan 0 lists piece nth exists within in
      let below : places_before lists piece + nth < length (fan 0 lists) = fan_below 0 lists piece nth exists within in
      record {
        number = suc (places_before lists piece + nth);
        exists = omega (arith, below);
        begins = ap (λ (p : ℕ × ℕ). p.0) is ∙ zero-add piece;
        ends = ap (λ (p : ℕ × ℕ). p.1) is;
      }

  pub edge_zero : (from (row_graph ps finish) 0 ≡ finish) × (to (row_graph ps finish) 0 ≡ 0)
  unfolding from to
  edge_zero = (refl, refl)

  pub edge_to_head : (piece head : ℕ) (heads : List ℕ) → piece < length (rows ps) → heads_at ps piece ≡ heads → Member heads head → IsEdge (row_graph ps finish) piece head
  edge_to_head piece head heads some same m = grind (arith, at_of heads head m, edge_to piece)

-- ---- parts and their ways

-- a part of these stands at this place
pub record IsPartAt (ps : List Part) (t : Target) : Type 0 where
  pub place : ℕ
  pub exists : place < length ps
  pub own : (part_at ps place).own ≡ t

pub place_of_part : (ps : List Part) (t : Target) → HasPart ps t → IsPartAt ps t
place_of_part ps t h = grind (arith, at_of ps h.one h.among)

module _ (ps : List Part) (finish : ℕ) (apart : AreApart ps) where
  pub number_of : (j : ℕ) (t : Target) → j < length ps → (part_at ps j).own ≡ t → number ps t ≡ first_piece ps j
  number_of j t some own = ap (number ps) (sym own) ∙ number_is ps j apart some

  -- a target that has a part has a number
  pub number_below : (t : Target) → HasPart ps t → number ps t < length (rows ps)
  number_below t h =
      let r : IsPartAt ps t = place_of_part ps t h in
      let below : first_piece ps r.place < length (rows ps) = first_below ps r.place r.exists in
      let is : number ps t ≡ first_piece ps r.place = number_of r.place t r.exists r.own in
      omega (arith, below, is)

  pub number_of_one : (j : ℕ) (p : Part) → j < length ps → part_at ps j ≡ p → number ps p.own ≡ first_piece ps j
  number_of_one j p some is = number_of j p.own some (ap (λ (q : Part). q.own) is)

  -- a way leads from the part's own piece to the number of its target
  pub way_edge : (j : ℕ) (p : Part) (t : Target) → j < length ps → part_at ps j ≡ p → Member p.outs t → IsEdge (row_graph ps finish) (own_piece ps j) (number ps t)
  way_edge j p t some is m =
      grind (arith, edge_to_head ps finish (own_piece ps j) (number ps t) (map (number ps) p.outs) (own_below ps j some), own_piece ps j, own_below ps j some, heads_of_part ps j some, Member-map (number ps) p.outs t m)

  -- the join's edge leads to the part
  pub join_edge : (j : ℕ) → j < length ps → is_joined ps (part_at ps j) ≡ true → IsEdge (row_graph ps finish) (first_piece ps j) (own_piece ps j)
  join_edge j some joined =
      grind (arith, elements, part_at, first_piece, number_is, joins, cond-true, edge_to_head, own_piece, first_below, heads_of_join)

  pub to_own : (j : ℕ) → j < length ps → Reaches (row_graph ps finish) (first_piece ps j) (own_piece ps j)
  to_own j some = grind (arith, along, first_piece, own_piece, join_edge, joins, cond-false, stay)

  -- what is reached goes on along a way
  pub step : (u : ℕ) (p : Part) (t : Target) → Member ps p → Member p.outs t → Reaches (row_graph ps finish) u (number ps p.own) → Reaches (row_graph ps finish) u (number ps t)
  step u p t among m r =
      let g : Graph = row_graph ps finish in
      let at : IsAt ps p = at_of ps p among in
      let is : number ps p.own ≡ first_piece ps at.place = number_of_one at.place p at.exists (at.is start_part) in
      let first : Reaches g u (first_piece ps at.place) = subst (λ n. Reaches g u n) is r in
      along_last g u (own_piece ps at.place) (number ps t)
      (join g u (first_piece ps at.place) (own_piece ps at.place) first (to_own at.place at.exists))
      (way_edge at.place p t at.exists (at.is start_part) m)

  module _ (leads : (p : Part) (t : Target) → Member ps p → Member p.outs t → HasPart ps t) (end_below : finish < length (rows ps)) (some : 0 < length (rows ps)) where
    head_below : (piece nth : ℕ) → piece < length (rows ps) → nth < length (heads_at ps piece) → get_or (heads_at ps piece) nth 0 < length (rows ps)
    head_below piece nth exists within =
        grind (arith, piece_of ps piece exists, part_at ps, Member-at (heads_at ps piece) nth 0 within, own_piece ps, heads_of_part ps, Member-mapped (number ps), number_below, Member-at ps, first_piece ps, heads_of_join ps, joins, cond-true, number_is ps, own_piece, own_below ps)

    begins_below : (e : ℕ) → e < edge_count (row_graph ps finish) → from (row_graph ps finish) e < length (rows ps)
    begins_below zero edge = subst (λ n. n < length (rows ps)) (sym (edge_zero ps finish).0) end_below
    begins_below (suc e) edge = grind (arith, row_edge ps finish e edge)

    ends_below : (e : ℕ) → e < edge_count (row_graph ps finish) → to (row_graph ps finish) e < length (rows ps)
    ends_below zero edge = subst (λ n. n < length (rows ps)) (sym (edge_zero ps finish).1) some
    ends_below (suc e) edge = grind (arith, row_edge ps finish e edge, head_below)

    pub row_graph_sound : IsGraph (row_graph ps finish)
    row_graph_sound = record { begins = begins_below; ends = ends_below }
