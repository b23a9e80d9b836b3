-- The edge that gets the hold of a piece: the piece reaches it, and it isn't edge 0.
use Rattle.std.proofs.Common.{◌≡◌, ◌≢◌, ℕ, ◌<◌, Bool, true, false, List, length, get_or, sym, ap, ◌∙◌, subst, ⊎_elim, arith}
use Rattle.std.proofs.lemmas.Bool.{cases_Bool, cond-true, cond-false, eqb-true, eq-eqb}
use Rattle.std.proofs.lemmas.List.Sums.{fails_before_first, passes_at_first}
use Rattle.std.specs.List.{position_or_len}
use Rattle.closed_walks.specs.Graph.{Graph, edge_count, from, to}
use Rattle.f77_tree.specs.declared.programs.Exec.{Exec}
use Rattle.f77_tree.specs.declared.programs.NameInfo.{NameInfo}
use Rattle.f77_tree.specs.WellFormed.{AreExecs}
use Rattle.cfg_build.specs.declared.pieces.PieceKind.{PieceKind}
use Rattle.cfg_build.specs.Parts.{parts}
use Rattle.cfg_build.specs.Joined.{rows, finish}
use Rattle.cfg_build.specs.Holds.{is_held, is_join, held_edge}
use Rattle.cfg_build.specs.Flow.{piece_at}
use Rattle.cfg_build.specs.Degrees.{in_degree}
use Rattle.cfg_build.proofs.JoinedGraph.{row_graph, edge_zero}
use Rattle.list_laws.proofs.Counts.{count_unique}
use Rattle.cfg_build.proofs.FanCounts.{comes_to, leaves_from}
use Rattle.cfg_build.proofs.PieceKinds.{pieces_of}
use Rattle.cfg_build.proofs.ReachedNodes.{IsTold, Reaches, IsEdge, stay, along}
use Rattle.cfg_build.proofs.ReachedPieces.{joined_sound, leaves_piece}
use Rattle.cfg_build.proofs.JoinedDegrees.{one_comes}
use Rattle.cfg_build.proofs.Lowest.{IsHeldBy, held_says}

pub position_found : {X : Type 0} (p : X → Bool) (xs : List X) (k : ℕ) (d : X) → k < length xs → p (get_or xs k d) ≡ true → position_or_len p xs < length xs
position_found p xs k d some passes = grind (arith, fails_before_first)

pub record IsHoldEdge (g : Graph) (x e : ℕ) : Type 0 where
  pub exists : e < edge_count g
  pub other : e ≢ 0
  pub returns : Reaches g x (from g e)

module _ (g : Graph) (finish : ℕ) (zero_from : from g 0 ≡ finish) (x : ℕ) (stuck : Reaches g x finish → ⊥) where
  -- the edge out of a join
  pub out_of_join : (y : ℕ) → IsEdge g x y → IsHoldEdge g x (position_or_len (leaves_from x) g.edges)
  unfolding from
  out_of_join y e =
      grind (arith, leaves_from x, position_found (leaves_from x) g.edges e.number, eq-eqb (from g e.number) x e.begins, eqb-true, passes_at_first (leaves_from x) g.edges, stay g x finish, stay g x)

  -- the edge into another piece
  pub into_piece : in_degree g x ≡ 1 → (e : ℕ) → e < edge_count g → to g e ≡ x → Reaches g x (from g e) → IsHoldEdge g x (position_or_len (comes_to x) g.edges)
  unfolding from to
  into_piece one e edge ends returns =
      grind (arith, comes_to x, position_found (comes_to x) g.edges e, eq-eqb (to g e) x ends, comes_to, passes_at_first (comes_to x) g.edges, count_unique (comes_to x) g.edges)

module _ (told : IsTold) (names : List NameInfo) (execs : List Exec) (loops : ℕ) (well : AreExecs names execs loops) where
  abbrev g : Graph
  g = row_graph (parts execs) (finish execs)

  abbrev pub edge_for : ℕ → ℕ
  edge_for x = held_edge (row_graph (parts execs) (finish execs)) x (piece_at (pieces_of (parts execs)) x).kind

  pub hold_edge : (x : ℕ) → x < length (rows (parts execs)) → is_held (row_graph (parts execs) (finish execs)) (finish execs) x ≡ true → IsHoldEdge (row_graph (parts execs) (finish execs)) x (held_edge (row_graph (parts execs) (finish execs)) x (piece_at (pieces_of (parts execs)) x).kind)
  hold_edge x below held =
      let kind : PieceKind = (piece_at (pieces_of (parts execs)) x).kind in
      let says : IsHeldBy told g (joined_sound told names execs loops well) (finish execs) x = held_says told g (joined_sound told names execs loops well) (finish execs) x below held in
      let zero_from : from g 0 ≡ finish execs = (edge_zero (parts execs) (finish execs)).0 in
      ⊎_elim
      (λ (h : is_join kind ≡ true).
      subst (λ e. IsHoldEdge g x e) (sym (cond-true (is_join kind) (position_or_len (leaves_from x) g.edges) (position_or_len (comes_to x) g.edges) h))
      (⊎_elim
      (λ (is : x ≡ finish execs). absurd (says.stuck (stay g x (finish execs) is)))
      (λ (r : (y : ℕ) × IsEdge g x y). out_of_join g (finish execs) zero_from x says.stuck r.0 r.1)
      (leaves_piece told names execs loops well x below)))
      (λ (h : is_join kind ≡ false).
      subst (λ e. IsHoldEdge g x e) (sym (cond-false (is_join kind) (position_or_len (leaves_from x) g.edges) (position_or_len (comes_to x) g.edges) h))
      (into_piece g (finish execs) zero_from x says.stuck
      (one_comes told names execs loops well x below (λ (is : x ≡ finish execs). says.stuck (stay g x (finish execs) is)) h)
      says.cycle.edge says.cycle.exists says.cycle.ends says.cycle.returns))
      (cases_Bool (is_join kind))

  -- ---- no edge is held twice

  begins_at_join : (x e : ℕ) → e < edge_count g → e ≡ position_or_len (leaves_from x) g.edges → from g e ≡ x
  unfolding from
  begins_at_join x e edge is = grind (arith, leaves_from x, eqb-true, passes_at_first (leaves_from x) g.edges (0, 0))

  ends_at_other : (x e : ℕ) → e < edge_count g → e ≡ position_or_len (comes_to x) g.edges → to g e ≡ x
  unfolding to
  ends_at_other x e edge is = grind (arith, comes_to x, eqb-true, passes_at_first (comes_to x) g.edges (0, 0))

  module _ (x : ℕ) (below : x < length (rows (parts execs))) (held : is_held (row_graph (parts execs) (finish execs)) (finish execs) x ≡ true) where
    -- the hold of a join stands on the edge that leaves it
    pub hold_leaves_join : is_join (piece_at (pieces_of (parts execs)) x).kind ≡ true → from (row_graph (parts execs) (finish execs)) (edge_for x) ≡ x
    hold_leaves_join h = begins_at_join x (edge_for x) (hold_edge x below held).exists (cond-true (is_join (piece_at (pieces_of (parts execs)) x).kind) (position_or_len (leaves_from x) g.edges) (position_or_len (comes_to x) g.edges) h)

    -- the hold of another piece stands on the edge that comes to it
    pub hold_comes_to_other : is_join (piece_at (pieces_of (parts execs)) x).kind ≡ false → to (row_graph (parts execs) (finish execs)) (edge_for x) ≡ x
    hold_comes_to_other h = ends_at_other x (edge_for x) (hold_edge x below held).exists (cond-false (is_join (piece_at (pieces_of (parts execs)) x).kind) (position_or_len (leaves_from x) g.edges) (position_or_len (comes_to x) g.edges) h)

  -- the lower of two held pieces isn't reached from the higher
  pub not_to_lower : (x y : ℕ) → x < length (rows (parts execs)) → y < length (rows (parts execs)) → is_held g (finish execs) x ≡ true → is_held g (finish execs) y ≡ true → x < y → Reaches g y x → ⊥
  not_to_lower x y x_below y_below x_held y_held less r =
      grind (arith, joined_sound told names execs loops well, held_says told g (joined_sound told names execs loops well) (finish execs) x x_below x_held, held_says told g (joined_sound told names execs loops well) (finish execs) y y_below y_held)

  pub edges_apart : (x y : ℕ) → x < length (rows (parts execs)) → y < length (rows (parts execs)) → is_held (row_graph (parts execs) (finish execs)) (finish execs) x ≡ true → is_held (row_graph (parts execs) (finish execs)) (finish execs) y ≡ true → x < y → edge_for x ≢ edge_for y
  edges_apart x y x_below y_below x_held y_held less same =
      let x_kind : Bool = is_join (piece_at (pieces_of (parts execs)) x).kind in
      let y_kind : Bool = is_join (piece_at (pieces_of (parts execs)) y).kind in
      let never : Reaches g y x → ⊥ = not_to_lower x y x_below y_below x_held y_held less in
      ⊎_elim
      (λ (xj : x_kind ≡ true).
      let x_from : from g (edge_for x) ≡ x = hold_leaves_join x x_below x_held xj in
      ⊎_elim
      (λ (yj : y_kind ≡ true).
      let y_from : from g (edge_for y) ≡ y = hold_leaves_join y y_below y_held yj in
      let is : x ≡ y = sym x_from ∙ ap (λ e. from g e) same ∙ y_from in
      omega (arith, is, less))
      (λ (yj : y_kind ≡ false).
      let back : Reaches g y (from g (edge_for y)) = (hold_edge y y_below y_held).returns in
      never (subst (λ n. Reaches g y n) (ap (λ e. from g e) (sym same) ∙ x_from) back))
      (cases_Bool y_kind))
      (λ (xj : x_kind ≡ false).
      let x_to : to g (edge_for x) ≡ x = hold_comes_to_other x x_below x_held xj in
      ⊎_elim
      (λ (yj : y_kind ≡ true).
      let y_from : from g (edge_for y) ≡ y = hold_leaves_join y y_below y_held yj in
      never (along g y x (record { number = edge_for y; exists = (hold_edge y y_below y_held).exists; begins = y_from; ends = ap (λ e. to g e) (sym same) ∙ x_to })))
      (λ (yj : y_kind ≡ false).
      let y_to : to g (edge_for y) ≡ y = hold_comes_to_other y y_below y_held yj in
      let is : x ≡ y = sym x_to ∙ ap (λ e. to g e) same ∙ y_to in
      omega (arith, is, less))
      (cases_Bool y_kind))
      (cases_Bool x_kind)
