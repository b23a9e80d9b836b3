-- In a region that is quiet for the line of output no cycle avoids the increments of DOs: from it the end could not be reached.
use Rattle.std.proofs.Common.{◌≡◌, ◌≢◌, ℕ, ◌<◌, ◌⊎◌, Bool, true, false, ◌==◌, not, List, [], ◌∷◌, ◌++◌, refl, sym, ap, ◌∙◌, subst, inl, inr, ⊎_elim, arith}
use Rattle.std.proofs.lemmas.Bool.{or_parts, not-false, eqb-false, eq-eqb}
use Rattle.closed_walks.specs.Cycling.{IsOnCycle}
use Rattle.closed_walks.specs.Graph.{Graph, edge_count, from, to}
use Rattle.closed_walks.specs.Walk.{Walk, Avoids, Holds, Reach, no_edge}
use Rattle.f77_tree.specs.declared.programs.Program.{Program}
use Rattle.cfg_build.specs.declared.pieces.PieceKind.{PieceKind}
use Rattle.cfg_build.specs.declared.pieces.PieceKind.TheVariants as piece
use Rattle.cfg_build.specs.Flow.{flow}
use Rattle.cfg_build.specs.Degrees.{out_degree}
use Rattle.cfg_build.specs.Joined.{finish}
use Rattle.cfg_build.specs.Shape.{leaves_one, IsShaped}
use Rattle.dep_routing.specs.Touches.{piece_kind, is_increment, ends_rounds}
use Rattle.dep_routing.proofs.Circles.{IsPlace, ends_stay, Avoids-fewer}
use Rattle.list_laws.proofs.Counts.{count_unique}

-- one edge leaves the node
one_from : (g : Graph) (node a b : ℕ) → out_degree g node ≡ 1 → a < edge_count g → b < edge_count g → from g a ≡ node → from g b ≡ node → a ≡ b
unfolding from
one_from g node a b one a_edge b_edge at_a at_b =
    count_unique (λ (e : ℕ × ℕ). e.0 == node) g.edges a b (0, 0) (omega (arith, one)) a_edge b_edge (eq-eqb (from g a) node at_a) (eq-eqb (from g b) node at_b)

-- ---- walks

Walk-append : (g : Graph) (u x v : ℕ) (w z : List ℕ) → Walk g u w x → Walk g x z v → Walk g u (w ++ z) v
Walk-append g u x v [] z first second = subst (λ n. Walk g n z v) (sym first) second
Walk-append g u x v (e ∷ w) z first second = (first.0, first.1, Walk-append g (to g e) x v w z first.2 second)

Avoids-append : (avoided : ℕ → Bool) (w z : List ℕ) → Avoids avoided w → Avoids avoided z → Avoids avoided (w ++ z)
Avoids-append avoided [] z first second = second
Avoids-append avoided (e ∷ w) z first second = (first.0, Avoids-append avoided w z first.1 second)

-- a walk up to an edge of it, and from there on
record IsSplit (g : Graph) (avoided : ℕ → Bool) (u e v : ℕ) : Type 0 where
  edge : e < edge_count g
  free : avoided e ≡ false
  prefix : List ℕ
  first : Walk g u prefix (from g e)
  prefix_avoids : Avoids avoided prefix
  back : List ℕ
  second : Walk g (to g e) back v
  back_avoids : Avoids avoided back

split : (g : Graph) (avoided : ℕ → Bool) (u v e : ℕ) (w : List ℕ) → Walk g u w v → Avoids avoided w → Holds w e → IsSplit g avoided u e v
split g avoided u v e [] leads avoids h = absurd h
split g avoided u v e (d ∷ w) leads avoids (inl same) =
    subst (λ x. IsSplit g avoided u x v) same (record { edge = leads.0; free = avoids.0; prefix = []; first = sym leads.1; prefix_avoids = tt; back = w; second = leads.2; back_avoids = avoids.1 })
split g avoided u v e (d ∷ w) leads avoids (inr h) =
    let r : IsSplit g avoided (to g d) e v = split g avoided (to g d) v e w leads.2 avoids.1 h in
    record { edge = r.edge; free = r.free; prefix = d ∷ r.prefix; first = (leads.0, leads.1, r.first); prefix_avoids = (avoids.0, r.prefix_avoids); back = r.back; second = r.second; back_avoids = r.back_avoids }

-- an edge of the walk is followed by another, or ends where the walk does
followed : (g : Graph) (u v e : ℕ) (w : List ℕ) → Walk g u w v → Holds w e → (to g e ≡ v) ⊎ ((d : ℕ) × Holds w d × (from g d ≡ to g e))
followed g u v e [] leads h = absurd h
followed g u v e (d ∷ []) leads (inl same) = inl (ap (λ x. to g x) (sym same) ∙ leads.2)
followed g u v e (d ∷ (c ∷ w)) leads (inl same) = inr (c, inr (inl refl), leads.2.1 ∙ ap (λ x. to g x) same)
followed g u v e (d ∷ w) leads (inr h) = ⊎_elim
    (λ (ends : to g e ≡ v). inl ends)
    (λ (r : (c : ℕ) × Holds w c × (from g c ≡ to g e)). inr (r.0, inr r.1, r.2))
    (followed g (to g d) v e w leads.2 h)

module _ (p : Program) (inside : ℕ → Bool) (place : IsPlace p inside) (shape : IsShaped (flow p.execs) (finish p.execs)) where
  abbrev g : Graph
  g = (flow p.execs).graph

  module _ (v c : ℕ) (w : List ℕ) (leads : Walk (flow p.execs).graph v (c ∷ w) v) (avoids : Avoids (ends_stay p inside place) (c ∷ w)) (here : inside v ≡ true) where
    -- an edge of the cycle begins at the node
    record IsOn (node : ℕ) : Type 0 where
      within : inside node ≡ true
      edge : ℕ
      among : Holds (c ∷ w) edge
      begins : from (flow p.execs).graph edge ≡ node

    at_first : IsOn v
    at_first = record { within = here; edge = c; among = inl refl; begins = leads.1 }

    piece_of : (e : ℕ) → Holds (c ∷ w) e → IsSplit (flow p.execs).graph (ends_stay p inside place) v e v
    piece_of e h = split g (ends_stay p inside place) v v e (c ∷ w) leads avoids h

    stays_inside : (e : ℕ) → ends_stay p inside place e ≡ false → inside (to (flow p.execs).graph e) ≡ true
    stays_inside e h = not-false (inside (to g e)) (or_parts (ends_rounds p e) (not (inside (to g e))) h).1

    -- so the node lies on a cycle that lowers no count
    on_cycle : (node : ℕ) → IsOn node → IsOnCycle (flow p.execs).graph (ends_rounds p) node
    on_cycle node o =
        let s : IsSplit g (ends_stay p inside place) v o.edge v = piece_of o.edge o.among in
        let all : List ℕ = s.back ++ s.prefix in
        let walk : Walk g (to g o.edge) all (from g o.edge) = Walk-append g (to g o.edge) v (from g o.edge) s.back s.prefix s.second s.first in
        let none : Avoids (ends_stay p inside place) (o.edge ∷ all) = (s.free, Avoids-append (ends_stay p inside place) s.back s.prefix s.back_avoids s.prefix_avoids) in
        record {
          first = o.edge;
          rest = all;
          closed = (s.edge, o.begins, subst (λ x. Walk g (to g o.edge) all x) o.begins walk);
          avoids = Avoids-fewer (ends_stay p inside place) (ends_rounds p) (o.edge ∷ all) (λ e h. (or_parts (ends_rounds p e) (not (inside (to g e))) h).0) none;
        }

    node_of : (node : ℕ) → IsOn node → node < (flow p.execs).graph.nodes
    node_of node o = subst (λ x. x < g.nodes) o.begins (place.sound.begins o.edge (piece_of o.edge o.among).edge)

    leaves_one_of : (kind : PieceKind) → kind ≢ piece.Branch → kind ≢ piece.Hold → leaves_one kind ≡ true
    leaves_one_of piece.Start a b = refl
    leaves_one_of piece.Act a b = refl
    leaves_one_of piece.Pass a b = refl
    leaves_one_of piece.Branch a b = absurd (a refl)
    leaves_one_of piece.Join a b = refl
    leaves_one_of piece.Hold a b = absurd (b refl)
    leaves_one_of piece.End a b = refl

    -- it has one edge, which is one of the cycle
    only_edge : (node e : ℕ) → IsOn node → e < edge_count (flow p.execs).graph → from (flow p.execs).graph e ≡ node → (o : IsOn node) → e ≡ o.edge
    only_edge node e on edge begins o =
        let below : node < g.nodes = node_of node o in
        let one : out_degree g node ≡ 1 = shape.one_leaves node below (leaves_one_of (piece_kind p node)
        (λ (branch : piece_kind p node ≡ piece.Branch). place.no_rounds node below o.within branch (on_cycle node o))
        (place.no_holds node below o.within)) in
        one_from g node e o.edge one edge (piece_of o.edge o.among).edge begins o.begins

    next : (node e : ℕ) → IsOn node → e < edge_count (flow p.execs).graph → from (flow p.execs).graph e ≡ node → IsOn (to (flow p.execs).graph e)
    next node e o edge begins =
        let same : e ≡ o.edge = only_edge node e o edge begins o in
        let s : IsSplit g (ends_stay p inside place) v o.edge v = piece_of o.edge o.among in
        let there : IsOn (to g o.edge) = ⊎_elim
        (λ (last : to g o.edge ≡ v). subst (λ x. IsOn x) (sym last) at_first)
        (λ (r : (d : ℕ) × Holds (c ∷ w) d × (from g d ≡ to g o.edge)). record { within = stays_inside o.edge s.free; edge = r.0; among = r.1; begins = r.2 })
        (followed g v v o.edge (c ∷ w) leads o.among) in
        subst (λ x. IsOn (to g x)) (sym same) there

    on_all : (z : List ℕ) (u x : ℕ) → Walk (flow p.execs).graph u z x → IsOn u → IsOn x
    on_all [] u x walk o = subst (λ n. IsOn n) walk o
    on_all (e ∷ z) u x walk o = on_all z (to g e) x walk.2 (next u e o walk.0 walk.1)

    pub no_cycle : Reach (flow p.execs).graph no_edge v (finish p.execs) → ⊥
    no_cycle r =
        let o : IsOn (finish p.execs) = on_all r.walk v (finish p.execs) r.leads at_first in
        let s : IsSplit g (ends_stay p inside place) v o.edge v = piece_of o.edge o.among in
        let zero_is : o.edge ≡ 0 = (shape.leaves_end o.edge s.edge).0 o.begins in
        let ends = or_parts (ends_rounds p o.edge) (not (inside (to g o.edge))) s.free in
        let not_zero = or_parts (o.edge == 0) (is_increment p (from g o.edge)) ends.0 in
        eqb-false o.edge 0 not_zero.0 zero_is
