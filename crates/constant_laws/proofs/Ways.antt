-- Edges that leave a piece, and pieces that one edge comes to and one edge leaves.
use Rattle.std.proofs.Common.{◌≡◌, ◌≢◌, ℕ, ◌<◌, ◌≤◌, ◌==◌, List, [], ◌∷◌, length, refl, sym, ap, ◌∙◌, ⊎_elim, arith}
use Rattle.std.proofs.lemmas.Bool.{cases_lt, eq-eqb}
use Rattle.std.proofs.lemmas.List.{get_or_past}
use Rattle.std.specs.List.{range_with_len}
use Rattle.closed_walks.specs.Graph.{Graph, edge_count, from, to}
use Rattle.closed_walks.specs.Region.{IsFlowGraph, IsPassed}
use Rattle.closed_walks.specs.Walk.{Walk}
use Rattle.f77_tree.specs.declared.programs.Program.{Program}
use Rattle.cfg_build.specs.declared.pieces.PieceKind.TheVariants.{Start, End}
use Rattle.cfg_build.specs.Degrees.{in_degree, out_degree}
use Rattle.cfg_build.specs.Joined.{FlowGraph, finish}
use Rattle.cfg_build.specs.Passes.{outs, out}
use Rattle.cfg_build.specs.Shape.{kind_at}
use Rattle.list_laws.proofs.Counts.{count_unique}
use Rattle.list_laws.specs.Member.{Member}
use Rattle.list_laws.proofs.Members.{IsAt, at_of, Member-filter, Member-range}
use Rattle.const_prop.specs.Setting.{IsProgram}
use Rattle.const_prop.proofs.Degrees.{one_edge_to}

one_edge_from : (g : Graph) (node i j : ℕ) → out_degree g node ≡ 1 → i < edge_count g → j < edge_count g → from g i ≡ node → from g j ≡ node → i ≡ j
unfolding from
one_edge_from g node i j one li lj fi fj = count_unique (λ (e : ℕ × ℕ). e.0 == node) g.edges i j (0, 0) (omega (arith, one)) li lj (eq-eqb (from g i) node fi) (eq-eqb (from g j) node fj)

-- ---- out-edges

-- an edge is one of those that leave a node, with its place among these
pub record IsOut (g : Graph) (node d : ℕ) : Type 0 where
  pub place : ℕ
  pub exists : place < length (outs g node)
  pub is : d ≡ out g node place

pub out_of : (g : Graph) (node d : ℕ) → d < edge_count g → from g d ≡ node → IsOut g node d
out_of g node d edge begins =
    let m : Member (outs g node) d = Member-filter (λ e. from g e == node) (range_with_len 0 (edge_count g)) d (Member-range 0 (edge_count g) d (omega arith) (omega (arith, edge))) (eq-eqb (from g d) node begins) in
    let r : IsAt (outs g node) d = at_of (outs g node) d m in
    record { place = r.place; exists = r.exists; is = sym (r.is 0) }

module _ (p : Program) (f : FlowGraph) (program : IsProgram p f) where
  -- edge 0, which stands for a place where there is none, leaves the end
  pub out_exists : (node i : ℕ) → node < f.graph.nodes → (kind_at f node ≡ End → ⊥) → from f.graph (out f.graph node i) ≡ node → i < length (outs f.graph node)
  out_exists node i inside other begins = ⊎_elim
      (λ (l : i < length (outs f.graph node)). l)
      (λ (past : length (outs f.graph node) ≤ i).
      let none : out f.graph node i ≡ 0 = get_or_past (outs f.graph node) i 0 past in
      let two = program.shape.two_edges in
      let ends : from f.graph 0 ≡ finish p.execs = (program.shape.leaves_end 0 (omega (arith, two))).1 refl in
      let is : node ≡ finish p.execs = sym begins ∙ ap (λ e. from f.graph e) none ∙ ends in
      absurd (other ((program.shape.end node inside).1 is)))
      (cases_lt i (length (outs f.graph node)))

  -- the edges that leave the start
  pub start_edge : (d : ℕ) → d < edge_count f.graph → from f.graph d ≡ 0 → d ≡ 1
  start_edge d edge begins = (program.shape.leaves_start d edge).0 begins

  pub start_kind : (node : ℕ) → node < f.graph.nodes → kind_at f node ≡ Start → node ≡ 0
  start_kind node inside is = (program.shape.start node inside).0 is

-- ---- pieces on one way

-- where each edge to a node begins at it, no walk leads to it from another
only_round : (g : Graph) (node : ℕ) → ((e : ℕ) → e < edge_count g → to g e ≡ node → from g e ≡ node) → (u : ℕ) (w : List ℕ) → Walk g u w node → u ≡ node
only_round g node round u [] leads = leads
only_round g node round u (e ∷ w) leads = sym leads.1 ∙ round e leads.0 (only_round g node round (to g e) w leads.2)

pub on_one_way : (g : Graph) (node e d : ℕ) → IsFlowGraph g → node < g.nodes → 0 ≢ node → in_degree g node ≡ 1 → out_degree g node ≡ 1 → e < edge_count g → d < edge_count g → to g e ≡ node → from g d ≡ node → IsPassed g node e d
on_one_way g node e d flow inside later one_in one_leaves le ld ends begins = record {
  entry = le;
  exit = ld;
  apart = λ (same : e ≡ d).
      let come = flow.strong 0 node (omega (arith, inside)) inside in
      later (only_round g node (λ k lk tk. ap (λ x. from g x) (one_edge_to g node k e one_in lk le tk ends ∙ same) ∙ begins) 0 come.walk come.leads);
  in_ends = ends;
  out_begins = begins;
  one_in = λ k lk tk. one_edge_to g node k e one_in lk le tk ends;
  one_out = λ k lk fk. one_edge_from g node k d one_leaves lk ld fk begins;
}
