-- Nodes of a flow graph to which one edge leads, or from which one leads.
use Rattle.std.proofs.Common.{◌≡◌, ◌≢◌, ℕ, ◌<◌, ◌==◌, Bool, true, false, List, [], ◌∷◌, slice_index, refl, sym, ap, ◌∙◌, inl, inr, eq-eqb, eqb-true, arith}
use Rattle.std.proofs.lemmas.Bool.{cases_Bool}
use Rattle.std.specs.List.{range_with_len}
use Rattle.closed_walks.specs.Graph.{Graph, edge_count, from, to}
use Rattle.closed_walks.specs.Reaching.{reaches}
use Rattle.closed_walks.specs.Region.{IsFlowGraph, IsPassed}
use Rattle.closed_walks.specs.Walk.{Walk}
use Rattle.cfg_build.specs.Degrees.{in_degree, out_degree}
use Rattle.cfg_build.specs.Passes.{outs, out}
use Rattle.net_board.specs.FlowFacts.{IsNearEnd}
use Rattle.list_laws.specs.Member.{Member}
use Rattle.list_laws.proofs.Members.{Member-filter, Member-filtered, Member-range, Member-in_range}
use Rattle.list_laws.proofs.Counts.{count_unique}

pub one_to : (g : Graph) (node a b : ℕ) → in_degree g node ≡ 1 → a < edge_count g → b < edge_count g → to g a ≡ node → to g b ≡ node → a ≡ b
unfolding to
one_to g node a b one first second a_to b_to =
    count_unique (λ (e : ℕ × ℕ). e.1 == node) g.edges a b (0, 0) (omega (arith, one)) first second (eq-eqb (to g a) node a_to) (eq-eqb (to g b) node b_to)

pub one_from : (g : Graph) (node a b : ℕ) → out_degree g node ≡ 1 → a < edge_count g → b < edge_count g → from g a ≡ node → from g b ≡ node → a ≡ b
unfolding from
one_from g node a b one first second a_from b_from =
    count_unique (λ (e : ℕ × ℕ). e.0 == node) g.edges a b (0, 0) (omega (arith, one)) first second (eq-eqb (from g a) node a_from) (eq-eqb (from g b) node b_from)

first_is : (xs : List ℕ) (e : ℕ) → Member xs e → ((x : ℕ) → Member xs x → x ≡ e) → e ≡ slice_index xs 0
first_is [] e m each = absurd m
first_is (x ∷ xs) e m each = sym (each x (inl refl))

-- the one edge that leaves a node
pub one_out : (g : Graph) (e : ℕ) → e < edge_count g → out_degree g (from g e) ≡ 1 → e ≡ out g (from g e) 0
one_out g e inside one =
    let node = from g e in
    let test : ℕ → Bool = λ x. from g x == from g e in
    first_is (outs g (from g e)) e
    (Member-filter test (range_with_len 0 (edge_count g)) e (Member-range 0 (edge_count g) e (omega arith) (omega (arith, inside))) (eq-eqb (from g e) (from g e) refl))
    (λ x m.
    let own = Member-filtered test (range_with_len 0 (edge_count g)) x m in
    let low = (Member-in_range 0 (edge_count g) x own.0).1 in
    one_from g (from g e) x e one (omega (arith, low)) inside (eqb-true (from g x) (from g e) own.1) refl)

-- ---- walks

pub record IsWayIn (g : Graph) (node : ℕ) : Type 0 where
  pub edge : ℕ
  pub exists : edge < edge_count g
  pub ends : to g edge ≡ node
  pub apart : from g edge ≢ node

way_in : (g : Graph) (node u : ℕ) (w : List ℕ) → Walk g u w node → u ≢ node → IsWayIn g node
way_in g node u [] leads other = absurd (other leads)
way_in g node u (e ∷ w) leads other = by (way_in g node (to g e) w leads.2) (cases_Bool (to g e == node))
  where
    open_case : (a b : ℕ) → (a == b) ≡ false → a ≢ b
    open_case a b h = λ (same : a ≡ b). let clash : true ≡ false = sym (eq-eqb a b same) ∙ h in cc

    by : (to g e ≢ node → IsWayIn g node) → Rattle.std.proofs.Common.◌⊎◌ ((to g e == node) ≡ true) ((to g e == node) ≡ false) → IsWayIn g node
    by later (inl h) = record { edge = e; exists = leads.0; ends = eqb-true (to g e) node h; apart = λ same. other (sym leads.1 ∙ same) }
    by later (inr h) = later (open_case (to g e) node h)

pub record IsWayOut (g : Graph) (node : ℕ) : Type 0 where
  pub edge : ℕ
  pub exists : edge < edge_count g
  pub begins : from g edge ≡ node

way_out : (g : Graph) (node v : ℕ) (w : List ℕ) → Walk g node w v → node ≢ v → IsWayOut g node
way_out g node v [] leads other = absurd (other leads)
way_out g node v (e ∷ w) leads other = record { edge = e; exists = leads.0; begins = leads.1 }

pub record IsOnOneWay (g : Graph) (node : ℕ) : Type 0 where
  pub a : ℕ
  pub b : ℕ
  pub passed : IsPassed g node a b

-- a node other than the start, to which one edge leads and from which one leads
pub on_one_way : (g : Graph) (node : ℕ) → IsFlowGraph g → node < g.nodes → 0 ≢ node → in_degree g node ≡ 1 → out_degree g node ≡ 1 → IsOnOneWay g node
on_one_way g node flow exists later one_in one_leaves =
    let start : 0 < g.nodes = omega (arith, exists) in
    let come = flow.strong 0 node start exists in
    let leave = flow.strong node 0 exists start in
    let a : IsWayIn g node = way_in g node 0 come.walk come.leads later in
    let b : IsWayOut g node = way_out g node 0 leave.walk leave.leads (λ same. later (sym same)) in
    record {
      a = a.edge;
      b = b.edge;
      passed = record {
        entry = a.exists;
        exit = b.exists;
        apart = λ same. a.apart (ap (from g) same ∙ b.begins);
        in_ends = a.ends;
        out_begins = b.begins;
        one_in = λ e inside ends. one_to g node e a.edge one_in inside a.exists ends a.ends;
        one_out = λ e inside begins. one_from g node e b.edge one_leaves inside b.exists begins b.begins;
      };
    }

-- ---- the end

-- a walk that takes no node twice has no more edges than there are nodes
pub near_end : (g : Graph) (node end : ℕ) → reaches g node end ≡ true → IsNearEnd g node end
unfolding reaches
near_end g node end reached = record { most = g.nodes; few = omega arith; reached = reached }
