-- A program has one table of constants.
use Rattle.std.proofs.Common.{◌≡◌, ℕ, ◌<◌, ◌+◌, ◌↔◌, Bool, true, false, refl, sym, ap, subst, ◌∙◌, arith}
use Rattle.closed_walks.specs.Graph.{Graph, edge_count, to}
use Rattle.f77_tree.specs.declared.programs.Program.{Program}
use Rattle.f77_tree.specs.Value.{word_at}
use Rattle.alias_classes.specs.Classes.{ClassTable, IsClasses, class_of_word, class_count}
use Rattle.cfg_build.specs.Joined.{FlowGraph}
use Rattle.cfg_build.specs.Passes.{out}
use Rattle.region_tree.specs.Tree.{Tree}
use Rattle.dep_routing.specs.Next.{Next}
use Rattle.dep_routing.specs.Quiet.{IsWire}
use Rattle.dep_routing.specs.Routing.{Routing, IsRouting, next_at, wire_at}
use Rattle.const_prop.specs.declared.known.Known.{Known}
use Rattle.const_prop.specs.declared.known.Known.TheVariants.{Nothing, One, Any}
use Rattle.const_prop.specs.Closed.{IsClosed, IsConstants, IsReady, IsWay, led_to, written_after}
use Rattle.const_prop.specs.Known.{AtMost}
use Rattle.const_prop.specs.Setting.{IsProgram}
use Rattle.const_prop.specs.Table.{Knowns, IsBelow, AreSameKnowns}
use Rattle.const_prop.proofs.Rows.{outs-edge}

at_most-same : (j k : Known) → AtMost j k → AtMost k j → j ≡ k
at_most-same Nothing Nothing a b = refl
at_most-same Nothing (One w) a b = absurd b
at_most-same Nothing Any a b = absurd b
at_most-same (One v) Nothing a b = absurd a
at_most-same (One v) (One w) a b = ap One a
at_most-same (One v) Any a b = absurd b
at_most-same Any Nothing a b = absurd a
at_most-same Any (One w) a b = absurd a
at_most-same Any Any a b = refl

below-same : (lines edges pieces : ℕ) (s t : Knowns) → IsBelow lines edges pieces s t → IsBelow lines edges pieces t s → AreSameKnowns lines edges pieces s t
below-same lines edges pieces s t a b = record {
  value = λ line e l k. at_most-same (s.value line e) (t.value line e) (a.value line e l k) (b.value line e l k);
  decision = λ piece l. at_most-same (s.decision piece) (t.decision piece) (a.decision piece l) (b.decision piece l);
}

-- ---- routings

-- two routings that lead so many lines alike
pub record AreAlike (lines edges : ℕ) (r s : Routing) : Type 0 where
  pub left : r.lines ≡ lines
  pub right : s.lines ≡ lines
  pub next : (line e : ℕ) → line < lines → e < edges → next_at r line e ≡ next_at s line e
  pub wire : (line e : ℕ) → line < lines → e < edges → wire_at r line e ≡ wire_at s line e

same_test : (A : Type 0) (a b : Bool) → (a ≡ true) ↔ A → (b ≡ true) ↔ A → a ≡ b
same_test A true b left right = sym (right.1 (left.0 refl))
same_test A false true left right = left.1 (right.0 refl)
same_test A false false left right = refl

-- the routings of one tree are alike
pub routings_alike : (g : Graph) (tree : Tree) (touches : ℕ → ℕ → Bool) (lines : ℕ) (r s : Routing) → ((line e h k : ℕ) → Next g tree touches line e h → Next g tree touches line e k → h ≡ k) → IsRouting g tree touches lines r → IsRouting g tree touches lines s → AreAlike lines (edge_count g) r s
routings_alike g tree touches lines r s one is other = record {
  left = is.count;
  right = other.count;
  next = λ line e l edge. one line e (next_at r line e) (next_at s line e) (is.next line e l edge) (other.next line e l edge);
  wire = λ line e l edge. same_test (IsWire g tree touches line e) (wire_at r line e) (wire_at s line e) (is.wire line e l edge) (other.wire line e l edge);
}

pub alike-back : (lines edges : ℕ) (r s : Routing) → AreAlike lines edges r s → AreAlike lines edges s r
alike-back lines edges r s a = record { left = a.right; right = a.left; next = λ line e l edge. sym (a.next line e l edge); wire = λ line e l edge. sym (a.wire line e l edge) }

-- ---- tables

module _ (p : Program) (f : FlowGraph) (c : ClassTable) (touches : ℕ → ℕ → Bool) (program : IsProgram p f) (classes : IsClasses p c) where
  module _ (r s : Routing) (alike : AreAlike (class_count c + 1) (edge_count f.graph) r s) (t : Knowns) (closed : IsClosed p f c touches r t) where
    below : (line : ℕ) → line < s.lines → line < class_count c + 1
    below line l = let is = alike.right in omega (arith, l, is)

    in_r : (line : ℕ) → line < s.lines → line < r.lines
    in_r line l = let is = alike.left in let also = alike.right in omega (arith, l, is, also)

    in_s : (line : ℕ) → line < r.lines → line < s.lines
    in_s line l = let is = alike.left in let also = alike.right in omega (arith, l, is, also)

    class_in : (word : ℕ) → class_of_word c word < class_count c + 1
    class_in word = let most = classes.numbering.most word in omega (arith, most)

    ready : (e : ℕ) → IsReady f touches s.lines t e → IsReady f touches r.lines t e
    ready e x = record { edge = x.edge; action = x.action; each = λ line l. x.each line (in_s line l) }

    led : (e line i : ℕ) → IsWay f t e i → line < s.lines → led_to f r e line i ≡ led_to f s e line i
    led e line i way l = alike.next line (out f.graph (to f.graph e) i) (below line l) (outs-edge f.graph (to f.graph e) i way.exists).0

    -- a table that is closed over the one is closed over the other
    pub closed-alike : IsClosed p f c touches s t
    closed-alike = record {
      words = λ line e l edge several. closed.words line e (in_r line l) edge several;
      initial = λ word inside one. subst (λ n. AtMost (One (word_at p.initial word)) (t.value (class_of_word c word) n)) (alike.next (class_of_word c word) 1 (class_in word) program.shape.two_edges) (closed.initial word inside one);
      others = λ line l several. subst (λ n. AtMost Any (t.value line n)) (alike.next line 1 (below line l) program.shape.two_edges) (closed.others line (in_r line l) several);
      decisions = λ e is switch. closed.decisions e (ready e is) switch;
      writes = λ e line i is way l x w. subst (λ n. AtMost (written_after p f c t e line) (t.value line n)) (led e line i way l) (closed.writes e line i (ready e is) way (in_r line l) x w);
      reads = λ e line i is way l x w. subst (λ n. AtMost (t.value line e) (t.value line n)) (led e line i way l) (closed.reads e line i (ready e is) way (in_r line l) x w);
      switches = λ e line i way switch l x wire. subst (λ n. AtMost (t.value line e) (t.value line n)) (led e line i way l) (closed.switches e line i way switch (in_r line l) x (alike.wire line e (below line l) way.edge ∙ wire));
      merges = λ e line i way merge l wire. subst (λ n. AtMost (t.value line e) (t.value line n)) (led e line i way l) (closed.merges e line i way merge (in_r line l) (alike.wire line e (below line l) way.edge ∙ wire));
    }

  pub constants-same : (r s : Routing) → AreAlike (class_count c + 1) (edge_count f.graph) r s → (t u : Knowns) → IsConstants p f c touches r t → IsConstants p f c touches s u → AreSameKnowns (class_count c + 1) (edge_count f.graph) f.graph.nodes t u
  constants-same r s alike t u one two =
      let forth = one.least u (closed-alike s r (alike-back (class_count c + 1) (edge_count f.graph) r s alike) u two.closed) in
      let back = two.least t (closed-alike r s alike t one.closed) in
      below-same (class_count c + 1) (edge_count f.graph) f.graph.nodes t u
      (subst (λ n. IsBelow n (edge_count f.graph) f.graph.nodes t u) alike.left forth)
      (subst (λ n. IsBelow n (edge_count f.graph) f.graph.nodes u t) alike.right back)
