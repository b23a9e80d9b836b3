-- Touches and tables of wires are one.
use Rattle.std.proofs.Common.{◌≡◌, ℕ, ◌<◌, ◌↔◌, Bool, true, false, List, [], length, get_or, refl, sym, ap, subst, ◌∙◌, ⊎_elim}
use Rattle.std.proofs.lemmas.Bool.{cases_lt}
use Rattle.std.proofs.lemmas.List.{ext_get_or}
use mathlib.Core.Path.{fun_ext}
use Rattle.closed_walks.specs.Graph.{Graph, edge_count}
use Rattle.region_tree.specs.Tree.{Tree}
use Rattle.f77_tree.specs.declared.programs.Program.{Program}
use Rattle.alias_classes.specs.Classes.{ClassTable}
use Rattle.cfg_build.specs.Flow.{flow}
use Rattle.dep_routing.specs.LineTable.{HaveRows}
use Rattle.dep_routing.specs.Next.{Next}
use Rattle.dep_routing.specs.OneTable.{EndAt, HaveSameCells}
use Rattle.dep_routing.specs.Quiet.{IsWire}
use Rattle.dep_routing.specs.Routing.{Routing, IsRouting, next_at, wire_at}
use Rattle.dep_routing.specs.Touches.{AreTouchesBy, TouchesBy}

-- two tests that tell the same
same_test : (A : Type 0) (a b : Bool) → (a ≡ true) ↔ A → (b ≡ true) ↔ A → a ≡ b
same_test A true b left right = sym (right.1 (left.0 refl))
same_test A false true left right = left.1 (right.0 refl)
same_test A false false left right = refl

-- ---- touches

-- by the same risks
pub one_touching : (p : Program) (c : ClassTable) (may : ℕ → Type 0) (touches others : ℕ → ℕ → Bool) → AreTouchesBy p c may touches → AreTouchesBy p c may others → EndAt (flow p.execs).graph.nodes touches → EndAt (flow p.execs).graph.nodes others → touches ≡ others
one_touching p c may touches others are too outside beyond = fun_ext (λ node. fun_ext (λ line. ⊎_elim
    (λ (inside : node < (flow p.execs).graph.nodes). same_test (TouchesBy p c may node line) (touches node line) (others node line) (are node line inside) (too node line inside))
    (λ out. outside node line out ∙ sym (beyond node line out))
    (cases_lt node (flow p.execs).graph.nodes)))

-- ---- wires

-- two tables with the same cells
same_rows : {A : Type 0} (d : A) (xs ys : List (List A)) (edges lines : ℕ) → length xs ≡ edges → length ys ≡ edges → ((e : ℕ) → e < edges → length (get_or xs e []) ≡ lines) → ((e : ℕ) → e < edges → length (get_or ys e []) ≡ lines)
    → ((e line : ℕ) → e < edges → line < lines → get_or (get_or xs e []) line d ≡ get_or (get_or ys e []) line d) → xs ≡ ys
same_rows d xs ys edges lines rows others wide too cells = ext_get_or [] xs ys (rows ∙ sym others) (λ e lt.
    let inside : e < edges = subst (λ n. e < n) rows lt in
    ext_get_or d (get_or xs e []) (get_or ys e []) (wide e inside ∙ sym (too e inside)) (λ line low. cells e line inside (subst (λ n. line < n) (wide e inside) low)))

module _ (r s : Routing) (rows : HaveRows r) (too : HaveRows s) (same : HaveSameCells r s) where
  wide : (e : ℕ) → e < r.edges → length (get_or s.next e []) ≡ r.lines
  wide e edge = too.next_cells e (subst (λ n. e < n) same.edges edge) ∙ sym same.lines

  broad : (e : ℕ) → e < r.edges → length (get_or s.wires e []) ≡ r.lines
  broad e edge = too.wire_cells e (subst (λ n. e < n) same.edges edge) ∙ sym same.lines

  same_next : r.next ≡ s.next
  same_next = same_rows 0 r.next s.next r.edges r.lines rows.next (too.next ∙ sym same.edges) rows.next_cells wide (λ e line edge low. same.next line e low edge)

  same_wires : r.wires ≡ s.wires
  same_wires = same_rows false r.wires s.wires r.edges r.lines rows.wires (too.wires ∙ sym same.edges) rows.wire_cells broad (λ e line edge low. same.wires line e low edge)

  pub same_table : r ≡ s
  same_table =
      ap (λ n. record r { lines = n }) same.lines
      ∙ ap (λ n. record r { lines = s.lines; edges = n }) same.edges
      ∙ ap (λ xs. record { lines = s.lines; edges = s.edges; next = xs; wires = r.wires }) same_next
      ∙ ap (λ xs. record { lines = s.lines; edges = s.edges; next = s.next; wires = xs }) same_wires

module _ (g : Graph) (t : Tree) (touches : ℕ → ℕ → Bool) (one : (line e f h : ℕ) → Next g t touches line e f → Next g t touches line e h → f ≡ h) (lines : ℕ) (r s : Routing) (is : IsRouting g t touches lines r) (other : IsRouting g t touches lines s) where
  same_cells : HaveSameCells r s
  same_cells = record {
    lines = is.count ∙ sym other.count;
    edges = is.edges ∙ sym other.edges;
    next = λ line e low edge.
        let inside : e < edge_count g = subst (λ n. e < n) is.edges edge in
        let below : line < lines = subst (λ n. line < n) is.count low in
        one line e (next_at r line e) (next_at s line e) (is.next line e below inside) (other.next line e below inside);
    wires = λ line e low edge.
        let inside : e < edge_count g = subst (λ n. e < n) is.edges edge in
        let below : line < lines = subst (λ n. line < n) is.count low in
        same_test (IsWire g t touches line e) (wire_at r line e) (wire_at s line e) (is.wire line e below inside) (other.wire line e below inside);
  }

  pub one_routing : HaveRows r → HaveRows s → r ≡ s
  one_routing rows too = same_table r s rows too same_cells
