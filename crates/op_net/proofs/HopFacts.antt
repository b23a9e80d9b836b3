-- Where a line stands that an operation needs, before the operation fires and after.
use Rattle.std.proofs.Common.{◌≡◌, ◌<◌, ◌≤◌, ℕ, zero, suc, ◌+◌, ◌^◌, ◌==◌, Bool, true, false, if◌then◌else◌, Option, Some, None, sym, ap, ◌∙◌, subst, arith}
use Rattle.std.proofs.Math.Logic.{∥∥₁_elim}
use Rattle.std.proofs.Props.{props}
use Rattle.std.proofs.lemmas.Bool.{and_parts, eqb-true}
use Rattle.net_board.specs.Nodes.{graph_in}
use Rattle.net_board.specs.Tokens.{edge_of, is_before, leads_to, led_from}
use Rattle.op_board.specs.OperationNets.{OperationNet, first_operation, is_last_at, needing_before, operation_count}
use Rattle.op_board.specs.OperationTokens.{OperationTokens, passed_by, stands_before}
use Rattle.op_board.proofs.NeededLines.{one_more, passing_more}
use Rattle.net_board.specs.WokenNodes.{passing_below}
use Rattle.operation_tables.specs.OperationRows.{IsHop, IsNextNeed, NextIs}
use Rattle.op_net.specs.PlaceSteps.{line_moved}
use Rattle.operation_places.specs.PlacesView.{line_put}
use Rattle.operation_tables.specs.PlanFacts.{PlanFacts}
use Rattle.operation_tables.specs.Waits.{IsNodeBefore}
use Rattle.operation_tables.specs.declared.hops.Hop.{Hop}
use Rattle.operation_tables.proofs.NodesBefore.{operation_before}

-- no more numbers below one pass than there are
passing_few : (test : ℕ → Bool) (n : ℕ) → passing_below test n ≤ n
passing_few test zero = omega arith
passing_few test (suc n) = let r = passing_few test n in let e = passing_more test n in let o = at_most (test n) (passing_below test n) in omega (arith, r, e, o)
  where
    at_most : (b : Bool) (k : ℕ) → one_more b k ≤ suc k
    at_most true k = omega arith
    at_most false k = omega arith

module _ (x : OperationNet) (piece i : ℕ) (hop : Hop) (is : ∥ IsHop x piece i hop ∥₁) where
  pub hop_exists : hop.line < x.net.routing.lines
  hop_exists = ∥∥₁_elim is (Prim.hlevel props) (λ (h : IsHop x piece i hop). h.exists)

  pub hop_before : hop.before ≡ needing_before x piece i hop.line
  hop_before = ∥∥₁_elim is (Prim.hlevel props) (λ (h : IsHop x piece i hop). h.before)

  pub hop_last : hop.next ≡ None → is_last_at x piece i hop.line ≡ true
  hop_last none = ∥∥₁_elim is (Prim.hlevel props) (λ (h : IsHop x piece i hop). subst (NextIs x piece i hop.line) none h.next)

  module _ (n : ℕ) (some : hop.next ≡ Some n) where
    next_of : IsHop x piece i hop → IsNextNeed x piece i hop.line n
    next_of h = subst (NextIs x piece i hop.line) some h.next

    pub hop_next : IsNextNeed x piece i hop.line n
    hop_next = record {
      inside = ∥∥₁_elim is (Prim.hlevel props) (λ (h : IsHop x piece i hop). (next_of h).inside);
      needs = ∥∥₁_elim is (Prim.hlevel props) (λ (h : IsHop x piece i hop). (next_of h).needs);
      after = ∥∥₁_elim is (Prim.hlevel props) (λ (h : IsHop x piece i hop). (next_of h).after);
      more = ∥∥₁_elim is (Prim.hlevel props) (λ (h : IsHop x piece i hop). (next_of h).more);
    }

    pub passed_few : operation_count x piece < 2 ^ 32 → hop.before + 1 < 2 ^ 32
    passed_few few =
        let next = hop_next in
        let inside = next.inside in
        let after = next.after in
        let below = passing_few (λ j. x.needs piece j hop.line) n in
        let before = hop_before in
        omega (arith, few, inside, after, below, before)

module _ (x : OperationNet) (facts : PlanFacts x) (piece i line : ℕ) (m : OperationTokens) (exists : piece < (graph_in x.net).nodes) (inside : i < operation_count x piece) (needs : x.needs piece i line ≡ true) (stands : stands_before x m piece i line ≡ true) where
  parts : (is_before x.net m.tokens piece line ≡ true) × ((passed_by m line == needing_before x piece i line) ≡ true)
  parts = and_parts (is_before x.net m.tokens piece line) (passed_by m line == needing_before x piece i line) stands

  -- it stands before the operation
  pub before_here : (first : ℕ) → first ≡ first_operation x piece → IsNodeBefore x line (edge_of m.tokens line) (passed_by m line) (first + i)
  before_here first is =
      subst (λ (f : ℕ). IsNodeBefore x line (edge_of m.tokens line) (passed_by m line) (f + i)) (sym is)
      (operation_before x facts piece i line (edge_of m.tokens line) (passed_by m line) exists inside needs parts.0 (eqb-true (passed_by m line) (needing_before x piece i line) parts.1))

  -- and then before the next one that needs it
  pub before_next : (first n passed : ℕ) (edge : Option ℕ) → first ≡ first_operation x piece → IsNextNeed x piece i line n → edge_of m.tokens line ≡ edge → passed ≡ suc (needing_before x piece i line) → IsNodeBefore x line edge passed (first + n)
  before_next first n passed edge is next same after =
      subst (λ (f : ℕ). IsNodeBefore x line edge passed (f + n)) (sym is)
      (operation_before x facts piece n line edge passed exists next.inside next.needs
      (subst (λ (o : Option ℕ). leads_to (graph_in x.net) piece o ≡ true) same parts.0)
      (after ∙ sym next.after))

module _ (x : OperationNet) (piece i edge line : ℕ) (m : OperationTokens) where
  pub moved_past : (old : Option ℕ) (passed : ℕ) → is_last_at x piece i line ≡ false → edge_of m.tokens line ≡ old → passed ≡ suc (needing_before x piece i line) → line_put m line old passed ≡ line_moved x piece i edge m line
  moved_past old passed more same after =
      ap (λ (o : Option ℕ). line_put m line o passed) (sym same)
      ∙ ap (line_put m line (edge_of m.tokens line)) after
      ∙ ap (λ (b : Bool). if b then line_put m line (led_from x.net edge line) 0 else line_put m line (edge_of m.tokens line) (suc (needing_before x piece i line))) (sym more)

  pub moved_away : is_last_at x piece i line ≡ true → line_put m line (led_from x.net edge line) 0 ≡ line_moved x piece i edge m line
  moved_away last = ap (λ (b : Bool). if b then line_put m line (led_from x.net edge line) 0 else line_put m line (edge_of m.tokens line) (suc (needing_before x piece i line))) (sym last)
