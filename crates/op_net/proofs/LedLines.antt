-- The lines that switches and merges lead on.
use Rattle.std.proofs.Common.{◌≡◌, ℕ, true, List, Option, None, Some, is_some, slice_set, refl, sym, ap, ◌∙◌}
use Rattle.std.proofs.lemmas.Bool.{and_parts, eq-eqb}
use Rattle.op_table.specs.declared.Trap.{Trap}
use Rattle.cfg_build.specs.Passes.{out}
use Rattle.f77_tree.specs.Execution.{Memory}
use Rattle.firing.specs.declared.system.Fired.TheVariants.{Moved}
use Rattle.firing.specs.declared.system.NodeName.{NodeName}
use Rattle.firing.specs.declared.system.NodeName.TheVariants.{Act, Merge, Op, Switch}
use Rattle.firing.specs.Moves.{FiredIs, newest}
use Rattle.net_board.specs.Nodes.{graph_in}
use Rattle.net_board.specs.Tokens.{edge_of, is_before, led_from, left_for, switched}
use Rattle.net_board.specs.WokenNodes.{switch_number}
use Rattle.op_board.specs.OperationNets.{OperationNet, operation_node}
use Rattle.op_board.specs.OperationTokens.{OperationTokens, fired_as, line_as, merged_on, operation_moves, passed_by, ready_as, switched_on}
use Rattle.operation_places.specs.PlacesView.{edge_put, line_put}
use Rattle.operation_places.specs.Turns.{is_turning}
use Rattle.operation_tables.specs.Waits.{goes_through, stands_at}

module _ (x : OperationNet) (m : OperationTokens) (k piece line : ℕ) where
  -- ---- switches

  pub record IsReadySwitch : Type 0 where
    pub before : is_before x.net m.tokens piece line ≡ true
    pub left : is_some (left_for m.tokens (switch_number x.net piece line)) ≡ true

  pub ready_switch : ready_as x m k (Switch piece line) ≡ true → IsReadySwitch
  ready_switch ready =
      let parts = and_parts (is_before x.net m.tokens piece line) (is_some (left_for m.tokens (switch_number x.net piece line))) ready in
      record { before = parts.0; left = parts.1 }

  pub switch_through : operation_node x k ≡ Switch piece line → goes_through x (operation_node x k) line ≡ true
  switch_through name = ap (λ (n : NodeName). goes_through x n line) name ∙ eq-eqb line line refl

  pub switch_stands : operation_node x k ≡ Switch piece line → is_before x.net m.tokens piece line ≡ true → stands_at x (edge_of m.tokens line) (passed_by m line) (operation_node x k) line ≡ true
  switch_stands name before = ap (λ (n : NodeName). stands_at x (edge_of m.tokens line) (passed_by m line) n line) name ∙ before

  pub switch_marking : (switch edge : ℕ) → switch ≡ switch_number x.net piece line → left_for m.tokens switch ≡ Some edge → line_put (edge_put m switch None) line (led_from x.net edge line) 0 ≡ switched_on x m piece line
  switch_marking switch edge is left =
      let there : left_for m.tokens (switch_number x.net piece line) ≡ Some edge = ap (left_for m.tokens) (sym is) ∙ left in
      ap (λ (s : ℕ). line_put (edge_put m s None) line (led_from x.net edge line) 0) is
      ∙ ap (λ (o : Option ℕ). record m { tokens = switched x.net m.tokens (switch_number x.net piece line) line o; passed = slice_set m.passed line 0 }) (sym there)

  same_trap : (switch : ℕ) (o : Option ℕ) → (switched x.net m.tokens switch line o).trap ≡ m.tokens.trap
  same_trap switch None = refl
  same_trap switch (Some edge) = refl

  pub switch_silent : operation_node x k ≡ Switch piece line → m.tokens.trap ≡ None → FiredIs (operation_moves x) m k Moved
  switch_silent name going = record {
    line = ap (line_as x m) name;
    trap = ap (λ (n : NodeName). (fired_as x m k n).tokens.trap) name ∙ same_trap (switch_number x.net piece line) (left_for m.tokens (switch_number x.net piece line)) ∙ going;
  }

  -- ---- merges

  pub merge_through : operation_node x k ≡ Merge piece line → goes_through x (operation_node x k) line ≡ true
  merge_through name = ap (λ (n : NodeName). goes_through x n line) name ∙ eq-eqb line line refl

  pub merge_stands : operation_node x k ≡ Merge piece line → is_before x.net m.tokens piece line ≡ true → stands_at x (edge_of m.tokens line) (passed_by m line) (operation_node x k) line ≡ true
  merge_stands name before = ap (λ (n : NodeName). stands_at x (edge_of m.tokens line) (passed_by m line) n line) name ∙ before

  pub merge_marking : (edge : ℕ) → edge ≡ out (graph_in x.net) piece 0 → line_put m line (led_from x.net edge line) 0 ≡ merged_on x m piece line
  merge_marking edge is = ap (λ (e : ℕ). line_put m line (led_from x.net e line) 0) is

  pub merge_silent : operation_node x k ≡ Merge piece line → m.tokens.trap ≡ None → FiredIs (operation_moves x) m k Moved
  merge_silent name going = record {
    line = ap (line_as x m) name;
    trap = ap (λ (n : NodeName). (fired_as x m k n).tokens.trap) name ∙ going;
  }

-- ---- the memory and the trap, on which it doesn't depend where lines are led

module _ (x : OperationNet) (m : OperationTokens) (piece line : ℕ) (memory : Memory) (trap : Option (Trap × ℕ)) (new : OperationTokens) where
  abbrev whole : OperationTokens → OperationTokens
  whole n = record n { tokens = record n.tokens { memory = memory; trap = trap } }

  switched_whole : (o : Option ℕ) → whole (record m { tokens = switched x.net m.tokens (switch_number x.net piece line) line o; passed = slice_set m.passed line 0 }) ≡ record (whole m) { tokens = switched x.net (whole m).tokens (switch_number x.net piece line) line o; passed = slice_set m.passed line 0 }
  switched_whole None = refl
  switched_whole (Some edge) = refl

  pub switch_whole : new ≡ switched_on x m piece line → whole new ≡ switched_on x (whole m) piece line
  switch_whole is = ap whole is ∙ switched_whole (left_for m.tokens (switch_number x.net piece line))

  pub merge_whole : new ≡ merged_on x m piece line → whole new ≡ merged_on x (whole m) piece line
  merge_whole is = ap whole is

-- a node that is neither an operation nor a statement is a switch or a merge
pub turning : (name : NodeName) → ((piece i : ℕ) → name ≡ Op piece i → ⊥) → ((piece : ℕ) → name ≡ Act piece → ⊥) → is_turning name ≡ true
turning (Switch piece line) not_op not_act = refl
turning (Merge piece line) not_op not_act = refl
turning (Op piece i) not_op not_act = absurd (not_op piece i refl)
turning (Act piece) not_op not_act = absurd (not_act piece refl)

module _ (x : OperationNet) (m : OperationTokens) (k : ℕ) where
  -- it writes no line and doesn't trap
  pub turning_silent : (name : NodeName) → is_turning name ≡ true → operation_node x k ≡ name → m.tokens.trap ≡ None → FiredIs (operation_moves x) m k Moved
  turning_silent (Switch piece line) turns is going = switch_silent x m k piece line is going
  turning_silent (Merge piece line) turns is going = merge_silent x m k piece line is going
  turning_silent (Op piece i) turns is going = absurd cc
  turning_silent (Act piece) turns is going = absurd cc

  pub turning_line : (name : NodeName) (old : List ℕ) → is_turning name ≡ true → old ≡ newest (line_as x m name) old
  turning_line (Switch piece line) old turns = refl
  turning_line (Merge piece line) old turns = refl
  turning_line (Op piece i) old turns = absurd cc
  turning_line (Act piece) old turns = refl
