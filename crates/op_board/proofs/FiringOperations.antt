-- What the firing of an operation depends on, and what it leaves as it was: its footprint.
use Rattle.std.proofs.Common.{◌≡◌, inl, inr, ℕ, suc, ◌+◌, ◌==◌, ◌&&◌, ◌||◌, ℤ, pos, Bool, true, false, not, if◌then◌else◌, List, [], ◌∷◌, map, Option, Some, None, is_some, Result, Ok, Err, slice_get, slice_index, refl, sym, ap, ◌∙◌, subst}
use Rattle.std.specs.Prelude.{unwrap_or}
use Rattle.std.specs.List.{list_all}
use Rattle.std.proofs.lemmas.Bool.{and_parts, eq-eqb}
use Rattle.op_table.specs.declared.Trap.{Trap as Kind_of_trap}
use Rattle.alias_classes.specs.Classes.{ClassTable}
use Rattle.cfg_build.specs.Passes.{out}
use Rattle.firing.specs.declared.system.NodeName.TheVariants.{Op}
use Rattle.list_laws.specs.Member.{Member}
use Rattle.list_laws.proofs.Members.{Member-filtered, list_any_member}
use Rattle.net_board.specs.Footprints.{Line, Left, Word, Count, StepOf, Taken, Trap, is_switch}
use Rattle.net_board.specs.Nodes.{graph_in, all_lines, switches}
use Rattle.net_board.specs.Tokens.{is_before, led_from, leads_to, joined, left_for, written, with_all}
use Rattle.net_board.proofs.ListPlaces.{get_set_other, index_of, same_tests, with_all_other}
use Rattle.net_board.proofs.PassEffects.{AgreeOn, KeepsOthers}
use Rattle.op_board.specs.Operations.{Operand, Known, From, is_decision}
use Rattle.op_board.specs.Effects.{Effect, performed}
use Rattle.op_board.specs.OperationNets.{OperationNet, first_operation, is_last_at, last_needed, needed, needing_before, operation_at}
use Rattle.op_board.specs.OperationTokens.{OperationTokens, can_operate, given_values, givers, has_room, is_given, operand_in, operated, operated_on, passed_after, performed_at, stands_before, stopped_by, taken_values, text_written, value_at, value_of, zero_effect}
use Rattle.op_board.specs.OperationFootprints.{OperationPart, Token, Passed, Given, foot_as, is_giver, part_at}
use Rattle.op_board.proofs.AlikeItems.{replaced_alike, replaced_one_alike}
use Rattle.op_board.proofs.ReplacedItems.{replaced_other}
use Rattle.op_board.proofs.OperationEffects.{Covers, EffectsAlike, IfPerformed, IsEffectFramed, performed_alike}

pub both_ways : {P : Type 0} (b : Bool) → b ≡ true → b ≡ false → P
both_ways b yes' no' = let e : true ≡ false = sym yes' ∙ no' in absurd cc

or_parts : (a b : Bool) → (a || b) ≡ false → (a ≡ false) × (b ≡ false)
or_parts true b is = absurd cc
or_parts false b is = (refl, is)

or_right : (a b : Bool) → b ≡ true → (a || b) ≡ true
or_right true b is = refl
or_right false b is = is

module _ (x : OperationNet) (c : ClassTable) where
  needed_is : (piece i line : ℕ) → Member (needed x piece i) line → x.needs piece i line ≡ true
  needed_is piece i line m = (Member-filtered (x.needs piece i) (all_lines x.net) line m).1

  last_is : (piece i line : ℕ) → Member (last_needed x piece i) line → x.needs piece i line ≡ true
  last_is piece i line m = (and_parts (x.needs piece i line) (is_last_at x piece i line) ((Member-filtered (λ line. x.needs piece i line && is_last_at x piece i line) (all_lines x.net) line m).1)).0

  giver_is : (piece i k : ℕ) → Member (givers x piece (operation_at x piece i).operands) k → is_giver x piece i k ≡ true
  giver_is piece i k m = list_any_member (λ giver. giver == k) (givers x piece (operation_at x piece i).operands) k m (eq-eqb k k refl)

  gives : (piece number : ℕ) (operands : List Operand) → Member operands (From number) → Member (givers x piece operands) (first_operation x piece + number)
  gives piece number [] m = absurd m
  gives piece number (Known z ∷ operands) (inl e) = let e : Known z ≡ From number = e in absurd cc
  gives piece number (Known z ∷ operands) (inr m) = gives piece number operands m
  gives piece number (From other ∷ operands) (inl e) = let same : other ≡ number = cc in inl (ap (λ n. first_operation x piece + n) same)
  gives piece number (From other ∷ operands) (inr m) = inr (gives piece number operands m)

  switch_in : (piece node : ℕ) → Member (switches x.net piece) node → is_switch x.net piece node ≡ true
  switch_in piece node m = list_any_member (λ switch. switch == node) (switches x.net piece) node m (eq-eqb node node refl)

  -- ---- what a firing leaves

  left_outside : (edges : List (Option ℕ)) (piece node edge : ℕ) (b : Bool) → (b && is_switch x.net piece node) ≡ false → slice_get (if b then with_all edges (switches x.net piece) (λ switch. Some edge) else edges) node ≡ slice_get edges node
  left_outside edges piece node edge true not_in = with_all_other edges (switches x.net piece) (λ switch. Some edge) node (λ m. both_ways (is_switch x.net piece node) (switch_in piece node m) not_in)
  left_outside edges piece node edge false not_in = refl

  taken_outside : (m : OperationTokens) (piece i j : ℕ) → is_giver x piece i j ≡ false → slice_get (taken_values x m piece (operation_at x piece i)) j ≡ slice_get m.values j
  taken_outside m piece i j not_in = replaced_other m.values (givers x piece (operation_at x piece i).operands) (λ k. None) j (λ t. both_ways (is_giver x piece i j) (giver_is piece i j t) not_in)

  given_outside : (m : OperationTokens) (k piece i j : ℕ) (value : Option ℤ) → ((k == j) || is_giver x piece i j) ≡ false → slice_get (given_values x m k piece (operation_at x piece i) value) j ≡ slice_get m.values j
  given_outside m k piece i j value not_in =
      get_set_other (taken_values x m piece (operation_at x piece i)) k j value (λ e. both_ways (k == j) (eq-eqb k j e) ((or_parts (k == j) (is_giver x piece i j) not_in).0))
      ∙ taken_outside m piece i j ((or_parts (k == j) (is_giver x piece i j) not_in).1)

  on_outside : (m : OperationTokens) (k piece i : ℕ) (effect : Effect) → KeepsOthers c (x.needs piece i) m.tokens.memory effect.memory → (part : OperationPart) → foot_as x c k (Op piece i) part ≡ false → part_at (operated_on x m k piece i (operation_at x piece i) effect) part ≡ part_at m part
  on_outside m k piece i effect keeps (Token (Line line)) not_in = with_all_other m.tokens.lines (last_needed x piece i) (led_from x.net (out (graph_in x.net) piece effect.choice)) line (λ t. both_ways (x.needs piece i line) (last_is piece i line t) not_in)
  on_outside m k piece i effect keeps (Token (Left node)) not_in = left_outside m.tokens.edges piece node (out (graph_in x.net) piece effect.choice) (is_decision (operation_at x piece i).work) not_in
  on_outside m k piece i effect keeps (Token (Word word)) not_in = keeps.store word not_in
  on_outside m k piece i effect keeps (Token (Count loop_no)) not_in = keeps.counts loop_no not_in
  on_outside m k piece i effect keeps (Token (StepOf loop_no)) not_in = keeps.steps loop_no not_in
  on_outside m k piece i effect keeps (Token Taken) not_in = keeps.taken not_in
  on_outside m k piece i effect keeps (Token Trap) not_in = refl
  on_outside m k piece i effect keeps (Passed line) not_in = replaced_other m.passed (needed x piece i) (passed_after x m piece i) line (λ t. both_ways (x.needs piece i line) (needed_is piece i line t) not_in)
  on_outside m k piece i effect keeps (Given j) not_in = given_outside m k piece i j effect.value not_in

  stopped_outside : (m : OperationTokens) (k piece i : ℕ) (trap : Kind_of_trap) → x.needs piece i 0 ≡ true → (part : OperationPart) → foot_as x c k (Op piece i) part ≡ false → part_at (stopped_by x m piece i (operation_at x piece i) trap) part ≡ part_at m part
  stopped_outside m k piece i trap needs (Token (Line line)) not_in = with_all_other m.tokens.lines (needed x piece i) (λ line. None) line (λ t. both_ways (x.needs piece i line) (needed_is piece i line t) not_in)
  stopped_outside m k piece i trap needs (Token (Left node)) not_in = refl
  stopped_outside m k piece i trap needs (Token (Word word)) not_in = refl
  stopped_outside m k piece i trap needs (Token (Count loop_no)) not_in = refl
  stopped_outside m k piece i trap needs (Token (StepOf loop_no)) not_in = refl
  stopped_outside m k piece i trap needs (Token Taken) not_in = refl
  stopped_outside m k piece i trap needs (Token Trap) not_in = both_ways (x.needs piece i 0) needs not_in
  stopped_outside m k piece i trap needs (Passed line) not_in = replaced_other m.passed (needed x piece i) (λ line. 0) line (λ t. both_ways (x.needs piece i line) (needed_is piece i line t) not_in)
  stopped_outside m k piece i trap needs (Given j) not_in = taken_outside m piece i j ((or_parts (k == j) (is_giver x piece i j) not_in).1)

  trap_outside : (m : OperationTokens) (k piece i : ℕ) (trap : Kind_of_trap) (b : Bool) → x.needs piece i 0 ≡ b → (part : OperationPart) → foot_as x c k (Op piece i) part ≡ false
      → part_at (if b then stopped_by x m piece i (operation_at x piece i) trap else operated_on x m k piece i (operation_at x piece i) (zero_effect m (operation_at x piece i).work)) part ≡ part_at m part
  trap_outside m k piece i trap true needs part not_in = stopped_outside m k piece i trap needs part not_in
  trap_outside m k piece i trap false needs part not_in =
      on_outside m k piece i (zero_effect m (operation_at x piece i).work) (record { store = λ word not_in. refl; counts = λ k not_in. refl; steps = λ k not_in. refl; taken = λ not_in. refl }) part not_in

  pub operated_outside : (m : OperationTokens) (k piece i : ℕ) (r : Result Effect Kind_of_trap) → IfPerformed r (IsEffectFramed c (x.needs piece i) m.tokens.memory) → (part : OperationPart) → foot_as x c k (Op piece i) part ≡ false → part_at (operated x m k piece i (operation_at x piece i) r) part ≡ part_at m part
  operated_outside m k piece i (Ok effect) framed part not_in = on_outside m k piece i effect framed.keeps part not_in
  operated_outside m k piece i (Err trap) framed part not_in = trap_outside m k piece i trap (x.needs piece i 0) refl part not_in

  -- ---- what a firing depends on

  -- two markings agree on the footprint of an operation
  abbrev pub AgreeAt : (m n : OperationTokens) (k piece i : ℕ) → Type 0
  AgreeAt m n k piece i = (part : OperationPart) → foot_as x c k (Op piece i) part ≡ true → part_at n part ≡ part_at m part

  module _ (m n : OperationTokens) (k piece i : ℕ) (agree : AgreeAt m n k piece i) where
    agree_on : AgreeOn c (x.needs piece i) n.tokens.memory m.tokens.memory
    agree_on = record {
      store = λ word needed. agree (Token (Word word)) needed;
      counts = λ j needed. agree (Token (Count j)) needed;
      steps = λ j needed. agree (Token (StepOf j)) needed;
      taken = λ needed. agree (Token Taken) needed;
    }

    same_stands : (line : ℕ) → x.needs piece i line ≡ true → stands_before x n piece i line ≡ stands_before x m piece i line
    same_stands line needs =
        ap (λ o. leads_to (graph_in x.net) piece (joined o) && (slice_index n.passed line == needing_before x piece i line)) (agree (Token (Line line)) needs)
        ∙ ap (λ p. is_before x.net m.tokens piece line && (p == needing_before x piece i line)) (index_of n.passed m.passed line (agree (Passed line) needs))

    same_value : (number : ℕ) → Member (operation_at x piece i).operands (From number) → value_at n (first_operation x piece + number) ≡ value_at m (first_operation x piece + number)
    same_value number among =
        let place : ℕ = first_operation x piece + number in
        ap value_of (agree (Given place) (or_right (k == place) (is_giver x piece i place) (giver_is piece i place (gives piece number (operation_at x piece i).operands among))))

    pub same_given : (operand : Operand) → Member (operation_at x piece i).operands operand → is_given x n piece operand ≡ is_given x m piece operand
    same_given (Known z) among = refl
    same_given (From number) among = ap is_some (same_value number among)

    same_operand : (operand : Operand) → Member (operation_at x piece i).operands operand → operand_in x n piece operand ≡ operand_in x m piece operand
    same_operand (Known z) among = refl
    same_operand (From number) among = ap (λ o. unwrap_or o (pos 0)) (same_value number among)

    same_map : (operands : List Operand) → ((operand : Operand) → Member operands operand → operand_in x n piece operand ≡ operand_in x m piece operand) → map (operand_in x n piece) operands ≡ map (operand_in x m piece) operands
    same_map [] same = refl
    same_map (operand ∷ operands) same =
        ap (λ z. z ∷ map (operand_in x n piece) operands) (same operand (inl refl))
        ∙ ap (λ zs. operand_in x m piece operand ∷ zs) (same_map operands (λ other among. same other (inr among)))

    pub same_args : map (operand_in x n piece) (operation_at x piece i).operands ≡ map (operand_in x m piece) (operation_at x piece i).operands
    same_args = same_map (operation_at x piece i).operands same_operand

    pub same_own : value_at n k ≡ value_at m k
    same_own = ap value_of (agree (Given k) (own (k == k) (is_giver x piece i k) (eq-eqb k k refl)))
      where
        own : (a b : Bool) → a ≡ true → (a || b) ≡ true
        own true b is = refl
        own false b is = absurd cc

    same_room : (b : Bool) → is_decision (operation_at x piece i).work ≡ b
        → (if b then list_all (λ switch. not (is_some (left_for n.tokens switch))) (switches x.net piece) else true) ≡ (if b then list_all (λ switch. not (is_some (left_for m.tokens switch))) (switches x.net piece) else true)
    same_room true is = same_tests (λ switch. not (is_some (left_for n.tokens switch))) (λ switch. not (is_some (left_for m.tokens switch))) (switches x.net piece)
        (λ switch among. ap (λ o. not (is_some (joined o))) (agree (Token (Left switch)) (ap (λ b. b && is_switch x.net piece switch) is ∙ switch_in piece switch among)))
    same_room false is = refl

    four : (a a' b b' d d' e e' : Bool) → a ≡ a' → b ≡ b' → d ≡ d' → e ≡ e' → (a && b && d && e) ≡ (a' && b' && d' && e')
    four a a' b b' d d' e e' first second third fourth = ap (λ v. v && b && d && e) first ∙ ap (λ v. a' && v && d && e) second ∙ ap (λ v. a' && b' && v && e) third ∙ ap (λ v. a' && b' && d' && v) fourth

    pub same_can_operate : can_operate x n k piece i (operation_at x piece i) ≡ can_operate x m k piece i (operation_at x piece i)
    same_can_operate =
        four (list_all (stands_before x n piece i) (needed x piece i)) (list_all (stands_before x m piece i) (needed x piece i))
        (list_all (is_given x n piece) (operation_at x piece i).operands) (list_all (is_given x m piece) (operation_at x piece i).operands)
        (not (is_some (value_at n k))) (not (is_some (value_at m k)))
        (has_room x n piece (operation_at x piece i).work) (has_room x m piece (operation_at x piece i).work)
        (same_tests (stands_before x n piece i) (stands_before x m piece i) (needed x piece i) (λ line t. same_stands line (needed_is piece i line t)))
        (same_tests (is_given x n piece) (is_given x m piece) (operation_at x piece i).operands same_given)
        (ap (λ o. not (is_some o)) same_own)
        (same_room (is_decision (operation_at x piece i).work) refl)

    pub alike : Covers x.net.program.names c (x.needs piece i) (operation_at x piece i).work (map (operand_in x m piece) (operation_at x piece i).operands) → EffectsAlike c (x.needs piece i) (performed_at x n piece (operation_at x piece i)) (performed_at x m piece (operation_at x piece i))
    alike covers =
        subst (λ args. EffectsAlike c (x.needs piece i) (performed x.net.program.names x.net.input n.tokens.memory (operation_at x piece i).work args) (performed_at x m piece (operation_at x piece i))) (sym same_args)
        (performed_alike x.net.program.names x.net.input c (x.needs piece i) n.tokens.memory m.tokens.memory (operation_at x piece i).work (map (operand_in x m piece) (operation_at x piece i).operands) covers agree_on)

    -- ---- what it makes of its footprint

    taken_inside : (j : ℕ) → slice_get n.values j ≡ slice_get m.values j → slice_get (taken_values x n piece (operation_at x piece i)) j ≡ slice_get (taken_values x m piece (operation_at x piece i)) j
    taken_inside j same = replaced_alike n.values m.values (givers x piece (operation_at x piece i).operands) (λ k. None) (λ k. None) j same (λ t. refl)

    left_inside : (node edge other : ℕ) → edge ≡ other → slice_get n.tokens.edges node ≡ slice_get m.tokens.edges node → (b : Bool)
        → slice_get (if b then with_all n.tokens.edges (switches x.net piece) (λ switch. Some edge) else n.tokens.edges) node ≡ slice_get (if b then with_all m.tokens.edges (switches x.net piece) (λ switch. Some other) else m.tokens.edges) node
    left_inside node edge other along same true = replaced_alike n.tokens.edges m.tokens.edges (switches x.net piece) (λ switch. Some edge) (λ switch. Some other) node same (λ t. ap (λ e. Some e) along)
    left_inside node edge other along same false = same

    on_inside : (a b : Effect) → a.value ≡ b.value → a.choice ≡ b.choice → AgreeOn c (x.needs piece i) a.memory b.memory → (part : OperationPart) → foot_as x c k (Op piece i) part ≡ true → part_at (operated_on x n k piece i (operation_at x piece i) a) part ≡ part_at (operated_on x m k piece i (operation_at x piece i) b) part
    on_inside a b value choice same (Token (Line line)) mine =
        replaced_alike n.tokens.lines m.tokens.lines (last_needed x piece i) (led_from x.net (out (graph_in x.net) piece a.choice)) (led_from x.net (out (graph_in x.net) piece b.choice)) line (agree (Token (Line line)) mine)
        (λ t. ap (λ number. led_from x.net (out (graph_in x.net) piece number) line) choice)
    on_inside a b value choice same (Token (Left node)) mine =
        left_inside node (out (graph_in x.net) piece a.choice) (out (graph_in x.net) piece b.choice) (ap (out (graph_in x.net) piece) choice) (agree (Token (Left node)) mine) (is_decision (operation_at x piece i).work)
    on_inside a b value choice same (Token (Word word)) mine = same.store word mine
    on_inside a b value choice same (Token (Count loop_no)) mine = same.counts loop_no mine
    on_inside a b value choice same (Token (StepOf loop_no)) mine = same.steps loop_no mine
    on_inside a b value choice same (Token Taken) mine = same.taken mine
    on_inside a b value choice same (Token Trap) mine = agree (Token Trap) mine
    on_inside a b value choice same (Passed line) mine =
        replaced_alike n.passed m.passed (needed x piece i) (passed_after x n piece i) (passed_after x m piece i) line (agree (Passed line) mine)
        (λ t. ap (λ p. if is_last_at x piece i line then 0 else suc p) (index_of n.passed m.passed line (agree (Passed line) mine)))
    on_inside a b value choice same (Given j) mine =
        replaced_one_alike (taken_values x n piece (operation_at x piece i)) (taken_values x m piece (operation_at x piece i)) k a.value b.value j (taken_inside j (agree (Given j) mine)) value

    stopped_inside : (trap : Kind_of_trap) (part : OperationPart) → foot_as x c k (Op piece i) part ≡ true → part_at (stopped_by x n piece i (operation_at x piece i) trap) part ≡ part_at (stopped_by x m piece i (operation_at x piece i) trap) part
    stopped_inside trap (Token (Line line)) mine = replaced_alike n.tokens.lines m.tokens.lines (needed x piece i) (λ line. None) (λ line. None) line (agree (Token (Line line)) mine) (λ t. refl)
    stopped_inside trap (Token (Left node)) mine = agree (Token (Left node)) mine
    stopped_inside trap (Token (Word word)) mine = agree (Token (Word word)) mine
    stopped_inside trap (Token (Count loop_no)) mine = agree (Token (Count loop_no)) mine
    stopped_inside trap (Token (StepOf loop_no)) mine = agree (Token (StepOf loop_no)) mine
    stopped_inside trap (Token Taken) mine = agree (Token Taken) mine
    stopped_inside trap (Token Trap) mine = refl
    stopped_inside trap (Passed line) mine = replaced_alike n.passed m.passed (needed x piece i) (λ line. 0) (λ line. 0) line (agree (Passed line) mine) (λ t. refl)
    stopped_inside trap (Given j) mine = taken_inside j (agree (Given j) mine)

    trap_inside : (trap : Kind_of_trap) (b : Bool) (part : OperationPart) → foot_as x c k (Op piece i) part ≡ true
        → part_at (if b then stopped_by x n piece i (operation_at x piece i) trap else operated_on x n k piece i (operation_at x piece i) (zero_effect n (operation_at x piece i).work)) part
        ≡ part_at (if b then stopped_by x m piece i (operation_at x piece i) trap else operated_on x m k piece i (operation_at x piece i) (zero_effect m (operation_at x piece i).work)) part
    trap_inside trap true part mine = stopped_inside trap part mine
    trap_inside trap false part mine = on_inside (zero_effect n (operation_at x piece i).work) (zero_effect m (operation_at x piece i).work) refl refl agree_on part mine

    pub operated_inside : (a b : Result Effect Kind_of_trap) → EffectsAlike c (x.needs piece i) a b → (part : OperationPart) → foot_as x c k (Op piece i) part ≡ true → part_at (operated x n k piece i (operation_at x piece i) a) part ≡ part_at (operated x m k piece i (operation_at x piece i) b) part
    operated_inside (Ok a) (Ok b) same part mine = on_inside a b same.0 same.2 same.3 part mine
    operated_inside (Ok a) (Err trap) same part mine = absurd same
    operated_inside (Err trap) (Ok b) same part mine = absurd same
    operated_inside (Err trap) (Err other) same part mine = trap_inside trap (x.needs piece i 0) part mine ∙ ap (λ t. part_at (operated x m k piece i (operation_at x piece i) (Err t)) part) same

    -- ---- what it writes, and its trap

    pub same_text : (a b : Result Effect Kind_of_trap) → EffectsAlike c (x.needs piece i) a b → text_written a ≡ text_written b
    same_text (Ok a) (Ok b) same = ap written same.1
    same_text (Ok a) (Err trap) same = absurd same
    same_text (Err trap) (Ok b) same = absurd same
    same_text (Err trap) (Err other) same = refl

    pub same_trap : n.tokens.trap ≡ m.tokens.trap → (a b : Result Effect Kind_of_trap) → EffectsAlike c (x.needs piece i) a b → (operated x n k piece i (operation_at x piece i) a).tokens.trap ≡ (operated x m k piece i (operation_at x piece i) b).tokens.trap
    same_trap traps (Ok a) (Ok b) same = traps
    same_trap traps (Ok a) (Err trap) same = absurd same
    same_trap traps (Err trap) (Ok b) same = absurd same
    same_trap traps (Err trap) (Err other) same = by (x.needs piece i 0) ∙ ap (λ t. (operated x m k piece i (operation_at x piece i) (Err t)).tokens.trap) same
      where
        by : (b : Bool) → (if b then stopped_by x n piece i (operation_at x piece i) trap else operated_on x n k piece i (operation_at x piece i) (zero_effect n (operation_at x piece i).work)).tokens.trap
            ≡ (if b then stopped_by x m piece i (operation_at x piece i) trap else operated_on x m k piece i (operation_at x piece i) (zero_effect m (operation_at x piece i).work)).tokens.trap
        by true = refl
        by false = traps

  -- without the line of output nothing is written, and nothing traps
  pub quiet : (m : OperationTokens) (k piece i : ℕ) (r : Result Effect Kind_of_trap) → x.needs piece i 0 ≡ false → IfPerformed r (IsEffectFramed c (x.needs piece i) m.tokens.memory) → (text_written r ≡ None) × ((operated x m k piece i (operation_at x piece i) r).tokens.trap ≡ m.tokens.trap)
  quiet m k piece i (Ok effect) not_out framed = (ap written (framed.silent not_out), refl)
  quiet m k piece i (Err trap) not_out framed = (refl, ap (λ b. (if b then stopped_by x m piece i (operation_at x piece i) trap else operated_on x m k piece i (operation_at x piece i) (zero_effect m (operation_at x piece i).work)).tokens.trap) not_out)
