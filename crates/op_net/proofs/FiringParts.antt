-- The parts of the firing of an operation, which together make the marking to which it leads.
use Rattle.std.proofs.Common.{◌≡◌, ◌⊎◌, ◌+◌, inl, inr, ℕ, ℤ, pos, ◌&&◌, Bool, true, false, not, if◌then◌else◌, List, [], ◌∷◌, map, Option, Some, None, is_some, Result, Ok, Err, slice_get, slice_set, unwrap_or, refl, sym, ap, subst, ◌∙◌}
use Rattle.std.specs.List.{list_all}
use Rattle.op_table.specs.declared.Trap.{Trap}
use Rattle.cfg_build.specs.Passes.{out}
use Rattle.f77_tree.specs.Execution.{Memory, next_word}
use Rattle.f77_tree.specs.declared.programs.NameInfo.{NameInfo}
use Rattle.firing.specs.declared.system.Fired.{Fired}
use Rattle.firing.specs.declared.system.Fired.TheVariants.{Line, Moved, Trapped}
use Rattle.firing.specs.declared.system.NodeName.{NodeName}
use Rattle.firing.specs.declared.system.NodeName.TheVariants.{Op}
use Rattle.firing.specs.Moves.{FiredIs, newest}
use Rattle.net_board.specs.Nodes.{graph_in, switches}
use Rattle.net_board.specs.Tokens.{written, with_all, led_from}
use Rattle.net_board.proofs.ListPlaces.{get_set_same, get_set_other, put, same_list, same_or_not}
use Rattle.op_table.specs.Operators.{applied}
use Rattle.op_board.specs.Effects.{Effect, gives, performed, result_given, taken_from, tells}
use Rattle.op_board.specs.Operations.{Advance, Begin, DecideFirst, DecideNumber, DecideSign, DecideTrips, DecideTruth, From, Known, Load, Operand, Operate, Operation, Store, Take, Work, Write, gives_value, is_decision}
use Rattle.op_board.specs.OperationNets.{OperationNet, first_operation, last_needed, needed, operation_at, operation_node}
use Rattle.op_board.specs.OperationTokens.{OperationTokens, can_operate, fired_as, givers, has_room, are_clear, is_given, line_as, operand_in, operated, operated_on, operation_moves, passed_after, performed_at, replaced, stands_before, stopped_by, taken_values, text_written, value_at, value_of, zero_effect}
use Rattle.op_board.proofs.OperandValues.{gives_none}
use Rattle.op_net.specs.FiringChanges.{AnswersTrap, given_on, room_left, told_on, trapped_on, worked_on}
use Rattle.operation_places.specs.StandingChanges.{room_filled, values_taken}

-- ---- an operation that is ready

four_parts : (a b d e : Bool) → (a && b && d && e) ≡ true → (a ≡ true) × (b ≡ true) × (d ≡ true) × (e ≡ true)
four_parts true true true true is = (refl, refl, refl, refl)
four_parts true true true false is = absurd cc
four_parts true true false e is = absurd cc
four_parts true false d e is = absurd cc
four_parts false b d e is = absurd cc

none_is : (o : Option ℤ) → not (is_some o) ≡ true → o ≡ None
none_is None is = refl
none_is (Some z) is = absurd cc

pub record IsReadyOperation (x : OperationNet) (m : OperationTokens) (k piece i : ℕ) : Type 0 where
  pub stand : list_all (stands_before x m piece i) (needed x piece i) ≡ true
  pub given : list_all (is_given x m piece) (operation_at x piece i).operands ≡ true
  pub empty : value_at m k ≡ None
  pub room : has_room x m piece (operation_at x piece i).work ≡ true

pub ready_operation : (x : OperationNet) (m : OperationTokens) (k piece i : ℕ) → can_operate x m k piece i (operation_at x piece i) ≡ true → IsReadyOperation x m k piece i
ready_operation x m k piece i ready =
    let parts = four_parts (list_all (stands_before x m piece i) (needed x piece i)) (list_all (is_given x m piece) (operation_at x piece i).operands) (not (is_some (value_at m k))) (has_room x m piece (operation_at x piece i).work) ready in
    record { stand = parts.0; given = parts.1; empty = none_is (value_at m k) parts.2; room = parts.3 }

pub room_clear : (x : OperationNet) (m : OperationTokens) (piece : ℕ) (work : Work) → has_room x m piece work ≡ true → is_decision work ≡ true → are_clear x m piece ≡ true
room_clear x m piece work room decides = ap (λ (b : Bool). if b then are_clear x m piece else true) (sym decides) ∙ room

-- ---- the edge that is left for the switches

module _ (x : OperationNet) (m : OperationTokens) (piece i edge : ℕ) where
  left_as : (b : Bool) → is_decision (operation_at x piece i).work ≡ b → room_left x m piece i edge ≡ record m { tokens = record m.tokens { edges = if b then with_all m.tokens.edges (switches x.net piece) (λ switch. Some edge) else m.tokens.edges } }
  left_as b is = ap (λ (b : Bool). record m { tokens = record m.tokens { edges = if b then with_all m.tokens.edges (switches x.net piece) (λ switch. Some edge) else m.tokens.edges } }) is

  pub left_if : is_decision (operation_at x piece i).work ≡ true → room_filled x m piece edge ≡ room_left x m piece i edge
  left_if is = sym (left_as true is)

  pub left_unless : is_decision (operation_at x piece i).work ≡ false → m ≡ room_left x m piece i edge
  left_unless is = sym (left_as false is)

-- ---- operands, which depend on the values alone

module _ (x : OperationNet) (piece : ℕ) (m n : OperationTokens) (same : m.values ≡ n.values) where
  value_same : (k : ℕ) → value_at m k ≡ value_at n k
  value_same k = ap (λ (values : List (Option ℤ)). value_of (slice_get values k)) same

  pub args_same : (operands : List Operand) → map (operand_in x m piece) operands ≡ map (operand_in x n piece) operands
  args_same [] = refl
  args_same (Known z ∷ operands) = ap (λ args. z ∷ args) (args_same operands)
  args_same (From number ∷ operands) =
      ap (λ (o : Option ℤ). unwrap_or o (pos 0) ∷ map (operand_in x m piece) operands) (value_same (first_operation x piece + number))
      ∙ ap (λ args. operand_in x n piece (From number) ∷ args) (args_same operands)

  pub given_same : (operands : List Operand) → list_all (is_given x m piece) operands ≡ list_all (is_given x n piece) operands
  given_same [] = refl
  given_same (Known z ∷ operands) = given_same operands
  given_same (From number ∷ operands) =
      ap (λ (o : Option ℤ). is_some o && list_all (is_given x m piece) operands) (value_same (first_operation x piece + number))
      ∙ ap (λ (b : Bool). is_given x n piece (From number) && b) (given_same operands)

-- ---- a place from which nothing is taken, and to which nothing is given

put_none : (o : Option (Option ℤ)) → value_of o ≡ None → value_of (put None o) ≡ None
put_none None is = refl
put_none (Some v) is = refl

still_empty : (values : List (Option ℤ)) (place k : ℕ) → value_of (slice_get values k) ≡ None → value_of (slice_get (slice_set values place None) k) ≡ None
still_empty values place k none = by (same_or_not place k)
  where
    by : (place ≡ k) ⊎ (place ≡ k → ⊥) → value_of (slice_get (slice_set values place None) k) ≡ None
    by (inl e) = subst (λ (p : ℕ). value_of (slice_get (slice_set values p None) k) ≡ None) (sym e) (ap value_of (get_set_same values k None) ∙ put_none (slice_get values k) none)
    by (inr n) = ap value_of (get_set_other values place k None n) ∙ none

empty_after : (values : List (Option ℤ)) (places : List ℕ) (k : ℕ) → value_of (slice_get values k) ≡ None → value_of (slice_get (replaced values places (λ _. None)) k) ≡ None
empty_after values [] k none = none
empty_after values (place ∷ places) k none = empty_after (slice_set values place None) places k (still_empty values place k none)

pub taken_empty : (x : OperationNet) (m : OperationTokens) (k piece i : ℕ) → value_at m k ≡ None → value_at (values_taken x m piece i) k ≡ None
taken_empty x m k piece i none = empty_after m.values (givers x piece (operation_at x piece i).operands) k none

put_same : (o : Option (Option ℤ)) → value_of o ≡ None → put None o ≡ o
put_same None is = refl
put_same (Some None) is = refl
put_same (Some (Some z)) is = absurd cc

set_none : (values : List (Option ℤ)) (k : ℕ) → value_of (slice_get values k) ≡ None → slice_set values k None ≡ values
set_none values k none = same_list (slice_set values k None) values by
  where
    by : (j : ℕ) → slice_get (slice_set values k None) j ≡ slice_get values j
    by j = at j (same_or_not k j)
      where
        at : (j : ℕ) → (k ≡ j) ⊎ (k ≡ j → ⊥) → slice_get (slice_set values k None) j ≡ slice_get values j
        at j (inl e) = subst (λ (p : ℕ). slice_get (slice_set values k None) p ≡ slice_get values p) e (get_set_same values k None ∙ put_same (slice_get values k) none)
        at j (inr n) = get_set_other values k j None n

-- ---- which operations give values, tell edges, write and trap

pub gives_tell_nothing : (work : Work) → gives_value work ≡ true → is_decision work ≡ false
gives_tell_nothing (Load name subs) gives = refl
gives_tell_nothing (Operate op) gives = refl
gives_tell_nothing (Store name subs) gives = absurd cc
gives_tell_nothing Take gives = refl
gives_tell_nothing (Write items) gives = absurd cc
gives_tell_nothing (Begin loop_no var) gives = absurd cc
gives_tell_nothing (Advance loop_no var) gives = absurd cc
gives_tell_nothing DecideTruth gives = absurd cc
gives_tell_nothing DecideSign gives = absurd cc
gives_tell_nothing (DecideNumber count) gives = absurd cc
gives_tell_nothing (DecideTrips loop_no) gives = absurd cc
gives_tell_nothing DecideFirst gives = absurd cc

abbrev given_in : Result Effect Trap → Bool
given_in (Err trap) = true
given_in (Ok e) = is_some e.value

module _ (names : List NameInfo) (input : List ℤ) (m : Memory) where
  -- what gives a value is an operation that does
  pub giving : (work : Work) (args : List ℤ) (after : Memory) (z : ℤ) → performed names input m work args ≡ Ok (gives after z) → gives_value work ≡ true
  giving work args after z is = by (gives_value work) refl
    where
      by : (b : Bool) → gives_value work ≡ b → b ≡ true
      by true h = refl
      by false h = let e : Some z ≡ None = gives_none names input m (gives after z) work args h is in absurd cc

  pub trapping : (work : Work) (args : List ℤ) (trap : Trap) → performed names input m work args ≡ Err trap → gives_value work ≡ true
  trapping (Load name subs) args trap is = absurd cc
  trapping (Operate op) args trap is = refl
  trapping (Store name subs) args trap is = absurd cc
  trapping Take args trap is = refl
  trapping (Write items) args trap is = absurd cc
  trapping (Begin loop_no var) args trap is = absurd cc
  trapping (Advance loop_no var) args trap is = absurd cc
  trapping DecideTruth args trap is = absurd cc
  trapping DecideSign args trap is = absurd cc
  trapping (DecideNumber count) args trap is = absurd cc
  trapping (DecideTrips loop_no) args trap is = absurd cc
  trapping DecideFirst args trap is = absurd cc

  given_is : (work : Work) (args : List ℤ) (e : Effect) → performed names input m work args ≡ Ok e → gives_value work ≡ true → is_some e.value ≡ true
  given_is (Load name subs) args e is gives = ap given_in (sym is)
  given_is (Operate op) args e is gives = given_by (applied op args) is
    where
      given_by : (r : Result ℤ Trap) → result_given m r ≡ Ok e → is_some e.value ≡ true
      given_by (Ok z) is = ap given_in (sym is)
      given_by (Err trap) is = absurd cc
  given_is (Store name subs) args e is gives = absurd cc
  given_is Take args e is gives = taken_by (next_word input m) is
    where
      taken_by : (o : Option ℤ) → taken_from m o ≡ Ok e → is_some e.value ≡ true
      taken_by (Some z) is = ap given_in (sym is)
      taken_by None is = absurd cc
  given_is (Write items) args e is gives = absurd cc
  given_is (Begin loop_no var) args e is gives = absurd cc
  given_is (Advance loop_no var) args e is gives = absurd cc
  given_is DecideTruth args e is gives = absurd cc
  given_is DecideSign args e is gives = absurd cc
  given_is (DecideNumber count) args e is gives = absurd cc
  given_is (DecideTrips loop_no) args e is gives = absurd cc
  given_is DecideFirst args e is gives = absurd cc

  -- what gives no value is an operation that gives none
  pub giving_none : (work : Work) (args : List ℤ) (e : Effect) → performed names input m work args ≡ Ok e → e.value ≡ None → gives_value work ≡ false
  giving_none work args e is none = by (gives_value work) refl
    where
      by : (b : Bool) → gives_value work ≡ b → b ≡ false
      by true h = let clash : false ≡ true = sym (ap (λ (o : Option ℤ). is_some o) none) ∙ given_is work args e is h in absurd cc
      by false h = refl

-- ---- markings

module _ (x : OperationNet) (m : OperationTokens) (k piece i : ℕ) where
  abbrev op : Operation
  op = operation_at x piece i

  abbrev result : Result Effect Trap
  result = performed_at x m piece op

  abbrev edge_told : (choice : ℕ) → ℕ
  edge_told choice = out (graph_in x.net) piece choice

  -- the marking after the operation, where these edges are left and these values are given
  abbrev made : (room : Bool) (choice : ℕ) → Memory → List (Option ℤ) → OperationTokens
  made room choice memory values = record {
    tokens = record {
      lines = with_all m.tokens.lines (last_needed x piece i) (led_from x.net (edge_told choice));
      edges = if room then with_all m.tokens.edges (switches x.net piece) (λ switch. Some (edge_told choice)) else m.tokens.edges;
      memory = memory;
      trap = m.tokens.trap;
    };
    passed = replaced m.passed (needed x piece i) (passed_after x m piece i);
    values = values;
  }

  no_value : value_at m k ≡ None → slice_set (taken_values x m piece op) k None ≡ taken_values x m piece op
  no_value none = set_none (taken_values x m piece op) k (taken_empty x m k piece i none)

  gave : (memory : Memory) (z : ℤ) → is_decision op.work ≡ false → given_on x (worked_on x m piece i memory) k piece i z ≡ operated_on x m k piece i op (gives memory z)
  gave memory z none = ap (λ (b : Bool). made b 0 memory (slice_set (taken_values x m piece op) k (Some z))) (sym none)

  pub gave_marking : (memory : Memory) (z : ℤ) → result ≡ Ok (gives memory z) → given_on x (worked_on x m piece i memory) k piece i z ≡ operated x m k piece i op result
  gave_marking memory z is =
      gave memory z (gives_tell_nothing op.work (giving x.net.program.names x.net.input m.tokens.memory op.work (map (operand_in x m piece) op.operands) memory z is))
      ∙ ap (operated x m k piece i op) (sym is)

  pub gave_gives : (memory : Memory) (z : ℤ) → result ≡ Ok (gives memory z) → gives_value op.work ≡ true
  gave_gives memory z is = giving x.net.program.names x.net.input m.tokens.memory op.work (map (operand_in x m piece) op.operands) memory z is

  pub tells_give_nothing : (e : Effect) → result ≡ Ok e → e.value ≡ None → gives_value op.work ≡ false
  tells_give_nothing e is none = giving_none x.net.program.names x.net.input m.tokens.memory op.work (map (operand_in x m piece) op.operands) e is none

  pub told_marking : (memory : Memory) (choice : ℕ) → value_at m k ≡ None → result ≡ Ok (tells memory choice) → told_on x (worked_on x m piece i memory) piece i choice ≡ operated x m k piece i op result
  told_marking memory choice none is =
      ap (λ values. made (is_decision op.work) choice memory values) (sym (no_value none))
      ∙ ap (operated x m k piece i op) (sym is)

  pub wrote_marking : (memory : Memory) (text : List ℕ) → value_at m k ≡ None → result ≡ Ok (record { value = None; memory = memory; text = text; choice = 0 }) → told_on x (worked_on x m piece i memory) piece i 0 ≡ operated x m k piece i op result
  wrote_marking memory text none is =
      ap (λ values. made (is_decision op.work) 0 memory values) (sym (no_value none))
      ∙ ap (operated x m k piece i op) (sym is)

  zero_is : gives_value op.work ≡ true → gives m.tokens.memory (pos 0) ≡ zero_effect m op.work
  zero_is gives_one = ap (λ (b : Bool). record { value = if b then Some (pos 0) else None; memory = m.tokens.memory; text = []; choice = 0 }) (sym gives_one)

  pub trapped_gives : (trap : Trap) → result ≡ Err trap → gives_value op.work ≡ true
  trapped_gives trap is = trapping x.net.program.names x.net.input m.tokens.memory op.work (map (operand_in x m piece) op.operands) trap is

  pub trapped_marking : (memory : Memory) (trap : Trap) → memory ≡ m.tokens.memory → result ≡ Err trap → trapped_on x (worked_on x m piece i memory) k piece i trap ≡ operated x m k piece i op result
  trapped_marking memory trap same is =
      let gives_one = trapped_gives trap is in
      let goes : given_on x (worked_on x m piece i m.tokens.memory) k piece i (pos 0) ≡ operated_on x m k piece i op (zero_effect m op.work) = gave m.tokens.memory (pos 0) (gives_tell_nothing op.work gives_one) ∙ ap (operated_on x m k piece i op) (zero_is gives_one) in
      ap (λ (y : Memory). trapped_on x (worked_on x m piece i y) k piece i trap) same
      ∙ ap (λ (n : OperationTokens). if x.needs piece i 0 then stopped_by x m piece i op trap else n) goes
      ∙ ap (operated x m k piece i op) (sym is)

  -- ---- what the firing answers

  module _ (name : operation_node x k ≡ Op piece i) (going : m.tokens.trap ≡ None) where
    line_is : (r : Result Effect Trap) → result ≡ r → line_as x m (operation_node x k) ≡ text_written r
    line_is r is = ap (line_as x m) name ∙ ap text_written is

    trap_is : (r : Result Effect Trap) → result ≡ r → (fired_as x m k (operation_node x k)).tokens.trap ≡ (operated x m k piece i op r).tokens.trap
    trap_is r is = ap (λ (n : NodeName). (fired_as x m k n).tokens.trap) name ∙ ap (λ (r : Result Effect Trap). (operated x m k piece i op r).tokens.trap) is

    pub silent : (e : Effect) → result ≡ Ok e → e.text ≡ [] → FiredIs (operation_moves x) m k Moved
    silent e is none = record { line = line_is (Ok e) is ∙ ap written none; trap = trap_is (Ok e) is ∙ going }

    pub wrote : (e : Effect) → result ≡ Ok e → (e.text ≡ [] → ⊥) → FiredIs (operation_moves x) m k Line
    wrote e is some = ((λ none. some (written_none e.text (sym (line_is (Ok e) is) ∙ none))), trap_is (Ok e) is ∙ going)
      where
        written_none : (text : List ℕ) → written text ≡ None → text ≡ []
        written_none [] none = refl
        written_none (byte ∷ more) none = absurd cc

    trap_by : (trap : Trap) (b : Bool) → x.needs piece i 0 ≡ b → operated x m k piece i op (Err trap) ≡ (if b then stopped_by x m piece i op trap else operated_on x m k piece i op (zero_effect m op.work))
    trap_by trap b is = ap (λ (b : Bool). if b then stopped_by x m piece i op trap else operated_on x m k piece i op (zero_effect m op.work)) is

    pub trap_answered : (trap : Trap) (fired : Fired) → result ≡ Err trap → AnswersTrap x piece i fired → FiredIs (operation_moves x) m k fired
    trap_answered trap Moved is over = record { line = line_is (Err trap) is; trap = trap_is (Err trap) is ∙ ap (λ (n : OperationTokens). n.tokens.trap) (trap_by trap false over) ∙ going }
    trap_answered trap Line is none = absurd none
    trap_answered trap Trapped is stops =
        let there : (fired_as x m k (operation_node x k)).tokens.trap ≡ (stopped_by x m piece i op trap).tokens.trap = trap_is (Err trap) is ∙ ap (λ (n : OperationTokens). n.tokens.trap) (trap_by trap true stops) in
        (line_is (Err trap) is, λ none. let clash : (stopped_by x m piece i op trap).tokens.trap ≡ None = sym there ∙ none in cc)

  -- ---- the newest line

  pub same_line : (e : Effect) (old : List ℕ) → result ≡ Ok e → e.text ≡ [] → old ≡ newest (line_as x m (Op piece i)) old
  same_line e old is none = ap (λ (o : Option (List ℕ)). newest o old) (sym (ap text_written is ∙ ap written none))

  pub same_at_trap : (trap : Trap) (old : List ℕ) → result ≡ Err trap → old ≡ newest (line_as x m (Op piece i)) old
  same_at_trap trap old is = ap (λ (r : Result Effect Trap). newest (text_written r) old) (sym is)

  pub new_line : (e : Effect) (old : List ℕ) → result ≡ Ok e → (e.text ≡ [] → ⊥) → e.text ≡ newest (line_as x m (Op piece i)) old
  new_line e old is some = by e.text some ∙ ap (λ (r : Result Effect Trap). newest (text_written r) old) (sym is)
    where
      by : (text : List ℕ) → (text ≡ [] → ⊥) → text ≡ newest (written text) old
      by [] some = absurd (some refl)
      by (byte ∷ more) some = refl
