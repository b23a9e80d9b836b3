-- What the firing of the next operation of a piece leads to.
use Rattle.std.proofs.Common.{◌≡◌, ◌<◌, ◌⊎◌, ⊎_elim, ℕ, zero, suc, ◌+◌, ◌&&◌, ◌==◌, ℤ, Bool, true, false, if◌then◌else◌, [], ◌∷◌, ◌++◌, length, length-append, map, drop, replicate, Option, Some, None, slice_get, Result, Ok, Err, refl, sym, ap, ◌∙◌, subst, inl, inr, eq-eqb, arith}
use Rattle.std.proofs.lemmas.Bool.{cases_Bool}
use Rattle.op_table.specs.declared.Trap.{Trap}
use Rattle.f77_tree.specs.Execution.{Memory}
use Rattle.cfg_build.specs.Passes.{Passed, Along, Traps, Done, out}
use Rattle.dep_routing.specs.Sound.{DoesTrap}
use Rattle.list_laws.specs.Member.{Member}
use Rattle.net_board.specs.Nodes.{graph_in, kind_in, switches}
use Rattle.net_board.specs.Tokens.{Tokens, led_from, pass_at, source_line, with_all}
use Rattle.net_board.proofs.ListPlaces.{get_set_other, get_set_same, put, same_or_not}
use Rattle.net_board.proofs.ListPrefixes.{HasItem, item_at}
use Rattle.op_board.specs.Operations.{Operation, is_decision}
use Rattle.op_board.specs.Effects.{Effect, Stopped, after_one, operand_at, performed, ran, value_or_zero}
use Rattle.op_board.specs.OperationFacts.{OperationFacts, is_parting}
use Rattle.op_board.specs.OperationLists.{DoesAsPass, takes_by}
use Rattle.op_board.specs.OperationNets.{OperationNet, all_operation_nodes, first_operation, is_last_at, last_needed, needed, needing_before, operation_at, operation_count, operation_node, operations_at}
use Rattle.op_board.specs.OperationOrder.{ran_at}
use Rattle.op_board.specs.OperationTokens.{OperationTokens, fired_as, given_values, givers, line_as, operand_in, operated, operated_on, passed_after, performed_at, replaced, stopped_by, taken_values, text_written, zero_effect}
use Rattle.op_board.specs.SoundOperationNets.{IsOperationNet}
use Rattle.op_board.specs.Needs.{OperationNeeds}
use Rattle.op_board.proofs.NeededLines.{passing_some, passing_up_to}
use Rattle.op_board.proofs.OperandValues.{IsGiving, gives_one, same_operands}
use Rattle.op_board.proofs.PieceLines.{AreLines, ArePassed, next_lines, next_passed}
use Rattle.op_board.proofs.AmidPieces.{IsAtPiece, IsPart, decision_needs, exit, list, low, named, one_way, op_is, operand_there}
use Rattle.op_board.proofs.ReplacedItems.{replaced_other, replaced_same}
use Rattle.op_board.proofs.WaitingValues.{IsGiver, IsTaken, drop_more, giver_has, giver_in, new_waits, others_wait, taken_after, taken_here, waiting}

pub some_or_none : (n : ℕ) → (0 < n) ⊎ (n ≡ 0)
some_or_none zero = inr refl
some_or_none (suc n) = inl (omega arith)

pub last_number : (i all : ℕ) → i < all → (suc i < all) ⊎ (suc i ≡ all)
last_number i all low = grind (arith, low)

pub cancel_plus : (a b c : ℕ) → a + b ≡ a + c → b ≡ c
cancel_plus a b c e = omega (arith, e)

module _ (x : OperationNet) (n : IsOperationNet x) (facts : OperationFacts x) (piece : ℕ) (m : Tokens) (at : IsAtPiece x piece m) (i : ℕ) (t : OperationTokens) (part : IsPart x n facts piece m at i t) (op : Operation) (is : slice_get (operations_at x piece) i ≡ Some op) where
  -- what comes of the operation
  abbrev pub result : Result Effect Trap
  result = performed x.net.program.names x.net.input part.last.memory op.work (map (operand_at part.values) op.operands)

  pub here : i < operation_count x piece
  here = low x n facts piece m at i t part op is

  pub performed_is : performed_at x t piece op ≡ result
  performed_is =
      ap (λ memory. performed x.net.program.names x.net.input memory op.work (map (operand_in x t piece) op.operands)) part.memory_is
      ∙ ap (performed x.net.program.names x.net.input part.last.memory op.work) (same_operands x t piece part.values op.operands (operand_there x n facts piece m at i t part op is))

  rest_is : after_one (length part.values) part.last.memory (λ effect. ran x.net.program.names x.net.input (part.values ++ value_or_zero effect.value ∷ []) effect (drop (suc i) (operations_at x piece))) result ≡ ran_at x piece m.memory
  rest_is = ap (ran x.net.program.names x.net.input part.values part.last) (sym (drop_more (operations_at x piece) i op is)) ∙ part.rest

  fired_is : fired_as x t (first_operation x piece + i) (operation_node x (first_operation x piece + i)) ≡ operated x t (first_operation x piece + i) piece i op result
  fired_is =
      ap (fired_as x t (first_operation x piece + i)) (named x n facts piece m at i t part op is)
      ∙ ap (λ (o : Operation). operated x t (first_operation x piece + i) piece i o (performed_at x t piece o)) (op_is x n facts piece m at i t part op is)
      ∙ ap (operated x t (first_operation x piece + i) piece i op) performed_is

  pub line_is : line_as x t (operation_node x (first_operation x piece + i)) ≡ text_written result
  line_is =
      ap (line_as x t) (named x n facts piece m at i t part op is)
      ∙ ap (λ (o : Operation). text_written (performed_at x t piece o)) (op_is x n facts piece m at i t part op is)
      ∙ ap text_written performed_is

  pub as_pass : DoesAsPass (out (graph_in x.net) piece) (ran_at x piece m.memory) (pass_at x.net piece m.memory)
  as_pass = facts.passes piece m.memory at.exists at.acts at.sizes at.words

  -- ---- it traps

  pub record IsStopped (trap : Trap) : Type 0 where
    pub ran_is : ran_at x piece m.memory ≡ Stopped i part.last.memory trap
    pub made : pass_at x.net piece m.memory ≡ Traps trap
    pub trapped : (fired_as x t (first_operation x piece + i) (operation_node x (first_operation x piece + i))).tokens.trap ≡ Some (trap, source_line x.net piece)
    pub memory : (fired_as x t (first_operation x piece + i) (operation_node x (first_operation x piece + i))).tokens.memory ≡ m.memory
    pub needs : x.needs piece i 0 ≡ true

  made_traps : (trap : Trap) (memory : Memory) (made : Passed) → DoesAsPass (out (graph_in x.net) piece) (Stopped i memory trap) made → made ≡ Traps trap
  made_traps trap memory (Along d new text) does = absurd does
  made_traps trap memory (Traps other) does = ap (λ (o : Trap). Traps o) (sym does)
  made_traps trap memory Done does = absurd does

  pub stops : (trap : Trap) → result ≡ Err trap → IsStopped trap
  stops trap err =
      let ran_is : ran_at x piece m.memory ≡ Stopped i part.last.memory trap =
      sym rest_is
      ∙ ap (after_one (length part.values) part.last.memory (λ effect. ran x.net.program.names x.net.input (part.values ++ value_or_zero effect.value ∷ []) effect (drop (suc i) (operations_at x piece)))) err
      ∙ ap (λ (k : ℕ). Stopped k part.last.memory trap) part.long
      in
      let made : pass_at x.net piece m.memory ≡ Traps trap = made_traps trap part.last.memory (pass_at x.net piece m.memory) (subst (λ r. DoesAsPass (out (graph_in x.net) piece) r (pass_at x.net piece m.memory)) ran_is as_pass) in
      let touches : x.net.touches piece 0 ≡ true = at.traps (subst DoesTrap (sym made) tt) in
      let needs : x.needs piece i 0 ≡ true = facts.traps piece i m.memory part.last.memory trap at.exists at.sizes at.words ran_is touches in
      let whole : fired_as x t (first_operation x piece + i) (operation_node x (first_operation x piece + i)) ≡ stopped_by x t piece i op trap =
      fired_is
      ∙ ap (operated x t (first_operation x piece + i) piece i op) err
      ∙ ap (λ (b : Bool). if b then stopped_by x t piece i op trap else operated_on x t (first_operation x piece + i) piece i op (zero_effect t op.work)) needs
      in
      record {
        ran_is = ran_is;
        made = made;
        trapped = ap (λ (y : OperationTokens). y.tokens.trap) whole;
        memory = ap (λ (y : OperationTokens). y.tokens.memory) whole ∙ part.memory_is ∙ facts.unchanged piece i m.memory part.last.memory trap at.exists at.acts at.sizes at.words ran_is;
        needs = needs;
      }

  -- ---- it doesn't trap

  module _ (e : Effect) (ok : result ≡ Ok e) where
    pub whole_is : fired_as x t (first_operation x piece + i) (operation_node x (first_operation x piece + i)) ≡ operated_on x t (first_operation x piece + i) piece i op e
    whole_is = fired_is ∙ ap (operated x t (first_operation x piece + i) piece i op) ok

    pub next_rest : ran x.net.program.names x.net.input (part.values ++ value_or_zero e.value ∷ []) e (drop (suc i) (operations_at x piece)) ≡ ran_at x piece m.memory
    next_rest = sym (ap (after_one (length part.values) part.last.memory (λ effect. ran x.net.program.names x.net.input (part.values ++ value_or_zero effect.value ∷ []) effect (drop (suc i) (operations_at x piece)))) ok) ∙ rest_is

    -- ---- values

    taken_is : Member (givers x piece op.operands) (first_operation x piece + i) → ⊥
    taken_is own =
        let r : IsGiver x piece op.operands (first_operation x piece + i) = giver_has x piece op.operands (first_operation x piece + i) own in
        let took : IsTaken (operations_at x piece) (list x n facts piece m at) i op is r.number = taken_here (operations_at x piece) (list x n facts piece m at) i op is r.number r.takes in
        let number = r.is in
        let before = took.before in
        omega (arith, number, before)

    pub value_self : slice_get (given_values x t (first_operation x piece + i) piece op e.value) (first_operation x piece + i) ≡ Some e.value
    value_self =
        get_set_same (taken_values x t piece op) (first_operation x piece + i) e.value
        ∙ ap (put e.value) (replaced_other t.values (givers x piece op.operands) (λ k. None) (first_operation x piece + i) taken_is ∙ part.own i here)

    pub value_taken : (j : ℕ) → j < operation_count x piece → (j ≡ i → ⊥) → 0 < takes_by op.operands j → slice_get (given_values x t (first_operation x piece + i) piece op e.value) (first_operation x piece + j) ≡ Some None
    value_taken j j_low apart some =
        get_set_other (taken_values x t piece op) (first_operation x piece + i) (first_operation x piece + j) e.value (λ same. apart (sym (cancel_plus (first_operation x piece) i j same)))
        ∙ replaced_same t.values (givers x piece op.operands) (λ k. None) (first_operation x piece + j) (giver_in x piece op.operands j some)
        ∙ ap (put None) (part.own j j_low)

    pub value_other : (k : ℕ) → (first_operation x piece + i ≡ k → ⊥) → (Member (givers x piece op.operands) k → ⊥) → slice_get (given_values x t (first_operation x piece + i) piece op e.value) k ≡ slice_get t.values k
    value_other k apart untaken =
        get_set_other (taken_values x t piece op) (first_operation x piece + i) k e.value apart
        ∙ replaced_other t.values (givers x piece op.operands) (λ k. None) k untaken

    pub not_taken : (j : ℕ) → takes_by op.operands j ≡ 0 → Member (givers x piece op.operands) (first_operation x piece + j) → ⊥
    not_taken j none own =
        let r : IsGiver x piece op.operands (first_operation x piece + j) = giver_has x piece op.operands (first_operation x piece + j) own in
        let same : r.number ≡ j = cancel_plus (first_operation x piece) r.number j r.is in
        let some : 0 < takes_by op.operands j = subst (λ (k : ℕ). 0 < takes_by op.operands k) same r.takes in
        omega (arith, some, none)

    pub value_outside : (k : ℕ) → ((j : ℕ) → j < operation_count x piece → first_operation x piece + j ≡ k → ⊥) → slice_get (given_values x t (first_operation x piece + i) piece op e.value) k ≡ slice_get (replicate (length (all_operation_nodes x)) None) k
    value_outside k apart =
        value_other k (apart i here) (λ own.
        let r : IsGiver x piece op.operands k = giver_has x piece op.operands k own in
        let took : IsTaken (operations_at x piece) (list x n facts piece m at) i op is r.number = taken_here (operations_at x piece) (list x n facts piece m at) i op is r.number r.takes in
        let before = took.before in
        apart r.number (omega (arith, before, here)) r.is)
        ∙ part.others k apart

    -- ---- lines

    abbrev leads : Type 0
    leads = (line : ℕ) → x.needs piece i line ≡ true → is_last_at x piece i line ≡ true → out (graph_in x.net) piece e.choice ≡ exit x n facts piece m at

    pub lines_on : leads → AreLines x piece m.lines (exit x n facts piece m at) (suc i) (with_all t.tokens.lines (last_needed x piece i) (led_from x.net (out (graph_in x.net) piece e.choice)))
    lines_on same = next_lines x piece m.lines (exit x n facts piece m at) i t.tokens.lines (out (graph_in x.net) piece e.choice) here same part.lines_are

    pub passed_on : ArePassed x piece (suc i) (replaced t.passed (needed x piece i) (passed_after x t piece i))
    passed_on = next_passed x piece i t.passed here part.passed_are

    pub decides : is_decision op.work ≡ (is_parting (kind_in x.net piece) && (suc i == operation_count x piece))
    decides = facts.decisions piece i op at.exists is

    -- ---- it isn't the last one

    module _ (more : suc i < operation_count x piece) where
      giving : IsGiving e
      giving = gives_one x.net.program.names x.net.input part.last.memory e op.work (map (operand_at part.values) op.operands) (let own = list x n facts piece m at in own.gives i op is more) ok

      not_last : (suc i == operation_count x piece) ≡ false
      not_last = ⊎_elim
          (λ (h : (suc i == operation_count x piece) ≡ true). let same = Rattle.std.proofs.Common.eqb-true (suc i) (operation_count x piece) h in absurd (omega (arith, same, more)))
          (λ (h : (suc i == operation_count x piece) ≡ false). h)
          (cases_Bool (suc i == operation_count x piece))

      no_decision : is_decision op.work ≡ false
      no_decision = decides ∙ ap (λ (b : Bool). is_parting (kind_in x.net piece) && b) not_last ∙ and_false (is_parting (kind_in x.net piece))
        where
          and_false : (b : Bool) → (b && false) ≡ false
          and_false true = refl
          and_false false = refl

      -- before a decision no line goes on
      not_yet : (line : ℕ) → x.needs piece i line ≡ true → is_last_at x piece i line ≡ true → is_parting (kind_in x.net piece) ≡ true → ⊥
      not_yet line need last parts = by (operation_count x piece) refl more
        where
          by : (all : ℕ) → operation_count x piece ≡ all → suc i < all → ⊥
          by zero same high = omega (arith, high)
          by (suc z) same high =
              let inside : z < operation_count x piece = omega (arith, same) in
              let own : HasItem (operations_at x piece) z = item_at (operations_at x piece) z inside in
              let decision : is_decision own.item.work ≡ true = facts.decisions piece z own.item at.exists own.at ∙ ap (λ (b : Bool). b && (suc z == operation_count x piece)) parts ∙ eq-eqb (suc z) (operation_count x piece) (sym same) in
              let touches : x.net.touches piece line ≡ true = facts.touched piece i line at.exists here need in
              let net = n.is_net in
              let wants : OperationNeeds net.classes (x.net.touches piece) own.item line = decision_needs net.classes (x.net.touches piece) own.item.work own.item.operands line decision touches in
              let same_op : operation_at x piece z ≡ own.item = ap Rattle.op_board.specs.OperationNets.operation_in own.at in
              let needs : x.needs piece z line ≡ true = (n.own_needs piece z line at.exists inside).1 (subst (λ (o : Operation). OperationNeeds net.classes (x.net.touches piece) o line) (sym same_op) wants) in
              let first = passing_some (λ j. x.needs piece j line) i (suc i) (omega arith) need in
              let up = passing_up_to (λ j. x.needs piece j line) (suc i) z (omega (arith, high)) in
              let past = passing_some (λ j. x.needs piece j line) z (operation_count x piece) inside needs in
              let all = Rattle.std.proofs.Common.eqb-true (needing_before x piece (operation_count x piece) line) (suc (needing_before x piece i line)) last in
              omega (arith, first, up, past, all)

      leads_on : leads
      leads_on line need last = by (cases_Bool (is_parting (kind_in x.net piece)))
        where
          by : (is_parting (kind_in x.net piece) ≡ true) ⊎ (is_parting (kind_in x.net piece) ≡ false) → out (graph_in x.net) piece e.choice ≡ exit x n facts piece m at
          by (inl parts) = absurd (not_yet line need last parts)
          by (inr one) = ap (out (graph_in x.net) piece) giving.choice ∙ sym (one_way x piece m.memory (kind_in x.net piece) at.acts one)

      own_on : (j : ℕ) → j < operation_count x piece → slice_get (given_values x t (first_operation x piece + i) piece op e.value) (first_operation x piece + j) ≡ Some (waiting (operations_at x piece) (part.values ++ value_or_zero e.value ∷ []) (suc i) j)
      own_on j j_low = by (same_or_not j i) (some_or_none (takes_by op.operands j))
        where
          by : (j ≡ i) ⊎ (j ≡ i → ⊥) → (0 < takes_by op.operands j) ⊎ (takes_by op.operands j ≡ 0) → slice_get (given_values x t (first_operation x piece + i) piece op e.value) (first_operation x piece + j) ≡ Some (waiting (operations_at x piece) (part.values ++ value_or_zero e.value ∷ []) (suc i) j)
          by (inl same) takes =
              subst (λ (k : ℕ). slice_get (given_values x t (first_operation x piece + i) piece op e.value) (first_operation x piece + k) ≡ Some (waiting (operations_at x piece) (part.values ++ value_or_zero e.value ∷ []) (suc i) k)) (sym same)
              (value_self ∙ ap (λ (o : Option ℤ). Some o) (giving.value ∙ sym (new_waits (operations_at x piece) (list x n facts piece m at) i op is part.values part.long (value_or_zero e.value))))
          by (inr apart) (inl some) = value_taken j j_low apart some ∙ ap (λ (o : Option ℤ). Some o) (sym (taken_after (operations_at x piece) (list x n facts piece m at) i op is part.values part.long (value_or_zero e.value) j some))
          by (inr apart) (inr none) =
              value_other (first_operation x piece + j) (λ same. apart (sym (cancel_plus (first_operation x piece) i j same))) (not_taken j none)
              ∙ part.own j j_low
              ∙ ap (λ (o : Option ℤ). Some o) (sym (others_wait (operations_at x piece) (list x n facts piece m at) i op is part.values part.long (value_or_zero e.value) j apart none))

      next_part : IsPart x n facts piece m at (suc i) (operated_on x t (first_operation x piece + i) piece i op e)
      next_part = record {
        values = part.values ++ value_or_zero e.value ∷ [];
        last = e;
        long = let all = length-append part.values (value_or_zero e.value ∷ []) in let long = part.long in omega (arith, all, long);
        rest = next_rest;
        memory_is = refl;
        trap_is = part.trap_is;
        edges_are = ap (λ (b : Bool). if b then with_all t.tokens.edges (switches x.net piece) (λ switch. Some (out (graph_in x.net) piece e.choice)) else t.tokens.edges) no_decision ∙ part.edges_are;
        lines_are = lines_on leads_on;
        passed_are = passed_on;
        own = own_on;
        others = value_outside;
      }

      pub part_next : IsPart x n facts piece m at (suc i) (fired_as x t (first_operation x piece + i) (operation_node x (first_operation x piece + i)))
      part_next = subst (λ (y : OperationTokens). IsPart x n facts piece m at (suc i) y) (sym whole_is) next_part

      pub silent_next : line_as x t (operation_node x (first_operation x piece + i)) ≡ None
      silent_next = line_is ∙ ap text_written ok ∙ ap Rattle.net_board.specs.Tokens.written giving.text
