-- The last operation of a piece leads to the marking to which the piece leads in a net of statements.
use Rattle.std.proofs.Common.{◌≡◌, ◌<◌, ◌≤◌, ◌⊎◌, ⊎_elim, ℕ, zero, suc, ◌+◌, ◌&&◌, ◌==◌, ℤ, Bool, true, false, if◌then◌else◌, List, [], ◌∷◌, ◌++◌, length, map, drop, replicate, Option, Some, None, slice_get, Ok, refl, sym, ap, ◌∙◌, subst, inl, inr, eq-eqb, arith}
use Rattle.std.proofs.lemmas.Bool.{cases_Bool}
use Rattle.std.specs.List.{range_with_len}
use Rattle.op_table.specs.declared.Trap.{Trap}
use Rattle.f77_tree.specs.Execution.{Memory}
use Rattle.cfg_build.specs.Passes.{Passed, Along, Traps, Done, out}
use Rattle.list_laws.specs.Member.{Member}
use Rattle.list_laws.proofs.Members.{Member-filter, Member-filtered, Member-range, Member-in_range}
use Rattle.net_board.specs.Nodes.{graph_in, kind_in, all_lines, first_node, switches, touched}
use Rattle.net_board.specs.Tokens.{Tokens, acted, gone, led_from, pass_at, with_all}
use Rattle.net_board.proofs.ListPlaces.{same_list, same_or_not, with_all_other, with_all_same}
use Rattle.net_board.specs.WithinPiece.{leaving}
use Rattle.op_board.specs.Operations.{Operation, is_decision}
use Rattle.op_board.specs.Effects.{Effect, All_done, ran, value_or_zero, operand_at}
use Rattle.op_board.specs.OperationFacts.{OperationFacts, is_parting, IsNeededAt}
use Rattle.op_board.specs.OperationLists.{DoesAsPass, takes_by}
use Rattle.op_board.specs.OperationNets.{OperationNet, all_operation_nodes, first_operation, last_needed, needed, needing_before, operation_count, operation_node, operations_at}
use Rattle.op_board.specs.OperationOrder.{ran_at}
use Rattle.op_board.specs.OperationTokens.{OperationTokens, between_pieces, fired_as, given_values, line_as, passed_after, replaced, text_written}
use Rattle.op_board.specs.SoundOperationNets.{IsOperationNet}
use Rattle.op_board.proofs.NeededLines.{through_passed, through_state, passing_some, passing_none}
use Rattle.op_board.proofs.OperandValues.{gives_none}
use Rattle.op_board.proofs.OperationSteps.{result, whole_is, next_rest, value_self, value_taken, value_other, value_outside, not_taken, lines_on, passed_on, decides, as_pass, some_or_none, cancel_plus, line_is}
use Rattle.op_board.proofs.PieceLines.{AreLines, ArePassed, low_or_high}
use Rattle.op_board.proofs.AmidPieces.{IsAtPiece, IsPart, exit, list, no_switches}
use Rattle.op_board.proofs.ReplacedItems.{get_replicate}
use Rattle.op_board.proofs.WaitingValues.{drop_whole, all_taken, others_wait}

-- the node of an operation of the piece
pub record IsOwn (x : OperationNet) (piece k : ℕ) : Type 0 where
  pub number : ℕ
  pub low : number < operation_count x piece
  pub same : first_operation x piece + number ≡ k

-- ---- equal markings

abbrev marking_of : List (Option ℕ) → List (Option ℕ) → Memory → Option (Trap × ℕ) → List ℕ → List (Option ℤ) → OperationTokens
marking_of lines edges memory trap passed values = record { tokens = record { lines = lines; edges = edges; memory = memory; trap = trap }; passed = passed; values = values }

same_marking : (lines lines' edges edges' : List (Option ℕ)) (memory memory' : Memory) (trap trap' : Option (Trap × ℕ)) (passed passed' : List ℕ) (values values' : List (Option ℤ)) → lines ≡ lines' → edges ≡ edges' → memory ≡ memory' → trap ≡ trap' → passed ≡ passed' → values ≡ values' → marking_of lines edges memory trap passed values ≡ marking_of lines' edges' memory' trap' passed' values'
same_marking lines lines' edges edges' memory memory' trap trap' passed passed' values values' a b c d e f =
    ap (λ (y : List (Option ℕ)). marking_of y edges memory trap passed values) a
    ∙ ap (λ (y : List (Option ℕ)). marking_of lines' y memory trap passed values) b
    ∙ ap (λ (y : Memory). marking_of lines' edges' y trap passed values) c
    ∙ ap (λ (y : Option (Trap × ℕ)). marking_of lines' edges' memory' y passed values) d
    ∙ ap (λ (y : List ℕ). marking_of lines' edges' memory' trap' y values) e
    ∙ ap (λ (y : List (Option ℤ)). marking_of lines' edges' memory' trap' passed' y) f

module _ (x : OperationNet) (n : IsOperationNet x) (facts : OperationFacts x) (piece : ℕ) (m : Tokens) (at : IsAtPiece x piece m) where
  -- ---- the lines, once all operations have fired

  all_lines_on : (lines : List (Option ℕ)) → AreLines x piece m.lines (exit x n facts piece m at) (operation_count x piece) lines → lines ≡ with_all m.lines (touched x.net piece) (led_from x.net (exit x n facts piece m at))
  all_lines_on lines are = same_list lines (with_all m.lines (touched x.net piece) (led_from x.net (exit x n facts piece m at))) (λ line. by line (low_or_high line x.net.routing.lines) (cases_Bool (x.net.touches piece line)))
    where
      low_of : (line : ℕ) → Member (touched x.net piece) line → line < x.net.routing.lines
      low_of line own =
          let h = (Member-in_range 0 x.net.routing.lines line (Member-filtered (x.net.touches piece) (range_with_len 0 x.net.routing.lines) line own).0).1 in
          omega (arith, h)

      by : (line : ℕ) → (line < x.net.routing.lines) ⊎ (x.net.routing.lines ≤ line) → (x.net.touches piece line ≡ true) ⊎ (x.net.touches piece line ≡ false) → slice_get lines line ≡ slice_get (with_all m.lines (touched x.net piece) (led_from x.net (exit x n facts piece m at))) line
      by line (inr high) touches = are.outside line high ∙ sym (with_all_other m.lines (touched x.net piece) (led_from x.net (exit x n facts piece m at)) line (λ own. let h = low_of line own in omega (arith, h, high)))
      by line (inl low) (inl touches) =
          let own : IsNeededAt x piece line = facts.needed piece line at.exists at.acts touches in
          let some = passing_some (λ j. x.needs piece j line) own.number (operation_count x piece) own.inside own.needs in
          are.inside line low
          ∙ through_state (needing_before x piece (operation_count x piece) line) (needing_before x piece (operation_count x piece) line) (led_from x.net (exit x n facts piece m at) line) (slice_get m.lines line) refl (omega (arith, some))
          ∙ sym (with_all_same m.lines (touched x.net piece) (led_from x.net (exit x n facts piece m at)) line (Member-filter (x.net.touches piece) (all_lines x.net) line (Member-range 0 x.net.routing.lines line (omega arith) (omega (arith, low))) touches))
      by line (inl low) (inr untouched) =
          let none : needing_before x piece (operation_count x piece) line ≡ 0 = passing_none (λ j. x.needs piece j line) (operation_count x piece) (λ j j_low. not_needed j j_low (cases_Bool (x.needs piece j line))) in
          are.inside line low
          ∙ ap (λ (k : ℕ). Rattle.op_board.proofs.NeededLines.line_state k k (led_from x.net (exit x n facts piece m at) line) (slice_get m.lines line)) none
          ∙ sym (with_all_other m.lines (touched x.net piece) (led_from x.net (exit x n facts piece m at)) line (λ own.
          let clash : true ≡ false = sym ((Member-filtered (x.net.touches piece) (range_with_len 0 x.net.routing.lines) line own).1) ∙ untouched in
          absurd cc))
        where
          not_needed : (j : ℕ) → j < operation_count x piece → (x.needs piece j line ≡ true) ⊎ (x.needs piece j line ≡ false) → x.needs piece j line ≡ false
          not_needed j j_low (inr h) = h
          not_needed j j_low (inl h) = let clash : true ≡ false = sym (facts.touched piece j line at.exists j_low h) ∙ untouched in absurd cc

  all_passed_on : (passed : List ℕ) → ArePassed x piece (operation_count x piece) passed → passed ≡ replicate x.net.routing.lines 0
  all_passed_on passed are = same_list passed (replicate x.net.routing.lines 0) (λ line. by line (low_or_high line x.net.routing.lines))
    where
      by : (line : ℕ) → (line < x.net.routing.lines) ⊎ (x.net.routing.lines ≤ line) → slice_get passed line ≡ slice_get (replicate x.net.routing.lines 0) line
      by line (inr high) = are.outside line high
      by line (inl low) =
          are.inside line low
          ∙ ap (λ (k : ℕ). Some k) (through_passed (needing_before x piece (operation_count x piece) line) (needing_before x piece (operation_count x piece) line) refl)
          ∙ sym (get_replicate x.net.routing.lines line 0 low)

  module _ (i : ℕ) (t : OperationTokens) (part : IsPart x n facts piece m at i t) (op : Operation) (is : slice_get (operations_at x piece) i ≡ Some op) (e : Effect) (ok : result x n facts piece m at i t part op is ≡ Ok e) (last : suc i ≡ operation_count x piece) where
    all_done : ran_at x piece m.memory ≡ All_done e
    all_done =
        sym (next_rest x n facts piece m at i t part op is e ok)
        ∙ ap (λ (k : ℕ). ran x.net.program.names x.net.input (part.values ++ value_or_zero e.value ∷ []) e (drop k (operations_at x piece))) last
        ∙ ap (ran x.net.program.names x.net.input (part.values ++ value_or_zero e.value ∷ []) e) (drop_whole (operations_at x piece))

    -- the piece goes along an edge
    pub record IsGone : Type 0 where
      pub edge : ℕ
      pub memory : Memory
      pub text : List ℕ
      pub made : pass_at x.net piece m.memory ≡ Along edge memory text
      pub edge_is : out (graph_in x.net) piece e.choice ≡ edge
      pub memory_is : e.memory ≡ memory
      pub text_is : e.text ≡ text

    gone_by : (made : Passed) → pass_at x.net piece m.memory ≡ made → DoesAsPass (out (graph_in x.net) piece) (All_done e) made → IsGone
    gone_by (Along d new text) same does = record { edge = d; memory = new; text = text; made = same; edge_is = does.0; memory_is = does.1; text_is = does.2 }
    gone_by (Traps trap) same does = absurd does
    gone_by Done same does = absurd does

    pub is_gone : IsGone
    is_gone = gone_by (pass_at x.net piece m.memory) refl (subst (λ r. DoesAsPass (out (graph_in x.net) piece) r (pass_at x.net piece m.memory)) all_done (as_pass x n facts piece m at i t part op is))

    pub exit_is : out (graph_in x.net) piece e.choice ≡ exit x n facts piece m at
    exit_is = let gone_on : IsGone = is_gone in gone_on.edge_is ∙ ap (leaving x.net piece) (sym gone_on.made)

    lines_end : with_all t.tokens.lines (last_needed x piece i) (led_from x.net (out (graph_in x.net) piece e.choice)) ≡ with_all m.lines (touched x.net piece) (led_from x.net (exit x n facts piece m at))
    lines_end = all_lines_on (with_all t.tokens.lines (last_needed x piece i) (led_from x.net (out (graph_in x.net) piece e.choice)))
        (subst (λ (k : ℕ). AreLines x piece m.lines (exit x n facts piece m at) k (with_all t.tokens.lines (last_needed x piece i) (led_from x.net (out (graph_in x.net) piece e.choice)))) last
        (lines_on x n facts piece m at i t part op is e ok (λ line need one. exit_is)))

    passed_end : replaced t.passed (needed x piece i) (passed_after x t piece i) ≡ replicate x.net.routing.lines 0
    passed_end = all_passed_on (replaced t.passed (needed x piece i) (passed_after x t piece i)) (subst (λ (k : ℕ). ArePassed x piece k (replaced t.passed (needed x piece i) (passed_after x t piece i))) last (passed_on x n facts piece m at i t part op is e ok))

    edges_end : (if is_decision op.work then with_all t.tokens.edges (switches x.net piece) (λ switch. Some (out (graph_in x.net) piece e.choice)) else t.tokens.edges) ≡ with_all m.edges (switches x.net piece) (λ switch. Some (exit x n facts piece m at))
    edges_end = by (is_parting (kind_in x.net piece)) refl
      where
        decision : (b : Bool) → is_parting (kind_in x.net piece) ≡ b → is_decision op.work ≡ b
        decision b parts = decides x n facts piece m at i t part op is e ok ∙ ap (λ (c : Bool). c && (suc i == operation_count x piece)) parts ∙ ap (λ (c : Bool). b && c) (eq-eqb (suc i) (operation_count x piece) last) ∙ and_true b
          where
            and_true : (c : Bool) → (c && true) ≡ c
            and_true true = refl
            and_true false = refl

        by : (b : Bool) → is_parting (kind_in x.net piece) ≡ b → (if is_decision op.work then with_all t.tokens.edges (switches x.net piece) (λ switch. Some (out (graph_in x.net) piece e.choice)) else t.tokens.edges) ≡ with_all m.edges (switches x.net piece) (λ switch. Some (exit x n facts piece m at))
        by true parts =
            ap (λ (b : Bool). if b then with_all t.tokens.edges (switches x.net piece) (λ switch. Some (out (graph_in x.net) piece e.choice)) else t.tokens.edges) (decision true parts)
            ∙ ap (λ (edges : List (Option ℕ)). with_all edges (switches x.net piece) (λ switch. Some (out (graph_in x.net) piece e.choice))) part.edges_are
            ∙ ap (λ (d : ℕ). with_all m.edges (switches x.net piece) (λ switch. Some d)) exit_is
        by false one =
            ap (λ (b : Bool). if b then with_all t.tokens.edges (switches x.net piece) (λ switch. Some (out (graph_in x.net) piece e.choice)) else t.tokens.edges) (decision false one)
            ∙ part.edges_are
            ∙ ap (λ (lines : List ℕ). with_all m.edges (range_with_len (suc (first_node x.net piece)) (length lines)) (λ switch. Some (exit x n facts piece m at))) (sym (no_switches x piece (kind_in x.net piece) one))

    values_end : given_values x t (first_operation x piece + i) piece op e.value ≡ replicate (length (all_operation_nodes x)) None
    values_end = same_list (given_values x t (first_operation x piece + i) piece op e.value) (replicate (length (all_operation_nodes x)) None) (λ k. by k (in_or_out k))
      where
        none_given : e.value ≡ None
        none_given = gives_none x.net.program.names x.net.input part.last.memory e op.work (map (operand_at part.values) op.operands) (let own = list x n facts piece m at in own.last i op is last) ok

        find : (all k : ℕ) → all ≤ operation_count x piece → IsOwn x piece k ⊎ ((j : ℕ) → j < all → first_operation x piece + j ≡ k → ⊥)
        find zero k few = inr (λ j j_low. absurd (omega (arith, j_low)))
        find (suc all) k few = step (same_or_not (first_operation x piece + all) k) (find all k (omega (arith, few)))
          where
            step : (first_operation x piece + all ≡ k) ⊎ (first_operation x piece + all ≡ k → ⊥) → IsOwn x piece k ⊎ ((j : ℕ) → j < all → first_operation x piece + j ≡ k → ⊥) → IsOwn x piece k ⊎ ((j : ℕ) → j < suc all → first_operation x piece + j ≡ k → ⊥)
            step (inl same) rest = inl (record { number = all; low = omega (arith, few); same = same })
            step (inr apart) (inl own) = inl own
            step (inr apart) (inr none) = inr (λ j j_low same. ⊎_elim (λ (h : j < all). none j h same) (λ (h : all ≤ j). let e : j ≡ all = omega (arith, h, j_low) in apart (ap (λ (y : ℕ). first_operation x piece + y) (sym e) ∙ same)) (low_or_high j all))

        in_or_out : (k : ℕ) → IsOwn x piece k ⊎ ((j : ℕ) → j < operation_count x piece → first_operation x piece + j ≡ k → ⊥)
        in_or_out k = find (operation_count x piece) k (omega arith)

        own_none : (j : ℕ) → j < operation_count x piece → slice_get (given_values x t (first_operation x piece + i) piece op e.value) (first_operation x piece + j) ≡ Some None
        own_none j j_low = choose (same_or_not j i) (some_or_none (takes_by op.operands j))
          where
            choose : (j ≡ i) ⊎ (j ≡ i → ⊥) → (0 < takes_by op.operands j) ⊎ (takes_by op.operands j ≡ 0) → slice_get (given_values x t (first_operation x piece + i) piece op e.value) (first_operation x piece + j) ≡ Some None
            choose (inl same) takes =
                subst (λ (k : ℕ). slice_get (given_values x t (first_operation x piece + i) piece op e.value) (first_operation x piece + k) ≡ Some None) (sym same)
                (value_self x n facts piece m at i t part op is e ok ∙ ap (λ (o : Option ℤ). Some o) none_given)
            choose (inr apart) (inl some) = value_taken x n facts piece m at i t part op is e ok j j_low apart some
            choose (inr apart) (inr none) =
                let before : j < i = less apart in
                value_other x n facts piece m at i t part op is e ok (first_operation x piece + j) (λ same. apart (sym (cancel_plus (first_operation x piece) i j same))) (not_taken x n facts piece m at i t part op is e ok j none)
                ∙ part.own j j_low
                ∙ ap (λ (o : Option ℤ). Some o)
                (sym (others_wait (operations_at x piece) (list x n facts piece m at) i op is part.values part.long (value_or_zero e.value) j apart none)
                ∙ all_taken (operations_at x piece) (list x n facts piece m at) i op is (part.values ++ value_or_zero e.value ∷ []) j last before)
              where
                less : (j ≡ i → ⊥) → j < i
                less apart = pick (low_or_high j i)
                  where
                    pick : (j < i) ⊎ (i ≤ j) → j < i
                    pick (inl h) = h
                    pick (inr h) = absurd (apart (omega (arith, h, j_low, last)))

        by : (k : ℕ) → IsOwn x piece k ⊎ ((j : ℕ) → j < operation_count x piece → first_operation x piece + j ≡ k → ⊥) → slice_get (given_values x t (first_operation x piece + i) piece op e.value) k ≡ slice_get (replicate (length (all_operation_nodes x)) None) k
        by k (inr apart) = value_outside x n facts piece m at i t part op is e ok k apart
        by k (inl own) =
            subst (λ (y : ℕ). slice_get (given_values x t (first_operation x piece + i) piece op e.value) y ≡ slice_get (replicate (length (all_operation_nodes x)) None) y) own.same
            (own_none own.number own.low ∙ sym (get_replicate (length (all_operation_nodes x)) (first_operation x piece + own.number) None (Rattle.op_board.proofs.AmidPieces.own_below x n facts piece m at own.number own.low)))

    gone_is : acted x.net m piece (pass_at x.net piece m.memory) ≡ gone x.net m piece (exit x n facts piece m at) e.memory
    gone_is =
        let gone_on : IsGone = is_gone in
        ap (acted x.net m piece) gone_on.made
        ∙ ap (λ (d : ℕ). gone x.net m piece d gone_on.memory) (sym gone_on.edge_is ∙ exit_is)
        ∙ ap (λ (memory : Memory). gone x.net m piece (exit x n facts piece m at) memory) (sym gone_on.memory_is)

    pub part_last : fired_as x t (first_operation x piece + i) (operation_node x (first_operation x piece + i)) ≡ between_pieces x (acted x.net m piece (pass_at x.net piece m.memory))
    part_last =
        whole_is x n facts piece m at i t part op is e ok
        ∙ same_marking
        (with_all t.tokens.lines (last_needed x piece i) (led_from x.net (out (graph_in x.net) piece e.choice))) (with_all m.lines (touched x.net piece) (led_from x.net (exit x n facts piece m at)))
        (if is_decision op.work then with_all t.tokens.edges (switches x.net piece) (λ switch. Some (out (graph_in x.net) piece e.choice)) else t.tokens.edges) (with_all m.edges (switches x.net piece) (λ switch. Some (exit x n facts piece m at)))
        e.memory e.memory
        t.tokens.trap m.trap
        (replaced t.passed (needed x piece i) (passed_after x t piece i)) (replicate x.net.routing.lines 0)
        (given_values x t (first_operation x piece + i) piece op e.value) (replicate (length (all_operation_nodes x)) None)
        lines_end edges_end refl (part.trap_is ∙ sym at.going) passed_end values_end
        ∙ ap (between_pieces x) (sym gone_is)

    pub text_last : line_as x t (operation_node x (first_operation x piece + i)) ≡ Rattle.net_board.specs.Tokens.text_of (pass_at x.net piece m.memory)
    text_last =
        let gone_on : IsGone = is_gone in
        line_is x n facts piece m at i t part op is
        ∙ ap text_written ok
        ∙ ap Rattle.net_board.specs.Tokens.written gone_on.text_is
        ∙ ap Rattle.net_board.specs.Tokens.text_of (sym gone_on.made)
