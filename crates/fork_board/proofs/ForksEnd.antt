-- Where a net of operations has come to its end, nothing is ready in the game with groups of loads either.
use Rattle.std.proofs.Common.{◌≡◌, ◌<◌, ◌≤◌, ◌⊎◌, inl, inr, ⊎_elim, ℕ, ◌+◌, true, false, List, [], ◌∷◌, length, Some, None, is_some, slice_get, refl, sym, ap, ◌∙◌, subst, arith}
use Rattle.std.proofs.lemmas.Bool.{cases_Bool}
use Rattle.closed_walks.specs.Graph.{to}
use Rattle.dep_routing.specs.Touches.{exec_kind}
use Rattle.firing.specs.Moves.{CanFire}
use Rattle.firing.specs.Orders.{IsOver}
use Rattle.firing.specs.declared.system.NodeName.TheVariants.{Op}
use Rattle.list_laws.specs.Member.{Member}
use Rattle.net_board.specs.FlowFacts.{GraphFacts}
use Rattle.net_board.specs.Footprints.{Line, Left, Word, Count, StepOf, Taken, Trap}
use Rattle.net_board.specs.Nodes.{graph_in, is_acting, kind_in}
use Rattle.net_board.specs.ProgramFacts.{ProgramFacts}
use Rattle.net_board.specs.Tokens.{edge_of, joined}
use Rattle.net_board.proofs.ListPlaces.{all_pass, same_or_not}
use Rattle.op_board.specs.Operations.{Operand, Known, From}
use Rattle.op_board.specs.OperationFacts.{NeedsLine, OperationFacts, TakesValue}
use Rattle.op_board.specs.OperationFootprints.{OperationPart, Token, Passed, Given, part_at}
use Rattle.op_board.specs.OperationLists.{takes_by}
use Rattle.op_board.specs.OperationNets.{OperationNet, first_operation, operation_at, operation_node}
use Rattle.op_board.specs.OperationSimulation.{AreAtEnd}
use Rattle.op_board.specs.OperationTokens.{OperationTokens, is_given, operation_moves, passed_by, ready_as, value_at}
use Rattle.op_board.specs.SoundOperationNets.{IsOperationNet}
use Rattle.op_board.proofs.OperationFirings.{FiringFacts}
use Rattle.op_board.proofs.OperationNumbers.{IsOperationNamed, operation_named}
use Rattle.op_board.proofs.ValueTaking.{below_or_not, takes_one_other}
use Rattle.fork_board.specs.Chains.{ComeOnce}
use Rattle.fork_board.specs.LoadGroups.{Site, Spot, number_at, piece_at, spot, spot_behind}
use Rattle.fork_board.specs.ForkTokens.{ForkTokens, fork_moves, fork_ready_as, is_load_node}
use Rattle.fork_board.specs.ForkFootprints.{Stand, fork_part_at, tells_line}
use Rattle.fork_board.proofs.ForkFirings.{both_ways, feet}
use Rattle.fork_board.proofs.ForkNodes.{IsLoadNamed, load_named, other_ready, rest_back}
use Rattle.fork_board.proofs.ForksApart.{IsFirst, IsReadyLoad, acting_with, first_load, opens, ready_load}
use Rattle.fork_board.proofs.ForksFooted.{get_none}
use Rattle.fork_board.proofs.LinesInStep.{IsAmid, IsSame}
use Rattle.fork_board.proofs.LoadSpots.{IsLoadIn, IsNumberAt, load_is, number_is}
use Rattle.fork_board.proofs.OrdersInStep.{IsInStep}

-- an operand that takes the value of an operation
taken_member : (operands : List Operand) (number : ℕ) → 0 < takes_by operands number → Member operands (From number)
taken_member [] number takes = absurd (omega (arith, takes))
taken_member (Known z ∷ operands) number takes = inr (taken_member operands number takes)
taken_member (From other ∷ operands) number takes = ⊎_elim
    (λ (same : other ≡ number). inl (ap From same))
    (λ differ. inr (taken_member operands number (subst (λ k. 0 < k) (takes_one_other other number (takes_by operands number) differ) takes)))
    (same_or_not other number)

module _ (ground : ProgramFacts) (x : OperationNet) (n : IsOperationNet x) (facts : FiringFacts x n.is_net.classes) (once : ComeOnce x) (operations : OperationFacts x) (graph : GraphFacts x.net) where
  -- edge 0 leads to the start, which has no operations
  none_at_start : {P : Type 0} (line i : ℕ) (s : Spot) → s.edge ≡ 0 → IsNumberAt x line s i → P
  none_at_start line i s edge at =
      let two = graph.shape.two_edges in
      let back : to (graph_in x.net) 0 ≡ 0 = (graph.shape.comes_to_start 0 (omega (arith, two))).1 refl in
      let piece : piece_at x s ≡ 0 = ap (to (graph_in x.net)) edge ∙ back in
      let some = graph.heads 0 (omega (arith, two)) in
      let acts : is_acting (kind_in x.net (piece_at x s)) ≡ true = acting_with x.net.program.names (kind_in x.net (piece_at x s)) (exec_kind x.net.program (piece_at x s)) i at.below in
      let starts : is_acting (kind_in x.net 0) ≡ false = ap is_acting ((graph.shape.start 0 (omega (arith, some))).1 refl) in
      both_ways (is_acting (kind_in x.net 0)) (ap (λ p. is_acting (kind_in x.net p)) (sym piece) ∙ acts) starts

  module _ (m : OperationTokens) (f : ForkTokens) (step : IsInStep ground x n facts once m f) (end : AreAtEnd x m) where
    same_some : {A : Type 0} (a b : A) → Some a ≡ Some b → a ≡ b
    same_some a b e = cc

    line_same : (line : ℕ) → line < x.net.routing.lines → IsSame x line (slice_get m.tokens.lines line) (slice_get m.passed line) (fork_part_at f (Stand line))
    line_same line low = ⊎_elim (λ (same : IsSame x line (slice_get m.tokens.lines line) (slice_get m.passed line) (fork_part_at f (Stand line))). same) (λ amid. none amid.0 amid.1) (step.lines line low)
      where
        none : {P : Type 0} (load : Site) → IsAmid x line (slice_get m.tokens.lines line) (slice_get m.passed line) (fork_part_at f (Stand line)) load → P
        none load a =
            let t : Spot = spot_behind a.count x line a.s in
            let r : IsLoadIn x (piece_at x t) (number_at x line t) load = load_is x (piece_at x t) (number_at x line t) load a.next in
            let back : t.edge ≡ 0 = same_some t.edge 0 (sym (ap joined a.other_edge) ∙ end.tokens.lines line low) in
            none_at_start line r.number t back (number_is x line t r.number r.at)

    -- there the two are the same
    all_same : f.operations ≡ m
    all_same = (feet ground x n facts).equal f.operations m each
      where
        rest : (part : OperationPart) → tells_line part ≡ false → part_at f.operations part ≡ part_at m part
        rest part not = rest_back f.operations m part not (step.rest part not)

        past : {A : Type 0} (xs ys : List A) (line : ℕ) → length xs ≡ x.net.routing.lines → length ys ≡ x.net.routing.lines → x.net.routing.lines ≤ line → slice_get xs line ≡ slice_get ys line
        past xs ys line first second high = get_none xs line (omega (arith, first, high)) ∙ sym (get_none ys line (omega (arith, second, high)))

        each : (part : OperationPart) → part_at f.operations part ≡ part_at m part
        each (Token (Line line)) = ⊎_elim (λ (low : line < x.net.routing.lines). (line_same line low).edge) (λ high. past f.operations.tokens.lines m.tokens.lines line step.forks.is_marking.tokens.lines step.comes.is_marking.tokens.lines high) (below_or_not line x.net.routing.lines)
        each (Token (Left left)) = rest (Token (Left left)) refl
        each (Token (Word word)) = rest (Token (Word word)) refl
        each (Token (Count loop_no)) = rest (Token (Count loop_no)) refl
        each (Token (StepOf loop_no)) = rest (Token (StepOf loop_no)) refl
        each (Token Taken) = rest (Token Taken) refl
        each (Token Trap) = rest (Token Trap) refl
        each (Passed line) = ⊎_elim (λ (low : line < x.net.routing.lines). (line_same line low).passed) (λ high. past f.operations.passed m.passed line step.forks.is_marking.passed step.comes.is_marking.passed high) (below_or_not line x.net.routing.lines)
        each (Given j) = rest (Given j) refl

    no_load : (k : ℕ) (r : IsLoadNamed x (operation_node x k)) → CanFire (fork_moves x) f k → ⊥
    no_load k r can = by (operations.waits r.piece r.number named.exists named.fits.2)
      where
        named : IsOperationNamed x (Op r.piece r.number)
        named = subst (λ name. IsOperationNamed x name) r.is (operation_named x k can.node)

        ready : fork_ready_as x f k (Op r.piece r.number) ≡ true
        ready = sym (ap (fork_ready_as x f k) r.is) ∙ can.ready

        by : NeedsLine x r.piece r.number ⊎ TakesValue (operation_at x r.piece r.number) → ⊥
        by (inl waits) =
            let first : IsFirst ground x n.is_net facts.touched f waits.line = first_load ground x n.is_net facts.touched f r.piece r.number waits.line (opens ground x n.is_net facts.touched f k r.piece r.number waits.line named r.loads ready waits.needs) in
            let stands : edge_of f.operations.tokens waits.line ≡ Some 0 = ap joined ((line_same waits.line waits.exists).edge) ∙ end.tokens.lines waits.line waits.exists in
            none_at_start waits.line first.number (spot first.edge (passed_by f.operations waits.line)) (same_some first.edge 0 (sym first.stands ∙ stands)) first.at
        by (inr takes) =
            let l : IsReadyLoad x f k r.piece r.number = ready_load x f k r.piece r.number r.loads ready in
            let given : is_some (value_at f.operations (first_operation x r.piece + takes.number)) ≡ true = all_pass (is_given x f.operations r.piece) (operation_at x r.piece r.number).operands (From takes.number) l.given (taken_member (operation_at x r.piece r.number).operands takes.number takes.takes) in
            let none : value_at f.operations (first_operation x r.piece + takes.number) ≡ None = ap (λ (o : OperationTokens). value_at o (first_operation x r.piece + takes.number)) all_same ∙ end.values (first_operation x r.piece + takes.number) in
            let e : true ≡ false = sym given ∙ ap is_some none in
            absurd cc

    pub ends_too : IsOver (operation_moves x) m → IsOver (fork_moves x) f
    ends_too over k can = ⊎_elim
        (λ (loads : is_load_node x (operation_node x k) ≡ true). no_load k (load_named x (operation_node x k) loads) can)
        (λ not_load. over k (record {
          going = ap (λ (o : OperationTokens). o.tokens.trap) (sym all_same) ∙ can.going;
          node = can.node;
          ready = ap (λ (o : OperationTokens). ready_as x o k (operation_node x k)) (sym all_same) ∙ sym (other_ready x f k (operation_node x k) not_load) ∙ can.ready;
        }))
        (cases_Bool (is_load_node x (operation_node x k)))
