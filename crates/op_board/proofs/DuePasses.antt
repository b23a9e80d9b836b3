-- Each firing of the own order of a net of operations is due, pass by pass.
use Rattle.std.proofs.Common.{◌≡◌, ◌<◌, ◌⊎◌, ⊎_elim, ℕ, zero, suc, ◌&&◌, ◌==◌, not, Bool, true, false, if◌then◌else◌, List, [], length, refl, sym, ap, ◌∙◌, subst, inl, inr, arith, eqb-true}
use Rattle.std.proofs.lemmas.Bool.{and_parts, cases_Bool}
use Rattle.std.specs.List.{range_with_len}
use Rattle.op_table.specs.declared.Trap.{Trap}
use Rattle.closed_walks.specs.Graph.{to}
use Rattle.f77_tree.specs.Execution.{Memory}
use Rattle.f77_tree.specs.Run.{Mark, Running, Ended, Trapped}
use Rattle.f77_tree.specs.Steps.{HoldsWords}
use Rattle.cfg_build.specs.declared.pieces.PieceKind.{PieceKind}
use Rattle.cfg_build.specs.declared.pieces.PieceKind.TheVariants as kind
use Rattle.cfg_build.specs.Joined.{is_end}
use Rattle.cfg_build.specs.Passes.{Passed, Along, Traps, Done, PassState, after_pass, line_at, out, pass, pass_of, passed_from, passes}
use Rattle.dep_routing.specs.Sound.{DoesTrap}
use Rattle.dep_routing.specs.Touches.{exec_kind}
use Rattle.firing.specs.Orders.{after}
use Rattle.firing.specs.SourceOrder.{IsDueOrder}
use Rattle.firing.specs.declared.system.NodeName.{NodeName}
use Rattle.firing.specs.declared.system.NodeName.TheVariants.{Act}
use Rattle.net_board.specs.declared.control.Control.{Control}
use Rattle.net_board.specs.ControlCourse.{arrived, edge_or, first_control, is_idle, passed, passed_times}
use Rattle.net_board.specs.FlowFacts.{FlowFacts}
use Rattle.net_board.specs.Nodes.{graph_in, kind_in, is_acting, node_count, nodes_at, nodes_of}
use Rattle.net_board.specs.OwnOrder.{own_passes}
use Rattle.net_board.specs.SoundNets.{CanCome, IsNet}
use Rattle.net_board.specs.Tokens.{Tokens, first_tokens, net_moves, pass_at}
use Rattle.net_board.specs.WithinPiece.{leaving}
use Rattle.net_board.proofs.ArrivalLaws.{arrival_past, arrived_busy}
use Rattle.net_board.proofs.ControlWays.{idle_pass}
use Rattle.net_board.proofs.DueLockstep.{place_after}
use Rattle.net_board.proofs.ListPrefixes.{below_length}
use Rattle.net_board.proofs.PassLockstep.{IsPassLockstep, StandsBeside, pass_lockstep}
use Rattle.op_board.specs.OperationCourse.{operation_course}
use Rattle.op_board.specs.OperationFacts.{OperationFacts}
use Rattle.op_board.specs.OperationLists.{IsOperationList}
use Rattle.op_board.specs.OperationNets.{OperationNet, first_operation, operation_count, operation_node_count, operations_at}
use Rattle.op_board.specs.OperationOrder.{operation_firings, operation_firings_from, own_operation_passes}
use Rattle.op_board.specs.OperationTokens.{OperationTokens, between_pieces, first_operation_tokens, operation_moves}
use Rattle.op_board.specs.SoundOperationNets.{IsOperationNet}
use Rattle.op_board.proofs.DueOperations.{all_placed, due_join, idle_told, leaves_after, place_join, so_many_due, stays_told}
use Rattle.op_board.proofs.NeededLines.{IsDistance, distance}
use Rattle.op_board.proofs.OperationControl.{at_place, idle_way}
use Rattle.op_board.proofs.PassesBeside.{ArePassesBeside, StandsAlike, acting_at, acts, comes_after, many, passes_beside, runs, same_pass, stop}
use Rattle.op_board.proofs.PieceNodes.{acting_count, nodes_same}
use Rattle.op_board.proofs.PieceRuns.{IsStopRun, decided_end}
use Rattle.op_board.proofs.PiecesBeside.{act_first}

some_nodes : (n : ℕ) (b : Bool) → ((n == 0) && not b) ≡ false → b ≡ false → 0 < n
some_nodes zero true busy not_end = absurd cc
some_nodes zero false busy not_end = let clash : true ≡ false = busy in absurd cc
some_nodes (suc n) b busy not_end = omega arith

not_running_ended : Ended ≡ Running → ⊥
not_running_ended e = cc

not_running_trapped : (trap : Trap) (line : ℕ) → Trapped trap line ≡ Running → ⊥
not_running_trapped trap line e = cc

module _ (x : OperationNet) (n : IsOperationNet x) (facts : OperationFacts x) (is_net : IsNet x.net) (ground : FlowFacts x.net is_net.tree) (first_comes : CanCome x.net (first_tokens x.net)) (words : (k : ℕ) → HoldsWords (passes x.net.program x.net.input k).memory) where
  -- these firings are due, and lead to where the run goes on
  pub record AreDueBeside (t : OperationTokens) (c : Control) (ks : List ℕ) (y : PassState) : Type 0 where
    pub due : IsDueOrder (operation_moves x) (operation_course x) t c ks
    pub place : y.mark ≡ Running → place_after (operation_moves x) (operation_course x) t c ks ≡ arrived x.net y.edge

  some_here : (piece : ℕ) → piece < (graph_in x.net).nodes → 0 < node_count x.net piece → 0 < operation_node_count x piece
  some_here piece exists some = by (cases_Bool (is_acting (kind_in x.net piece)))
    where
      by : (is_acting (kind_in x.net piece) ≡ true) ⊎ (is_acting (kind_in x.net piece) ≡ false) → 0 < operation_node_count x piece
      by (inl acting) =
          let list : IsOperationList (operations_at x piece) = facts.lists piece exists acting in
          let count = acting_count x piece acting in
          let one = list.some in
          omega (arith, count, some, one)
      by (inr idle) = subst (λ (names : List NodeName). 0 < length names) (sym (nodes_same x piece idle)) some

  -- a piece without nodes doesn't act
  none_here : (piece : ℕ) → node_count x.net piece ≡ 0 → operation_node_count x piece ≡ 0
  none_here piece none = by (cases_Bool (is_acting (kind_in x.net piece)))
    where
      by : (is_acting (kind_in x.net piece) ≡ true) ⊎ (is_acting (kind_in x.net piece) ≡ false) → operation_node_count x piece ≡ 0
      by (inl acting) = let some = below_length (nodes_at x.net piece) 0 (Act piece) (act_first x.net piece (kind_in x.net piece) acting) in absurd (omega (arith, some, none))
      by (inr idle) = ap (λ (names : List NodeName). length names) (nodes_same x piece idle) ∙ none

  module _ (k : ℕ) (m : Tokens) (room : length m.edges ≡ length (nodes_of x.net)) (comes : CanCome x.net m) (running : (passes x.net.program x.net.input k).mark ≡ Running) (stands : StandsBeside x.net is_net ground m (passes x.net.program x.net.input k) Running) where
    abbrev state : PassState
    state = passes x.net.program x.net.input k

    abbrev piece : ℕ
    piece = to (graph_in x.net) (passes x.net.program x.net.input k).edge

    exists : piece < (graph_in x.net).nodes
    exists = ground.graph.heads state.edge stands.1

    -- past an idle piece
    due_idle : is_idle x.net piece ≡ true → AreDueBeside (between_pieces x m) (arrived x.net state.edge) (operation_firings_from x state Running) (passed_from x.net.program x.net.input state Running)
    due_idle idle =
        let d = out (graph_in x.net) piece 0 in
        let along : pass x.net.program x.net.input state.edge state.memory ≡ Along d state.memory [] = idle_pass x.net piece state.memory (exec_kind x.net.program piece) (kind_in x.net piece) idle in
        let none : node_count x.net piece ≡ 0 = eqb-true (node_count x.net piece) 0 ((and_parts (node_count x.net piece == 0) (not (is_end (kind_in x.net piece))) idle).0) in
        let nothing : operation_firings x piece state.memory (pass x.net.program x.net.input state.edge state.memory) ≡ [] = ap (operation_firings x piece state.memory) along ∙ ap (range_with_len (first_operation x piece)) (none_here piece none) in
        let step : passed x.net state.edge ≡ d = ap (λ (b : Bool). if b then out (graph_in x.net) (to (graph_in x.net) state.edge) 0 else state.edge) idle in
        let same : arrived x.net state.edge ≡ arrived x.net d = ap (λ (e : ℕ). record { piece = to (graph_in x.net) e; fired = 0; leaves = 0 }) (sym (arrival_past x.net ground.graph state.edge stands.1) ∙ ap (passed_times x.net (graph_in x.net).nodes) step) in
        let next : after_pass state (line_at x.net.program state.edge) (pass x.net.program x.net.input state.edge state.memory) ≡ after_pass state (line_at x.net.program state.edge) (Along d state.memory []) = ap (after_pass state (line_at x.net.program state.edge)) along in
        record {
          due = subst (IsDueOrder (operation_moves x) (operation_course x) (between_pieces x m) (arrived x.net state.edge)) (sym nothing) tt;
          place = λ runs_on. ap (place_after (operation_moves x) (operation_course x) (between_pieces x m) (arrived x.net state.edge)) nothing ∙ same ∙ ap (λ (y : PassState). arrived x.net y.edge) (sym next);
        }

    module _ (busy : is_idle x.net piece ≡ false) where
      here : arrived x.net state.edge ≡ at_place piece 0 0
      here = ap (λ (e : ℕ). at_place (to (graph_in x.net) e) 0 0) (arrived_busy x.net ground.graph (graph_in x.net).nodes state.edge busy)

      -- the edge that is told in the end
      told : (d : ℕ) (new : Memory) (text : List ℕ) → pass x.net.program x.net.input state.edge state.memory ≡ Along d new text → 0 < operation_node_count x piece → leaves_after x piece (between_pieces x m) 0 (operation_node_count x piece) ≡ d
      told d new text is some = by (cases_Bool (is_acting (kind_in x.net piece)))
        where
          by : (is_acting (kind_in x.net piece) ≡ true) ⊎ (is_acting (kind_in x.net piece) ≡ false) → leaves_after x piece (between_pieces x m) 0 (operation_node_count x piece) ≡ d
          by (inl acting) =
              let goes : DoesTrap (pass_at x.net piece state.memory) → ⊥ = λ does. subst DoesTrap is does in
              let run = runs x n facts is_net ground first_comes words k m room comes running stands goes acting in
              let list : IsOperationList (operations_at x piece) = facts.lists piece exists acting in
              let count = acting_count x piece acting in
              let first = below_length (nodes_at x.net piece) 0 (Act piece) (act_first x.net piece (kind_in x.net piece) acting) in
              let r : IsDistance (operation_count x piece) (operation_node_count x piece) = distance (operation_count x piece) (operation_node_count x piece) (omega (arith, count, first)) in
              stays_told x piece (between_pieces x m) 0 d list.some
              (λ i last. decided_end x n facts piece m run.0 run.1 i last ∙ ap (leaving x.net piece) (same_pass x n facts is_net ground first_comes words k m room comes running stands ∙ is))
              r.more (operation_node_count x piece) (sym r.is)
          by (inr idle) =
              idle_told x piece (between_pieces x m) 0 idle (operation_node_count x piece) some
              ∙ sym (idle_way x piece state.memory (exec_kind x.net.program piece) (kind_in x.net piece) idle)
              ∙ ap (edge_or (out (graph_in x.net) piece 0)) is

      no_end : (d : ℕ) (new : Memory) (text : List ℕ) (kind : PieceKind) → is_end kind ≡ true → pass_of x.net.program x.net.input state.memory (out (graph_in x.net) piece) kind (exec_kind x.net.program piece) ≡ Along d new text → ⊥
      no_end d new text kind.End h is = let clash : Done ≡ Along d new text = is in cc
      no_end d new text kind.Start h is = cc
      no_end d new text kind.Act h is = cc
      no_end d new text kind.Pass h is = cc
      no_end d new text kind.Branch h is = cc
      no_end d new text kind.Join h is = cc
      no_end d new text kind.Hold h is = cc

      due_busy : (made : Passed) → pass x.net.program x.net.input state.edge state.memory ≡ made → AreDueBeside (between_pieces x m) (at_place piece 0 0) (operation_firings x piece state.memory made) (after_pass state (line_at x.net.program state.edge) made)
      due_busy (Along d new text) is =
          let not_end : is_end (kind_in x.net piece) ≡ false = ⊎_elim
          (λ (h : is_end (kind_in x.net piece) ≡ true). absurd (no_end d new text (kind_in x.net piece) h is))
          (λ (h : is_end (kind_in x.net piece) ≡ false). h)
          (cases_Bool (is_end (kind_in x.net piece)))
          in
          let some = some_here piece exists (some_nodes (node_count x.net piece) (is_end (kind_in x.net piece)) busy not_end) in
          record {
            due = so_many_due x piece (between_pieces x m) 0 (operation_node_count x piece) (omega arith);
            place = λ runs_on. all_placed x piece (between_pieces x m) 0 (operation_node_count x piece) refl some not_end ∙ ap (arrived x.net) (told d new text is some);
          }
      due_busy (Traps trap) is =
          let own : IsStopRun x n facts piece m (acting_at x n facts is_net ground first_comes words k m room comes running stands (acts x n facts is_net ground first_comes words k m room comes running stands trap is)) = stop x n facts is_net ground first_comes words k m room comes running stands trap is in
          let acting = acts x n facts is_net ground first_comes words k m room comes running stands trap is in
          let count = acting_count x piece acting in
          let first = below_length (nodes_at x.net piece) 0 (Act piece) (act_first x.net piece (kind_in x.net piece) acting) in
          let inside = own.inside in
          record {
            due = subst (λ (i : ℕ). IsDueOrder (operation_moves x) (operation_course x) (between_pieces x m) (at_place piece 0 0) (range_with_len (first_operation x piece) i)) (sym (many x n facts is_net ground first_comes words k m room comes running stands trap is)) (so_many_due x piece (between_pieces x m) 0 (suc own.number) (omega (arith, count, first, inside)));
            place = λ runs_on. absurd (not_running_trapped trap (line_at x.net.program state.edge) runs_on);
          }
      due_busy Done is = record { due = so_many_due x piece (between_pieces x m) 0 (operation_node_count x piece) (omega arith); place = λ runs_on. absurd (not_running_ended runs_on) }

    due_running : AreDueBeside (between_pieces x m) (arrived x.net state.edge) (operation_firings_from x state Running) (passed_from x.net.program x.net.input state Running)
    due_running = by (cases_Bool (is_idle x.net piece))
      where
        by : (is_idle x.net piece ≡ true) ⊎ (is_idle x.net piece ≡ false) → AreDueBeside (between_pieces x m) (arrived x.net state.edge) (operation_firings_from x state Running) (passed_from x.net.program x.net.input state Running)
        by (inl idle) = due_idle idle
        by (inr busy) = subst (λ (c : Control). AreDueBeside (between_pieces x m) c (operation_firings_from x state Running) (passed_from x.net.program x.net.input state Running)) (sym (here busy)) (due_busy busy (pass x.net.program x.net.input state.edge state.memory) refl)

  -- ---- the run

  pub record AreDueSoFar (k : ℕ) : Type 0 where
    pub due : IsDueOrder (operation_moves x) (operation_course x) (first_operation_tokens x) (first_control x.net) (own_operation_passes x k)
    pub place : (passes x.net.program x.net.input k).mark ≡ Running → place_after (operation_moves x) (operation_course x) (first_operation_tokens x) (first_control x.net) (own_operation_passes x k) ≡ arrived x.net (passes x.net.program x.net.input k).edge

  due_on : (k : ℕ) (t : OperationTokens) (c : Control) (m : Tokens) → length m.edges ≡ length (nodes_of x.net) → CanCome x.net m → ((passes x.net.program x.net.input k).mark ≡ Running → c ≡ arrived x.net (passes x.net.program x.net.input k).edge) → (mark : Mark) → (passes x.net.program x.net.input k).mark ≡ mark → StandsBeside x.net is_net ground m (passes x.net.program x.net.input k) mark → StandsAlike x n facts is_net ground first_comes words t m (passes x.net.program x.net.input k) mark → AreDueBeside t c (operation_firings_from x (passes x.net.program x.net.input k) mark) (passed_from x.net.program x.net.input (passes x.net.program x.net.input k) mark)
  due_on k t c m room comes at Running is stands alike =
      let y = passes x.net.program x.net.input k in
      subst (λ (u : OperationTokens). AreDueBeside u c (operation_firings_from x y Running) (passed_from x.net.program x.net.input y Running)) (sym alike)
      (subst (λ (d : Control). AreDueBeside (between_pieces x m) d (operation_firings_from x y Running) (passed_from x.net.program x.net.input y Running)) (sym (at is)) (due_running k m room comes is stands))
  due_on k t c m room comes at Ended is stands alike = record { due = tt; place = λ runs_on. absurd (not_running_ended (sym is ∙ runs_on)) }
  due_on k t c m room comes at (Trapped trap line) is stands alike = record { due = tt; place = λ runs_on. absurd (not_running_trapped trap line (sym is ∙ runs_on)) }

  pub due_so_far : (k : ℕ) → AreDueSoFar k
  due_so_far zero = record { due = tt; place = λ runs_on. refl }
  due_so_far (suc k) = on (due_so_far k)
    where
      on : AreDueSoFar k → AreDueSoFar (suc k)
      on before =
          let s = operation_moves x in
          let y = passes x.net.program x.net.input k in
          let t = after s (first_operation_tokens x) (own_operation_passes x k) in
          let m = after (net_moves x.net) (first_tokens x.net) (own_passes x.net k) in
          let c = place_after s (operation_course x) (first_operation_tokens x) (first_control x.net) (own_operation_passes x k) in
          let ks = operation_firings_from x y y.mark in
          let lockstep : IsPassLockstep x.net is_net ground k = pass_lockstep x.net is_net ground k in
          let beside : ArePassesBeside x n facts is_net ground first_comes words k = passes_beside x n facts is_net ground first_comes words k in
          let step : AreDueBeside t c ks (passes x.net.program x.net.input (suc k)) = due_on k t c m lockstep.room_is (comes_after x n facts is_net ground first_comes words k) before.place y.mark refl lockstep.stands beside.stands in
          record {
            due = due_join s (operation_course x) (first_operation_tokens x) (first_control x.net) (own_operation_passes x k) ks before.due step.due;
            place = λ runs_on. place_join s (operation_course x) (first_operation_tokens x) (first_control x.net) (own_operation_passes x k) ks ∙ step.place runs_on;
          }
