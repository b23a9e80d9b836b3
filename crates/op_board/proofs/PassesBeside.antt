-- The own order of a net of operations beside that of its net of statements, pass by pass.
use Rattle.std.proofs.Common.{◌≡◌, ◌≢◌, ◌<◌, ◌≤◌, ◌⊎◌, ℕ, zero, suc, ◌+◌, Bool, true, false, List, [], ◌∷◌, ◌++◌, length, Option, Some, refl, sym, ap, ◌∙◌, subst, inl, inr, arith}
use Rattle.std.specs.List.{range_with_len}
use Rattle.op_table.specs.declared.Trap.{Trap}
use Rattle.closed_walks.specs.Graph.{to}
use Rattle.f77_tree.specs.Execution.{Memory}
use Rattle.f77_tree.specs.Run.{Mark, Running, Ended, Trapped}
use Rattle.f77_tree.specs.Steps.{HoldsWords}
use Rattle.f77_tree.specs.declared.programs.ExecKind.{ExecKind}
use Rattle.cfg_build.specs.declared.pieces.PieceKind.{PieceKind}
use Rattle.cfg_build.specs.declared.pieces.PieceKind.TheVariants as kind
use Rattle.cfg_build.specs.Passes.{Passed, Along, Traps, Done, PassState, after_pass, line_at, out, pass, pass_of, passed_from, passes}
use Rattle.dep_routing.specs.Sound.{DoesTrap}
use Rattle.dep_routing.specs.Touches.{exec_kind}
use Rattle.firing.specs.Laws.{IsLawful}
use Rattle.firing.specs.Moves.{Moves, line_bytes}
use Rattle.firing.specs.Orders.{IsOrder, after, counted, serial_count, written}
use Rattle.firing.specs.declared.system.NodeName.TheVariants.{Op}
use Rattle.list_laws.proofs.Members.{Member-range}
use Rattle.net_board.specs.FlowFacts.{FlowFacts}
use Rattle.net_board.specs.NetLockstep.{IsOnWay}
use Rattle.net_board.specs.Nodes.{graph_in, kind_in, first_node, is_acting, node_count, nodes_of}
use Rattle.net_board.specs.OwnOrder.{firings_from, firings_of, own_passes}
use Rattle.net_board.specs.SoundNets.{CanCome, IsNet}
use Rattle.net_board.specs.Tokens.{Tokens, first_tokens, line_as, net_moves, pass_at, source_line, text_of}
use Rattle.net_board.proofs.ControlWays.{not_start}
use Rattle.net_board.proofs.FiringLaws.{net_laws}
use Rattle.net_board.proofs.OrderJoins.{after_join, order_join, serial_join, written_join}
use Rattle.net_board.proofs.PassFirings.{IsPartFired, part_fired}
use Rattle.net_board.proofs.PassLockstep.{IsPassLockstep, StandsBeside, pass_lockstep}
use Rattle.op_board.specs.OperationFacts.{OperationFacts}
use Rattle.op_board.specs.OperationNets.{OperationNet, first_operation, operation_count, operation_node, operation_node_count}
use Rattle.op_board.specs.OperationOrder.{fired_of, operation_firings, operation_firings_from, own_operation_passes, ran_at}
use Rattle.op_board.specs.OperationTokens as game
use Rattle.op_board.specs.OperationTokens.{OperationTokens, between_pieces, first_operation_tokens, operation_moves}
use Rattle.op_board.specs.SoundOperationNets.{IsOperationNet}
use Rattle.op_board.proofs.AmidPieces.{IsAtPiece}
use Rattle.op_board.proofs.PieceRuns.{IsAllRun, IsStopRun, run_all}
use Rattle.op_board.proofs.PieceNodes.{is_operation, operation_named}
use Rattle.op_board.proofs.PiecesBeside.{AreBeside, act_named, all_beside, at_piece, serial_some}

-- markings that can come lead to such
pub sound_after : {M : Type 0} (sound : M → Type 0) (s : Moves M) → IsLawful sound s → (m : M) (ks : List ℕ) → sound m → IsOrder s m ks → sound (after s m ks)
sound_after sound s lawful m [] comes order = comes
sound_after sound s lawful m (k ∷ ks) comes order = sound_after sound s lawful (s.fired m k) ks (lawful.stays_sound m k comes order.0) order.1

-- only a piece that acts traps
trapping_acts : (x : OperationNet) (piece : ℕ) (memory : Memory) (exec : ExecKind) (k : PieceKind) → DoesTrap (pass_of x.net.program x.net.input memory (out (graph_in x.net) piece) k exec) → is_acting k ≡ true
trapping_acts x piece memory exec kind.Act trap = refl
trapping_acts x piece memory exec kind.Branch trap = refl
trapping_acts x piece memory exec kind.Hold trap = refl
trapping_acts x piece memory exec kind.Join trap = absurd trap
trapping_acts x piece memory exec kind.End trap = absurd trap
trapping_acts x piece memory exec kind.Start trap = absurd trap
trapping_acts x piece memory exec kind.Pass trap = absurd trap

same_trap : (a b : Trap) → Traps a ≡ Traps b → a ≡ b
same_trap a b e = cc

module _ (x : OperationNet) (n : IsOperationNet x) (facts : OperationFacts x) (is_net : IsNet x.net) (ground : FlowFacts x.net is_net.tree) (first_comes : CanCome x.net (first_tokens x.net)) (words : (k : ℕ) → HoldsWords (passes x.net.program x.net.input k).memory) where
  -- how the marking stands beside that of the net of statements
  abbrev pub StandsAlike : OperationTokens → Tokens → PassState → Mark → Type 0
  StandsAlike t m y Running = t ≡ between_pieces x m
  StandsAlike t m y Ended = t ≡ between_pieces x m
  StandsAlike t m y (Trapped trap line) = (t.tokens.trap ≡ Some (trap, line)) × (t.tokens.memory ≡ y.memory)

  pub record LeadAlike (t : OperationTokens) (m : Tokens) (ks js : List ℕ) (y : PassState) : Type 0 where
    pub order : IsOrder (operation_moves x) t ks
    pub lines : written (operation_moves x) t ks ≡ written (net_moves x.net) m js
    pub serial : serial_count (net_moves x.net) js ≤ serial_count (operation_moves x) ks
    pub stands : StandsAlike (after (operation_moves x) t ks) (after (net_moves x.net) m js) y y.mark

  -- ---- a pass

  module _ (k : ℕ) (m : Tokens) (room : length m.edges ≡ length (nodes_of x.net)) (comes : CanCome x.net m) (running : (passes x.net.program x.net.input k).mark ≡ Running) (stands : StandsBeside x.net is_net ground m (passes x.net.program x.net.input k) Running) where
    abbrev state : PassState
    state = passes x.net.program x.net.input k

    abbrev piece : ℕ
    piece = to (graph_in x.net) (passes x.net.program x.net.input k).edge

    pub on_way : IsOnWay x.net k state.edge state.memory
    on_way = record { running = running; edge_is = refl; memory_is = refl; exists = stands.1; later = stands.0 }

    left_start : 0 ≢ piece
    left_start = not_start x.net is_net ground k state.edge state.memory on_way

    pub exists : piece < (graph_in x.net).nodes
    exists = ground.graph.heads state.edge stands.1

    same_memory : m.memory ≡ state.memory
    same_memory = let between = stands.2 in between.memory_is

    pub same_pass : pass_at x.net piece m.memory ≡ pass x.net.program x.net.input state.edge state.memory
    same_pass = ap (pass_at x.net piece) same_memory

    pub acting_at : is_acting (kind_in x.net piece) ≡ true → IsAtPiece x piece m
    acting_at acts = at_piece x n facts is_net ground k state.edge state.memory m on_way stands.2 comes (words k) acts

    orders : (DoesTrap (pass_at x.net piece state.memory) → ⊥) → (j : ℕ) → j ≤ node_count x.net piece → IsOrder (net_moves x.net) m (range_with_len (first_node x.net piece) j)
    orders goes j few = let part : IsPartFired x.net is_net ground state.edge piece stands.1 refl left_start m state.memory stands.2 room j = part_fired x.net is_net ground state.edge piece stands.1 refl left_start m state.memory stands.2 room j goes few in part.order

    pub runs : (DoesTrap (pass_at x.net piece state.memory) → ⊥) → (acts : is_acting (kind_in x.net piece) ≡ true) → (at : IsAtPiece x piece m) × IsAllRun x n facts piece m at
    runs goes acts = (acting_at acts, by (run_all x n facts piece m (acting_at acts)))
      where
        by : IsAllRun x n facts piece m (acting_at acts) ⊎ IsStopRun x n facts piece m (acting_at acts) → IsAllRun x n facts piece m (acting_at acts)
        by (inl run) = run
        by (inr stop) = absurd (goes (subst DoesTrap (sym (sym same_pass ∙ stop.made)) tt))

    beside_all : (DoesTrap (pass_at x.net piece state.memory) → ⊥) → AreBeside x n facts is_net ground piece m exists (operation_node_count x piece) (node_count x.net piece)
    beside_all goes = all_beside x n facts is_net ground piece m exists (orders goes) (runs goes)

    lead_all : (made : Passed) → (DoesTrap (pass_at x.net piece state.memory) → ⊥) → (y : PassState) → (y.mark ≡ Running) ⊎ (y.mark ≡ Ended) → LeadAlike (between_pieces x m) m (range_with_len (first_operation x piece) (operation_node_count x piece)) (range_with_len (first_node x.net piece) (node_count x.net piece)) y
    lead_all made goes y marked =
        let all : AreBeside x n facts is_net ground piece m exists (operation_node_count x piece) (node_count x.net piece) = beside_all goes in
        record { order = all.order; lines = all.lines; serial = all.serial; stands = by marked all.is }
      where
        by : (y.mark ≡ Running) ⊎ (y.mark ≡ Ended) → after (operation_moves x) (between_pieces x m) (range_with_len (first_operation x piece) (operation_node_count x piece)) ≡ between_pieces x (after (net_moves x.net) m (range_with_len (first_node x.net piece) (node_count x.net piece))) → StandsAlike (after (operation_moves x) (between_pieces x m) (range_with_len (first_operation x piece) (operation_node_count x piece))) (after (net_moves x.net) m (range_with_len (first_node x.net piece) (node_count x.net piece))) y y.mark
        by (inl is) same = subst (λ (mark : Mark). StandsAlike (after (operation_moves x) (between_pieces x m) (range_with_len (first_operation x piece) (operation_node_count x piece))) (after (net_moves x.net) m (range_with_len (first_node x.net piece) (node_count x.net piece))) y mark) (sym is) same
        by (inr is) same = subst (λ (mark : Mark). StandsAlike (after (operation_moves x) (between_pieces x m) (range_with_len (first_operation x piece) (operation_node_count x piece))) (after (net_moves x.net) m (range_with_len (first_node x.net piece) (node_count x.net piece))) y mark) (sym is) same

    -- ---- where it traps

    module _ (trap : Trap) (is : pass x.net.program x.net.input state.edge state.memory ≡ Traps trap) where
      pub acts : is_acting (kind_in x.net piece) ≡ true
      acts = trapping_acts x piece state.memory (exec_kind x.net.program piece) (kind_in x.net piece) (subst DoesTrap (sym is) tt)

      stop_of : IsAllRun x n facts piece m (acting_at acts) ⊎ IsStopRun x n facts piece m (acting_at acts) → IsStopRun x n facts piece m (acting_at acts)
      stop_of (inl run) = absurd (run.goes trap (same_pass ∙ is))
      stop_of (inr stop) = stop

      pub stop : IsStopRun x n facts piece m (acting_at acts)
      stop = stop_of (run_all x n facts piece m (acting_at acts))

      pub many : fired_of (operation_count x piece) (ran_at x piece state.memory) ≡ suc stop.number
      many = ap (λ (y : Memory). fired_of (operation_count x piece) (ran_at x piece y)) (sym same_memory) ∙ ap (fired_of (operation_count x piece)) stop.ran_is

      there_quiet : written (net_moves x.net) m (first_node x.net piece ∷ []) ≡ []
      there_quiet =
          ap (λ (o : Option (List ℕ)). line_bytes o ++ []) (ap (line_as x.net m) (act_named x n facts is_net ground piece m exists acts) ∙ ap text_of (same_pass ∙ is))

      serial_more : serial_count (net_moves x.net) (first_node x.net piece ∷ []) ≤ serial_count (operation_moves x) (range_with_len (first_operation x piece) (suc stop.number))
      serial_more =
          let inside = stop.inside in
          let named : operation_node x (first_operation x piece + stop.number) ≡ Op piece stop.number = operation_named x piece stop.number (Op piece stop.number) exists (is_operation x piece stop.number acts stop.inside) in
          let some = serial_some (operation_moves x) (range_with_len (first_operation x piece) (suc stop.number)) (first_operation x piece + stop.number) (Member-range (first_operation x piece) (suc stop.number) (first_operation x piece + stop.number) (omega arith) (omega arith)) (ap (game.serial_as x) named ∙ stop.needs) in
          at_most (counted ((net_moves x.net).serial (first_node x.net piece))) (serial_count (operation_moves x) (range_with_len (first_operation x piece) (suc stop.number))) (one ((net_moves x.net).serial (first_node x.net piece))) some
        where
          one : (b : Bool) → counted b ≤ 1
          one true = omega arith
          one false = omega arith

          at_most : (a b : ℕ) → a ≤ 1 → 1 ≤ b → a + 0 ≤ b
          at_most a b low high = omega (arith, low, high)

      lead_stop : LeadAlike (between_pieces x m) m (range_with_len (first_operation x piece) (suc stop.number)) (first_node x.net piece ∷ []) (after_pass state (line_at x.net.program state.edge) (Traps trap))
      lead_stop =
          let same : stop.trap ≡ trap = same_trap stop.trap trap (sym stop.made ∙ same_pass ∙ is) in
          record {
            order = stop.order;
            lines = stop.lines ∙ sym there_quiet;
            serial = serial_more;
            stands = (stop.trapped ∙ ap (λ (o : Trap). Some (o, source_line x.net piece)) same, stop.memory_is ∙ same_memory);
          }

      pub lead_traps : LeadAlike (between_pieces x m) m (operation_firings x piece state.memory (Traps trap)) (first_node x.net piece ∷ []) (after_pass state (line_at x.net.program state.edge) (Traps trap))
      lead_traps = subst (λ (i : ℕ). LeadAlike (between_pieces x m) m (range_with_len (first_operation x piece) i) (first_node x.net piece ∷ []) (after_pass state (line_at x.net.program state.edge) (Traps trap))) (sym many) lead_stop

    by_pass : (made : Passed) → pass x.net.program x.net.input state.edge state.memory ≡ made → LeadAlike (between_pieces x m) m (operation_firings x piece state.memory made) (firings_of x.net piece made) (after_pass state (line_at x.net.program state.edge) made)
    by_pass (Along d new text) is = lead_all (Along d new text) (λ does. subst DoesTrap is does) (after_pass state (line_at x.net.program state.edge) (Along d new text)) (inl running)
    by_pass (Traps trap) is = lead_traps trap is
    by_pass Done is = lead_all Done (λ does. subst DoesTrap is does) (after_pass state (line_at x.net.program state.edge) Done) (inr refl)

    pub lead_running : LeadAlike (between_pieces x m) m (operation_firings_from x state Running) (firings_from x.net state Running) (passed_from x.net.program x.net.input state Running)
    lead_running = by_pass (pass x.net.program x.net.input state.edge state.memory) refl

  lead_by : (k : ℕ) (t : OperationTokens) (m : Tokens) → length m.edges ≡ length (nodes_of x.net) → CanCome x.net m → (mark : Mark) → (passes x.net.program x.net.input k).mark ≡ mark → StandsBeside x.net is_net ground m (passes x.net.program x.net.input k) mark → StandsAlike t m (passes x.net.program x.net.input k) mark → LeadAlike t m (operation_firings_from x (passes x.net.program x.net.input k) mark) (firings_from x.net (passes x.net.program x.net.input k) mark) (passed_from x.net.program x.net.input (passes x.net.program x.net.input k) mark)
  lead_by k t m room comes Running is stands alike =
      subst (λ (u : OperationTokens). LeadAlike u m (operation_firings_from x (passes x.net.program x.net.input k) Running) (firings_from x.net (passes x.net.program x.net.input k) Running) (passed_from x.net.program x.net.input (passes x.net.program x.net.input k) Running)) (sym alike) (lead_running k m room comes is stands)
  lead_by k t m room comes Ended is stands alike = record { order = tt; lines = refl; serial = omega arith; stands = subst (λ (mark : Mark). StandsAlike t m (passes x.net.program x.net.input k) mark) (sym is) alike }
  lead_by k t m room comes (Trapped trap line) is stands alike = record { order = tt; lines = refl; serial = omega arith; stands = subst (λ (mark : Mark). StandsAlike t m (passes x.net.program x.net.input k) mark) (sym is) alike }

  -- ---- the run

  pub record ArePassesBeside (k : ℕ) : Type 0 where
    pub order : IsOrder (operation_moves x) (first_operation_tokens x) (own_operation_passes x k)
    pub lines : written (operation_moves x) (first_operation_tokens x) (own_operation_passes x k) ≡ written (net_moves x.net) (first_tokens x.net) (own_passes x.net k)
    pub serial : serial_count (net_moves x.net) (own_passes x.net k) ≤ serial_count (operation_moves x) (own_operation_passes x k)
    pub stands : StandsAlike (after (operation_moves x) (first_operation_tokens x) (own_operation_passes x k)) (after (net_moves x.net) (first_tokens x.net) (own_passes x.net k)) (passes x.net.program x.net.input k) (passes x.net.program x.net.input k).mark

  pub comes_after : (k : ℕ) → CanCome x.net (after (net_moves x.net) (first_tokens x.net) (own_passes x.net k))
  comes_after k =
      let lockstep : IsPassLockstep x.net is_net ground k = pass_lockstep x.net is_net ground k in
      sound_after (CanCome x.net) (net_moves x.net) (net_laws x.net) (first_tokens x.net) (own_passes x.net k) first_comes lockstep.order

  pub passes_beside : (k : ℕ) → ArePassesBeside k
  passes_beside zero = record { order = tt; lines = refl; serial = omega arith; stands = refl }
  passes_beside (suc k) = on (passes_beside k)
    where
      on : ArePassesBeside k → ArePassesBeside (suc k)
      on before =
          let s = operation_moves x in
          let u = net_moves x.net in
          let t = after s (first_operation_tokens x) (own_operation_passes x k) in
          let m = after u (first_tokens x.net) (own_passes x.net k) in
          let y = passes x.net.program x.net.input k in
          let ks = operation_firings_from x y y.mark in
          let js = firings_from x.net y y.mark in
          let lockstep : IsPassLockstep x.net is_net ground k = pass_lockstep x.net is_net ground k in
          let step : LeadAlike t m ks js (passes x.net.program x.net.input (suc k)) = lead_by k t m lockstep.room_is (comes_after k) y.mark refl lockstep.stands before.stands in
          let here = serial_join s (own_operation_passes x k) ks in
          let there = serial_join u (own_passes x.net k) js in
          let first = before.serial in
          let next = step.serial in
          record {
            order = order_join s (first_operation_tokens x) (own_operation_passes x k) ks before.order step.order;
            lines = written_join s (first_operation_tokens x) (own_operation_passes x k) ks
                ∙ ap (λ (ys : List ℕ). ys ++ written s t ks) before.lines
                ∙ ap (λ (ys : List ℕ). written u (first_tokens x.net) (own_passes x.net k) ++ ys) step.lines
                ∙ sym (written_join u (first_tokens x.net) (own_passes x.net k) js);
            serial = omega (arith, here, there, first, next);
            stands = subst (λ (z : Tokens). StandsAlike (after s (first_operation_tokens x) (own_operation_passes x (suc k))) z (passes x.net.program x.net.input (suc k)) (passes x.net.program x.net.input (suc k)).mark) (sym (after_join u (first_tokens x.net) (own_passes x.net k) js))
                (subst (λ (z : OperationTokens). StandsAlike z (after u m js) (passes x.net.program x.net.input (suc k)) (passes x.net.program x.net.input (suc k)).mark) (sym (after_join s (first_operation_tokens x) (own_operation_passes x k) ks)) step.stands);
          }
