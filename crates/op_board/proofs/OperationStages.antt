-- The own order of a net of operations beside the steps of its program.
use Rattle.std.proofs.Common.{◌≡◌, ◌≢◌, ◌≤◌, ◌⊎◌, ℕ, zero, suc, List, replicate, length, None, slice_get, slice_index, refl, sym, ap, ◌∙◌, subst, inl, inr, arith}
use Rattle.f77_tree.specs.Run.{Mark, Running, Ended, Trapped, source}
use Rattle.f77_tree.specs.Steps.{HoldsWords}
use Rattle.cfg_build.specs.Chains.{StandsAt, passes_of}
use Rattle.cfg_build.specs.Passes.{passes}
use Rattle.firing.specs.Laws.{IsLawful}
use Rattle.firing.specs.Orders.{IsOver, serial_count}
use Rattle.firing.specs.Pacing as pacing
use Rattle.firing.specs.Pacing.{Going, Done, EndsWith, FollowsSource, IsBusy}
use Rattle.firing.proofs.Pacing.{follows}
use Rattle.net_board.specs.FlowFacts.{FlowFacts}
use Rattle.net_board.specs.NetLockstep.{IsBetween}
use Rattle.net_board.specs.OwnOrder.{own_order}
use Rattle.net_board.specs.ProgramStages.{program_stage, program_text, stage_of}
use Rattle.net_board.specs.Simulation.{HasMemoryAfter, Simulates, marking_after}
use Rattle.net_board.specs.SoundNets.{CanCome, IsNet}
use Rattle.net_board.specs.Tokens.{first_tokens, net_moves}
use Rattle.net_board.proofs.PassLockstep.{IsPassLockstep, StandsBeside, pass_lockstep}
use Rattle.net_board.proofs.RestLaws.{all_back}
use Rattle.op_board.specs.OperationFacts.{OperationFacts}
use Rattle.op_board.specs.OperationNets.{OperationNet, all_operation_nodes}
use Rattle.op_board.specs.OperationOrder.{own_operations}
use Rattle.op_board.specs.OperationSimulation.{AreAtEnd, HasProgramMemory, HasTokensAfter, OperationsRestAtEnd, OperationsSimulate, operations_after}
use Rattle.op_board.specs.OperationTokens.{OperationTokens, first_operation_tokens, operation_moves, value_of}
use Rattle.op_board.specs.SoundOperationNets.{IsOperationNet, OperationsCanCome}
use Rattle.op_board.proofs.OperationRest.{operations_rest}
use Rattle.op_board.proofs.PassesBeside.{ArePassesBeside, StandsAlike, passes_beside}
use Rattle.op_board.proofs.PieceRuns.{trap_or_none}

done_ended : (mark : Mark) → stage_of mark ≡ Done → mark ≡ Ended
done_ended Running is = absurd cc
done_ended Ended is = refl
done_ended (Trapped trap line) is = absurd cc

nothing_passed : (n k : ℕ) → slice_index (replicate n 0) k ≡ 0
nothing_passed zero k = refl
nothing_passed (suc n) zero = refl
nothing_passed (suc n) (suc k) = nothing_passed n k

nothing_given : (n k : ℕ) → value_of (slice_get (replicate n None) k) ≡ None
nothing_given zero k = refl
nothing_given (suc n) zero = refl
nothing_given (suc n) (suc k) = nothing_given n k

module _ (x : OperationNet) (n : IsOperationNet x) (facts : OperationFacts x) (is_net : IsNet x.net) (ground : FlowFacts x.net is_net.tree) (first_comes : CanCome x.net (first_tokens x.net)) (words : (k : ℕ) → HoldsWords (passes x.net.program x.net.input k).memory) (along : (k : ℕ) → StandsAt x.net.program (source x.net.program x.net.input k) (passes x.net.program x.net.input (passes_of x.net.program x.net.input k))) where
  -- the markings of both nets after so many steps
  pub record AreAlike (steps : ℕ) (mark : Mark) : Type 0 where
    pub there : StandsBeside x.net is_net ground (marking_after x.net steps) (passes x.net.program x.net.input (passes_of x.net.program x.net.input steps)) mark
    pub here : StandsAlike x n facts is_net ground first_comes words (operations_after x steps) (marking_after x.net steps) (passes x.net.program x.net.input (passes_of x.net.program x.net.input steps)) mark

  pub are_alike : (steps : ℕ) (mark : Mark) → (source x.net.program x.net.input steps).mark ≡ mark → AreAlike steps mark
  are_alike steps mark is =
      let k = passes_of x.net.program x.net.input steps in
      let y = passes x.net.program x.net.input k in
      let lockstep : IsPassLockstep x.net is_net ground k = pass_lockstep x.net is_net ground k in
      let beside : ArePassesBeside x n facts is_net ground first_comes words k = passes_beside x n facts is_net ground first_comes words k in
      let stand : StandsAt x.net.program (source x.net.program x.net.input steps) y = along steps in
      record {
        there = subst (λ (z : Mark). StandsBeside x.net is_net ground (marking_after x.net steps) y z) (stand.mark_is ∙ is) lockstep.stands;
        here = subst (λ (z : Mark). StandsAlike x n facts is_net ground first_comes words (operations_after x steps) (marking_after x.net steps) y z) (stand.mark_is ∙ is) beside.stands;
      }

  stands_so : (steps : ℕ) (mark : Mark) → AreAlike steps mark → pacing.StandsAt (operation_moves x) (operations_after x steps) (stage_of mark)
  stands_so steps Running are = let between = are.there.2 in ap (λ (t : OperationTokens). t.tokens.trap) are.here ∙ between.trap_is
  stands_so steps Ended are =
      let between = are.there in
      (ap (λ (t : OperationTokens). t.tokens.trap) are.here ∙ between.trap_is, subst (λ (t : OperationTokens). IsOver (operation_moves x) t) (sym are.here) (operations_rest x facts is_net ground (marking_after x.net steps) (passes x.net.program x.net.input (passes_of x.net.program x.net.input steps)).memory are.there))
  stands_so steps (Trapped trap line) are = are.here.0

  busy_so : Simulates x.net → (count : ℕ) → IsBusy (operation_moves x) (own_operations x) (program_stage x.net) count
  busy_so simulates count =
      let busy : IsBusy (net_moves x.net) (own_order x.net) (program_stage x.net) count = simulates.busy count in
      let beside : ArePassesBeside x n facts is_net ground first_comes words (passes_of x.net.program x.net.input busy.at) = passes_beside x n facts is_net ground first_comes words (passes_of x.net.program x.net.input busy.at) in
      record { at = busy.at; enough = by busy.at busy.enough beside.serial }
    where
      by : (at : ℕ) → (program_stage x.net at ≢ Going) ⊎ (count ≤ serial_count (net_moves x.net) (own_order x.net at)) → serial_count (net_moves x.net) (own_order x.net at) ≤ serial_count (operation_moves x) (own_operations x at) → (program_stage x.net at ≢ Going) ⊎ (count ≤ serial_count (operation_moves x) (own_operations x at))
      by at (inl stopped) more = inl stopped
      by at (inr enough) more = inr (omega (arith, enough, more))

  pub operations_simulate : Simulates x.net → OperationsSimulate x
  operations_simulate simulates = record {
    order = λ steps. let beside : ArePassesBeside x n facts is_net ground first_comes words (passes_of x.net.program x.net.input steps) = passes_beside x n facts is_net ground first_comes words (passes_of x.net.program x.net.input steps) in beside.order;
    stands = λ steps. stands_so steps (source x.net.program x.net.input steps).mark (are_alike steps (source x.net.program x.net.input steps).mark refl);
    lines = λ steps. let beside : ArePassesBeside x n facts is_net ground first_comes words (passes_of x.net.program x.net.input steps) = passes_beside x n facts is_net ground first_comes words (passes_of x.net.program x.net.input steps) in beside.lines ∙ simulates.lines steps;
    busy = busy_so simulates;
  }

  tokens_by : (steps : ℕ) (mark : Mark) → AreAlike steps mark → HasTokensAfter x steps
  tokens_by steps Running are none = are.here
  tokens_by steps Ended are none = are.here
  tokens_by steps (Trapped trap line) are none = absurd (trap_or_none (trap, line) (sym are.here.0 ∙ none))

  pub tokens_after : (steps : ℕ) → HasTokensAfter x steps
  tokens_after steps = tokens_by steps (source x.net.program x.net.input steps).mark (are_alike steps (source x.net.program x.net.input steps).mark refl)

  memory_by : (steps : ℕ) (mark : Mark) → AreAlike steps mark → HasMemoryAfter x.net steps → HasProgramMemory x steps
  memory_by steps Running are has = ap (λ (t : OperationTokens). t.tokens.memory) are.here ∙ has
  memory_by steps Ended are has = ap (λ (t : OperationTokens). t.tokens.memory) are.here ∙ has
  memory_by steps (Trapped trap line) are has =
      let stand : StandsAt x.net.program (source x.net.program x.net.input steps) (passes x.net.program x.net.input (passes_of x.net.program x.net.input steps)) = along steps in
      are.here.1 ∙ stand.memory_is

  pub program_memory : (steps : ℕ) → HasMemoryAfter x.net steps → HasProgramMemory x steps
  program_memory steps has = memory_by steps (source x.net.program x.net.input steps).mark (are_alike steps (source x.net.program x.net.input steps).mark refl) has

  -- ---- the end

  ended : (steps : ℕ) → AreAlike steps Ended → AreAtEnd x (operations_after x steps)
  ended steps are =
      let m = marking_after x.net steps in
      let memory = (passes x.net.program x.net.input (passes_of x.net.program x.net.input steps)).memory in
      let between : IsBetween x.net is_net.tree m 0 memory = are.there in
      subst (λ (t : OperationTokens). AreAtEnd x t) (sym are.here) (record {
        tokens = record { lines = all_back x.net is_net ground m memory between; edges = between.edges };
        passed = λ line low. nothing_passed x.net.routing.lines line;
        values = λ k. nothing_given (length (all_operation_nodes x)) k;
      })

  pub operations_end : Simulates x.net → IsLawful (OperationsCanCome x) (operation_moves x) → OperationsCanCome x (first_operation_tokens x) → (ks : List ℕ) → OperationsRestAtEnd x ks
  operations_end simulates lawful begins ks whole none =
      let s = operation_moves x in
      let all : FollowsSource s (first_operation_tokens x) (program_text x.net) (program_stage x.net) (own_operations x) = follows (OperationsCanCome x) s lawful (first_operation_tokens x) (program_text x.net) (program_stage x.net) (own_operations x) begins (operations_simulate simulates) in
      let end : EndsWith s (first_operation_tokens x) (program_text x.net) (program_stage x.net) (own_operations x) ks = all.rests ks whole.order whole.over none in
      subst (λ (t : OperationTokens). AreAtEnd x t) (sym end.is) (ended end.steps (are_alike end.steps Ended (done_ended (source x.net.program x.net.input end.steps).mark end.done)))
