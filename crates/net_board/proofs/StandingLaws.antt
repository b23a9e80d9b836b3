-- Where token lines stand after the firings of so many steps, and where no node may fire any more.
use Rattle.std.proofs.Common.{◌≡◌, ℕ, List, refl, sym, ◌∙◌, subst}
use Rattle.f77_tree.specs.Execution.{Memory}
use Rattle.f77_tree.specs.Run.{Mark, Running, Ended, Trapped, source}
use Rattle.cfg_build.specs.Chains.{StandsAt, passes_of}
use Rattle.cfg_build.specs.Passes.{passes}
use Rattle.firing.specs.Pacing.{Done, EndsWith, FollowsSource}
use Rattle.firing.proofs.Pacing.{follows}
use Rattle.net_board.specs.SoundNets.{CanCome, IsNet}
use Rattle.net_board.specs.FlowFacts.{FlowFacts}
use Rattle.net_board.specs.NetLockstep.{IsBetween}
use Rattle.net_board.specs.Nodes.{NetOf}
use Rattle.net_board.specs.OwnOrder.{own_order}
use Rattle.net_board.specs.Simulation.{IsAtEnd, RestsAtEnd, StandsAfter, marking_after}
use Rattle.net_board.specs.ProgramStages.{RunFacts, stage_of, program_stage, program_text}
use Rattle.net_board.specs.Tokens.{Tokens, net_moves, first_tokens}
use Rattle.net_board.proofs.FiringLaws.{net_laws}
use Rattle.net_board.proofs.PassLockstep.{StandsBeside, IsPassLockstep, pass_lockstep}
use Rattle.net_board.proofs.RestLaws.{all_back}
use Rattle.net_board.proofs.StepLockstep.{own_simulated}

done_ended : (mark : Mark) → stage_of mark ≡ Done → mark ≡ Ended
done_ended Running is = absurd cc
done_ended Ended is = refl
done_ended (Trapped trap line) is = absurd cc

module _ (net : NetOf) (is_net : IsNet net) (ground : FlowFacts net is_net.tree) (run : RunFacts net is_net.tree) where
  beside : (steps : ℕ) (mark : Mark) → (source net.program net.input steps).mark ≡ mark → StandsBeside net is_net ground (marking_after net steps) (passes net.program net.input (passes_of net.program net.input steps)) mark
  beside steps mark is =
      let k = passes_of net.program net.input steps in
      let x = passes net.program net.input k in
      let lockstep : IsPassLockstep net is_net ground k = pass_lockstep net is_net ground k in
      let stand : StandsAt net.program (source net.program net.input steps) x = run.steps steps in
      subst (λ (y : Mark). StandsBeside net is_net ground (marking_after net steps) x y) (stand.mark_is ∙ is) lockstep.stands

  pub stands_after : (steps : ℕ) → StandsAfter net is_net.tree steps
  stands_after steps running =
      let x = passes net.program net.input (passes_of net.program net.input steps) in
      let stand : StandsAt net.program (source net.program net.input steps) x = run.steps steps in
      subst (λ (y : Memory). IsBetween net is_net.tree (marking_after net steps) x.edge y) stand.memory_is (beside steps Running running).2

  ended : (steps : ℕ) → (source net.program net.input steps).mark ≡ Ended → IsAtEnd net (marking_after net steps)
  ended steps is =
      let x = passes net.program net.input (passes_of net.program net.input steps) in
      let between : IsBetween net is_net.tree (marking_after net steps) 0 x.memory = beside steps Ended is in
      record { lines = all_back net is_net ground (marking_after net steps) x.memory between; edges = between.edges }

  pub rests_at_end : CanCome net (first_tokens net) → (ks : List ℕ) → RestsAtEnd net ks
  rests_at_end sound ks whole none =
      let s = net_moves net in
      let all : FollowsSource s (first_tokens net) (program_text net) (program_stage net) (own_order net) = follows (CanCome net) s (net_laws net) (first_tokens net) (program_text net) (program_stage net) (own_order net) sound (own_simulated net is_net ground run) in
      let end : EndsWith s (first_tokens net) (program_text net) (program_stage net) (own_order net) ks = all.rests ks whole.order whole.over none in
      subst (λ (m : Tokens). IsAtEnd net m) (sym end.is) (ended end.steps (done_ended (source net.program net.input end.steps).mark end.done))
