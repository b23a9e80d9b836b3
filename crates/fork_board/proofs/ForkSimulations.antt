-- Orders of nets of operations, and with them the source's own order, in the game with groups of loads.
use Rattle.std.proofs.Common.{◌≡◌, ◌≢◌, ◌≤◌, inl, inr, ⊎_elim, ℕ, ◌+◌, false, List, [], ◌∷◌, refl, sym, ap, ◌∙◌, subst}
use Rattle.firing.specs.Orders.{IsOrder, IsWhole, after, counted, serial_count}
use Rattle.firing.specs.Pacing.{Done, Failed, Going, IsBusy, Stage, StandsAt}
use Rattle.firing.specs.SourceOrder.{IsDueOrder}
use Rattle.net_board.specs.declared.control.Control.{Control}
use Rattle.net_board.specs.ControlCourse.{first_control}
use Rattle.net_board.specs.FlowFacts.{GraphFacts}
use Rattle.net_board.specs.Footprints.{Line, Left, Word, Count, StepOf, Taken, Trap}
use Rattle.net_board.specs.ProgramFacts.{ProgramFacts}
use Rattle.net_board.specs.ProgramStages.{program_stage}
use Rattle.op_board.specs.OperationCourse.{control_after, operation_course}
use Rattle.op_board.specs.OperationFacts.{OperationFacts}
use Rattle.op_board.specs.OperationFootprints.{OperationPart, Token, Passed, Given, part_at}
use Rattle.op_board.specs.OperationNets.{OperationNet}
use Rattle.op_board.specs.OperationOrder.{own_operations}
use Rattle.op_board.specs.OperationSimulation.{AreDueInTurn, OperationsRestAtEnd, OperationsSimulate}
use Rattle.op_board.specs.OperationTokens.{OperationTokens, first_operation_tokens, operation_moves}
use Rattle.op_board.specs.SoundOperationNets.{IsOperationNet, OperationsCanCome}
use Rattle.op_board.proofs.OperationFirings.{FiringFacts}
use Rattle.fork_board.specs.Chains.{ComeOnce}
use Rattle.fork_board.specs.ForkFootprints.{tells_line}
use Rattle.fork_board.specs.ForkSimulation.{AreForksDue, ForksSimulate, OrdersAreForked}
use Rattle.fork_board.specs.ForkTokens.{ForkTokens, first_fork_tokens, fork_course, fork_moves}
use Rattle.fork_board.proofs.ForkFirings.{aligned, feet}
use Rattle.fork_board.proofs.ForkNodes.{rest_back}
use Rattle.fork_board.proofs.ForksEnd.{ends_too}
use Rattle.fork_board.proofs.OrdersForked.{FiresInBoth, GoInStep, begin_in_step, fires_in_both, go_in_step, trap_same}
use Rattle.fork_board.proofs.OrdersInStep.{IsInStep}

module _ (ground : ProgramFacts) (x : OperationNet) (n : IsOperationNet x) (facts : FiringFacts x n.is_net.classes) (once : ComeOnce x) (comes : OperationsCanCome x (first_operation_tokens x)) where
  abbrev Step : OperationTokens → ForkTokens → Type 0
  Step m f = IsInStep ground x n facts once m f

  -- beside the lines the two are the same
  beside_lines : (m : OperationTokens) (f : ForkTokens) → Step m f → aligned ground x n facts m f.operations ≡ m
  beside_lines m f step = (feet ground x n facts).equal (aligned ground x n facts m f.operations) m each
    where
      rest : (part : OperationPart) → tells_line part ≡ false → part_at f.operations part ≡ part_at m part
      rest part not = rest_back f.operations m part not (step.rest part not)

      each : (part : OperationPart) → part_at (aligned ground x n facts m f.operations) part ≡ part_at m part
      each (Token (Line line)) = refl
      each (Token (Left left)) = rest (Token (Left left)) refl
      each (Token (Word word)) = rest (Token (Word word)) refl
      each (Token (Count loop_no)) = rest (Token (Count loop_no)) refl
      each (Token (StepOf loop_no)) = rest (Token (StepOf loop_no)) refl
      each (Token Taken) = rest (Token Taken) refl
      each (Token Trap) = rest (Token Trap) refl
      each (Passed line) = refl
      each (Given j) = rest (Given j) refl

  pub goes : (ks : List ℕ) → IsOrder (operation_moves x) (first_operation_tokens x) ks → GoInStep ground x n facts once (first_operation_tokens x) (first_fork_tokens x) ks
  goes ks order = go_in_step ground x n facts once (first_operation_tokens x) (first_fork_tokens x) ks (begin_in_step ground x n facts once (first_operation_tokens x) comes) order

  pub forked : OrdersAreForked x
  forked ks order =
      let g : GoInStep ground x n facts once (first_operation_tokens x) (first_fork_tokens x) ks = goes ks order in
      let m : OperationTokens = after (operation_moves x) (first_operation_tokens x) ks in
      let f : ForkTokens = after (fork_moves x) (first_fork_tokens x) ks in
      record {
        order = g.order;
        text = g.text;
        trap = trap_same ground x n facts once m f g.step;
        memory = ap (λ (o : OperationTokens). o.tokens.memory) (beside_lines m f g.step);
      }

  -- ---- due in turn

  pub moved_alike : (m : OperationTokens) (f : ForkTokens) (c : Control) → Step m f → (fork_course x).moved f c ≡ (operation_course x).moved m c
  moved_alike m f c step = ap (λ (o : OperationTokens). control_after x o c) (beside_lines m f step)

  due_too : (m : OperationTokens) (f : ForkTokens) (c : Control) (ks : List ℕ) → Step m f → IsOrder (operation_moves x) m ks → IsDueOrder (operation_moves x) (operation_course x) m c ks → IsDueOrder (fork_moves x) (fork_course x) f c ks
  due_too m f c [] step order due = tt
  due_too m f c (k ∷ ks) step order due =
      let one : FiresInBoth ground x n facts once m f k = fires_in_both ground x n facts once m f k step order.0 in (
        due.0,
        subst (λ d. IsDueOrder (fork_moves x) (fork_course x) ((fork_moves x).fired f k) d ks) (sym (moved_alike m f c step))
            (due_too ((operation_moves x).fired m k) ((fork_moves x).fired f k) ((operation_course x).moved m c) ks one.step order.1 due.1),
      )

  pub forks_due : OperationsSimulate x → ((steps : ℕ) → AreDueInTurn x steps) → (steps : ℕ) → AreForksDue x steps
  forks_due simulation due steps = due_too (first_operation_tokens x) (first_fork_tokens x) (first_control x.net) (own_operations x steps) (begin_in_step ground x n facts once (first_operation_tokens x) comes) (simulation.order steps) (due steps)

  -- ---- in lockstep

  same_serial : (ks : List ℕ) → serial_count (operation_moves x) ks ≡ serial_count (fork_moves x) ks
  same_serial [] = refl
  same_serial (k ∷ ks) = ap (λ count. counted ((operation_moves x).serial k) + count) (same_serial ks)

  pub forks_simulate : OperationFacts x → GraphFacts x.net → OperationsSimulate x → ((ks : List ℕ) → OperationsRestAtEnd x ks) → ForksSimulate x
  forks_simulate operations graph simulation rests = record {
    order = λ steps. (own steps).order;
    stands = λ steps. stands steps (program_stage x.net steps) (simulation.stands steps);
    lines = λ steps. (own steps).text ∙ simulation.lines steps;
    busy = busy;
  }
    where
      own : (steps : ℕ) → GoInStep ground x n facts once (first_operation_tokens x) (first_fork_tokens x) (own_operations x steps)
      own steps = goes (own_operations x steps) (simulation.order steps)

      stands : (steps : ℕ) (stage : Stage) → StandsAt (operation_moves x) (after (operation_moves x) (first_operation_tokens x) (own_operations x steps)) stage → StandsAt (fork_moves x) (after (fork_moves x) (first_fork_tokens x) (own_operations x steps)) stage
      stands steps Going going = trap_same ground x n facts once (after (operation_moves x) (first_operation_tokens x) (own_operations x steps)) (after (fork_moves x) (first_fork_tokens x) (own_operations x steps)) (own steps).step ∙ going
      stands steps Done done =
          let whole : IsWhole (operation_moves x) (first_operation_tokens x) (own_operations x steps) = record { order = simulation.order steps; over = done.1 } in (
            trap_same ground x n facts once (after (operation_moves x) (first_operation_tokens x) (own_operations x steps)) (after (fork_moves x) (first_fork_tokens x) (own_operations x steps)) (own steps).step ∙ done.0,
            ends_too ground x n facts once operations graph (after (operation_moves x) (first_operation_tokens x) (own_operations x steps)) (after (fork_moves x) (first_fork_tokens x) (own_operations x steps)) (own steps).step (rests (own_operations x steps) whole done.0) done.1,
          )
      stands steps (Failed trap) failed = trap_same ground x n facts once (after (operation_moves x) (first_operation_tokens x) (own_operations x steps)) (after (fork_moves x) (first_fork_tokens x) (own_operations x steps)) (own steps).step ∙ failed

      busy : (count : ℕ) → IsBusy (fork_moves x) (own_operations x) (program_stage x.net) count
      busy count =
          let b : IsBusy (operation_moves x) (own_operations x) (program_stage x.net) count = simulation.busy count in
          record {
            at = b.at;
            enough = ⊎_elim (λ (stops : program_stage x.net b.at ≢ Going). inl stops) (λ (some : count ≤ serial_count (operation_moves x) (own_operations x b.at)). inr (subst (λ k. count ≤ k) (same_serial (own_operations x b.at)) some)) b.enough;
          }
