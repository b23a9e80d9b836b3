-- The source's own order of the game with groups of loads: control stays in lockstep, and what is due can fire.
use Rattle.std.proofs.Common.{◌≡◌, ℕ, List, [], ◌∷◌, ◌++◌, Some, None, refl, sym, ◌∙◌, subst}
use Rattle.firing.specs.Control.{KeepsStep}
use Rattle.firing.specs.Moves.{CanFire}
use Rattle.firing.specs.Orders.{IsOrder, IsOver, after}
use Rattle.firing.specs.SourceOrder.{IsSourceOrder}
use Rattle.net_board.specs.declared.control.Control.{Control}
use Rattle.net_board.specs.ControlCourse.{first_control}
use Rattle.net_board.specs.FlowFacts.{GraphFacts}
use Rattle.net_board.specs.ProgramFacts.{ProgramFacts}
use Rattle.net_board.proofs.OrderJoins.{after_join, order_join}
use Rattle.op_board.specs.OperationCourse.{operation_course}
use Rattle.op_board.specs.OperationFacts.{OperationFacts}
use Rattle.op_board.specs.OperationLockstep.{IsInOperationLockstep}
use Rattle.op_board.specs.OperationNets.{OperationNet}
use Rattle.op_board.specs.OperationSimulation.{OperationsRestAtEnd}
use Rattle.op_board.specs.OperationTokens.{OperationTokens, first_operation_tokens, operation_moves}
use Rattle.op_board.specs.SoundOperationNets.{IsOperationNet, OperationsCanCome}
use Rattle.op_board.proofs.OperationFirings.{FiringFacts}
use Rattle.fork_board.specs.Chains.{ComeOnce}
use Rattle.fork_board.specs.ForkLockstep.{IsInForkLockstep}
use Rattle.fork_board.specs.ForkTokens.{ForkTokens, first_fork_tokens, fork_course, fork_moves}
use Rattle.fork_board.proofs.ForksEnd.{ends_too}
use Rattle.fork_board.proofs.ForkSimulations.{goes, moved_alike}
use Rattle.fork_board.proofs.OrdersForked.{FiresInBoth, GoInStep, fires_in_both, trap_same}
use Rattle.fork_board.proofs.OrdersInStep.{IsInStep}

pub fork_begins : (x : OperationNet) → IsInOperationLockstep x (first_operation_tokens x) (first_control x.net) → IsInForkLockstep x (first_fork_tokens x) (first_control x.net)
fork_begins x lockstep = record { order = []; legal = tt; is = refl; lockstep = lockstep }

module _ (ground : ProgramFacts) (x : OperationNet) (n : IsOperationNet x) (facts : FiringFacts x n.is_net.classes) (once : ComeOnce x) (comes : OperationsCanCome x (first_operation_tokens x)) (ordered : IsSourceOrder (OperationsCanCome x) (operation_moves x) (operation_course x) (IsInOperationLockstep x)) where
  -- the marking after an order, in both
  abbrev there : List ℕ → OperationTokens
  there ks = after (operation_moves x) (first_operation_tokens x) ks

  abbrev here : List ℕ → ForkTokens
  here ks = after (fork_moves x) (first_fork_tokens x) ks

  beside : (ks : List ℕ) → IsOrder (operation_moves x) (first_operation_tokens x) ks → IsInStep ground x n facts once (there ks) (here ks)
  beside ks legal = let g : GoInStep ground x n facts once (first_operation_tokens x) (first_fork_tokens x) ks = goes ground x n facts once comes ks legal in g.step

  -- the node that is due there
  due_fires : (ks : List ℕ) (c : Control) (k : ℕ) → IsOrder (operation_moves x) (first_operation_tokens x) ks → IsInOperationLockstep x (there ks) c → (fork_moves x).trap (here ks) ≡ None → (fork_course x).due (here ks) c ≡ Some k → CanFire (operation_moves x) (there ks) k
  due_fires ks c k legal lockstep going due =
      let step : IsInStep ground x n facts once (there ks) (here ks) = beside ks legal in
      ordered.fires (there ks) c k step.comes lockstep (sym (trap_same ground x n facts once (there ks) (here ks) step) ∙ going) due

  fork_kept : KeepsStep (OperationsCanCome x) (operation_moves x) (operation_course x) (IsInOperationLockstep x) → (ks : List ℕ) (c : Control) (k : ℕ) → IsOrder (operation_moves x) (first_operation_tokens x) ks → IsInOperationLockstep x (there ks) c → (fork_moves x).trap (here ks) ≡ None → (fork_course x).due (here ks) c ≡ Some k
      → (fork_moves x).trap ((fork_moves x).fired (here ks) k) ≡ None → IsInForkLockstep x ((fork_moves x).fired (here ks) k) ((fork_course x).moved (here ks) c)
  fork_kept steady ks c k legal lockstep going due on =
      let step : IsInStep ground x n facts once (there ks) (here ks) = beside ks legal in
      let can : CanFire (operation_moves x) (there ks) k = due_fires ks c k legal lockstep going due in
      let one : FiresInBoth ground x n facts once (there ks) (here ks) k = fires_in_both ground x n facts once (there ks) (here ks) k step can in
      let on_there : (operation_moves x).trap ((operation_moves x).fired (there ks) k) ≡ None = sym (trap_same ground x n facts once ((operation_moves x).fired (there ks) k) ((fork_moves x).fired (here ks) k) one.step) ∙ on in
      let kept : IsInOperationLockstep x ((operation_moves x).fired (there ks) k) ((operation_course x).moved (there ks) c) = steady.kept (there ks) c k step.comes lockstep can due on_there in
      record {
        order = ks ++ k ∷ [];
        legal = order_join (operation_moves x) (first_operation_tokens x) ks (k ∷ []) legal (can, tt);
        is = sym (after_join (fork_moves x) (first_fork_tokens x) ks (k ∷ []));
        lockstep = subst (λ (m : OperationTokens). IsInOperationLockstep x m ((fork_course x).moved (here ks) c)) (sym (after_join (operation_moves x) (first_operation_tokens x) ks (k ∷ [])))
            (subst (λ d. IsInOperationLockstep x ((operation_moves x).fired (there ks) k) d) (sym (moved_alike ground x n facts once comes (there ks) (here ks) c step)) kept);
      }

  pub fork_stays : KeepsStep (OperationsCanCome x) (operation_moves x) (operation_course x) (IsInOperationLockstep x) → (f : ForkTokens) (c : Control) (k : ℕ) → IsInForkLockstep x f c → (fork_moves x).trap f ≡ None → (fork_course x).due f c ≡ Some k → (fork_moves x).trap ((fork_moves x).fired f k) ≡ None
      → IsInForkLockstep x ((fork_moves x).fired f k) ((fork_course x).moved f c)
  fork_stays steady f c k s =
      subst (λ (o : ForkTokens). (fork_moves x).trap o ≡ None → (fork_course x).due o c ≡ Some k → (fork_moves x).trap ((fork_moves x).fired o k) ≡ None → IsInForkLockstep x ((fork_moves x).fired o k) ((fork_course x).moved o c)) (sym s.is)
      (λ going due on. fork_kept steady s.order c k s.legal s.lockstep going due on)

  pub fork_fires : (f : ForkTokens) (c : Control) (k : ℕ) → IsInForkLockstep x f c → (fork_moves x).trap f ≡ None → (fork_course x).due f c ≡ Some k → CanFire (fork_moves x) f k
  fork_fires f c k s =
      subst (λ (o : ForkTokens). (fork_moves x).trap o ≡ None → (fork_course x).due o c ≡ Some k → CanFire (fork_moves x) o k) (sym s.is)
      (λ going due.
      let step : IsInStep ground x n facts once (there s.order) (here s.order) = beside s.order s.legal in
      let one : FiresInBoth ground x n facts once (there s.order) (here s.order) k = fires_in_both ground x n facts once (there s.order) (here s.order) k step (due_fires s.order c k s.legal s.lockstep going due) in
      one.can_fire)

  -- where nothing is due, the net of operations is at its end
  pub fork_over : OperationFacts x → GraphFacts x.net → ((ks : List ℕ) → OperationsRestAtEnd x ks) → (f : ForkTokens) (c : Control) → IsInForkLockstep x f c → (fork_moves x).trap f ≡ None → (fork_course x).due f c ≡ None → IsOver (fork_moves x) f
  fork_over operations graph rests f c s =
      subst (λ (o : ForkTokens). (fork_moves x).trap o ≡ None → (fork_course x).due o c ≡ None → IsOver (fork_moves x) o) (sym s.is)
      (λ going due.
      let step : IsInStep ground x n facts once (there s.order) (here s.order) = beside s.order s.legal in
      let on : (operation_moves x).trap (there s.order) ≡ None = sym (trap_same ground x n facts once (there s.order) (here s.order) step) ∙ going in
      let over : IsOver (operation_moves x) (there s.order) = ordered.over (there s.order) c step.comes s.lockstep on due in
      ends_too ground x n facts once operations graph (there s.order) (here s.order) step (rests s.order (record { order = s.legal; over = over }) on) over)
