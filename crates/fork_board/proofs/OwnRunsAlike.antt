-- In the source's own order the game with groups of loads fires the nodes that a net of operations fires.
use Rattle.std.proofs.Common.{◌≡◌, ◌<◌, ◌++◌, ℕ, zero, suc, List, Option, Some, None, refl, sym, ap, ◌∙◌, subst, arith}
use Rattle.firing.specs.declared.playing.PlayEnd.{PlayEnd}
use Rattle.firing.specs.declared.playing.PlayEnd.TheVariants.{Rest, Trapped, Limit, WriteFault}
use Rattle.firing.specs.declared.playing.Show.{Show}
use Rattle.firing.specs.declared.playing.Show.TheVariants.{Output, Nodes, Nothing}
use Rattle.firing.specs.Control.{KeepsStep, due_node, steered}
use Rattle.firing.specs.Moves.{CanFire, line_bytes}
use Rattle.firing.specs.Orders.{IsOver}
use Rattle.firing.specs.Play.{EndsBy, node_at, node_of, played, shown, shown_at, shown_of}
use Rattle.firing.specs.Runs.{HasOrder, IsOwnEnd}
use Rattle.firing.specs.SourceOrder.{IsSourceOrder}
use Rattle.firing.proofs.ControlLemmas.{moves_on}
use Rattle.firing.proofs.RunLemmas.{order_of}
use Rattle.net_board.specs.declared.control.Control.{Control}
use Rattle.net_board.specs.ControlCourse.{first_control}
use Rattle.net_board.specs.FlowFacts.{GraphFacts}
use Rattle.net_board.specs.ProgramFacts.{ProgramFacts}
use Rattle.op_board.specs.OperationCourse.{control_after, due_operation, operation_course}
use Rattle.op_board.specs.OperationFacts.{OperationFacts}
use Rattle.op_board.specs.OperationLockstep.{IsInOperationLockstep}
use Rattle.op_board.specs.OperationNets.{OperationNet}
use Rattle.op_board.specs.OperationSimulation.{AreAtEnd, OperationsRestAtEnd}
use Rattle.op_board.specs.OperationTokens.{OperationTokens, first_operation_tokens, operation_moves}
use Rattle.op_board.specs.SoundOperationNets.{IsOperationNet, OperationsCanCome}
use Rattle.op_board.proofs.OperationFirings.{FiringFacts}
use Rattle.fork_board.specs.Chains.{ComeOnce}
use Rattle.fork_board.specs.ForkTokens.{ForkTokens, fork_course, fork_moves}
use Rattle.fork_board.specs.OwnRuns.{OwnRunsAlike, fork_start, fork_way, operation_start, operation_way}
use Rattle.fork_board.proofs.ForksEnd.{ends_too}
use Rattle.fork_board.proofs.ForkSimulations.{moved_alike}
use Rattle.fork_board.proofs.OrdersForked.{FiresInBoth, begin_in_step, fires_in_both, trap_same}
use Rattle.fork_board.proofs.OrdersInStep.{IsInStep}

module _ (ground : ProgramFacts) (x : OperationNet) (n : IsOperationNet x) (facts : FiringFacts x n.is_net.classes) (once : ComeOnce x) (comes : OperationsCanCome x (first_operation_tokens x)) (steady : KeepsStep (OperationsCanCome x) (operation_moves x) (operation_course x) (IsInOperationLockstep x)) (ordered : IsSourceOrder (OperationsCanCome x) (operation_moves x) (operation_course x) (IsInOperationLockstep x)) where
  -- the marking after so many firings, and the node that fires then, in both
  abbrev there : ℕ → OperationTokens
  there count = (played (operation_way x) (operation_start x) count).marking

  abbrev here : ℕ → ForkTokens
  here count = (played (fork_way x) (fork_start x) count).marking

  abbrev node_there : ℕ → ℕ
  node_there count = node_at (operation_way x) (operation_start x) count

  abbrev node_here : ℕ → ℕ
  node_here count = node_at (fork_way x) (fork_start x) count

  abbrev fires : ℕ → Type 0
  fires count = CanFire (operation_moves x) (there count) (node_there count)

  -- Control stands at one place, the markings are in step, and the same was shown.
  record AreBeside (count : ℕ) : Type 0 where
    place : Control
    control : (played (operation_way x) (operation_start x) count).control ≡ Some place
    fork_control : (played (fork_way x) (fork_start x) count).control ≡ Some place
    step : IsInStep ground x n facts once (there count) (here count)
    lockstep : (there count).tokens.trap ≡ None → IsInOperationLockstep x (there count) place
    text : (show : Show) → shown (fork_way x) show (fork_start x) count ≡ shown (operation_way x) show (operation_start x) count

  -- the same node is due in both, and can fire
  record FireNext (count : ℕ) (place : Control) : Type 0 where
    node : ℕ
    due : due_operation x place ≡ Some node
    is_there : node_there count ≡ node
    is_here : node_here count ≡ node
    can_fire : CanFire (operation_moves x) (there count) node
    both : FiresInBoth ground x n facts once (there count) (here count) node

  -- where a node can fire, one is due
  due_next : (count : ℕ) (b : AreBeside count) → fires count → FireNext count b.place
  due_next count b can = by (due_operation x b.place) refl
    where
      at_there : node_there count ≡ node_of (due_operation x b.place)
      at_there = ap (λ c. node_of (due_node (operation_moves x) (operation_course x) (there count) c)) b.control

      at_here : node_here count ≡ node_of (due_operation x b.place)
      at_here = ap (λ c. node_of (due_node (fork_moves x) (fork_course x) (here count) c)) b.fork_control

      by : (due : Option ℕ) → due_operation x b.place ≡ due → FireNext count b.place
      by None none = absurd (ordered.over (there count) b.place b.step.comes (b.lockstep can.going) can.going none (node_there count) can)
      by (Some k) some =
          let is : node_there count ≡ k = at_there ∙ ap node_of some in
          let can_fire : CanFire (operation_moves x) (there count) k = subst (λ j. CanFire (operation_moves x) (there count) j) is can in
          record {
            node = k;
            due = some;
            is_there = is;
            is_here = at_here ∙ ap node_of some;
            can_fire = can_fire;
            both = fires_in_both ground x n facts once (there count) (here count) k b.step can_fire;
          }

  -- of one firing the same is shown
  shown_alike : (show : Show) (m : OperationTokens) (f : ForkTokens) (k : ℕ) → (fork_moves x).line f k ≡ (operation_moves x).line m k → shown_of (fork_moves x) show f k ≡ shown_of (operation_moves x) show m k
  shown_alike Output m f k text = ap line_bytes text
  shown_alike Nodes m f k text = refl
  shown_alike Nothing m f k text = refl

  next_beside : (count : ℕ) → AreBeside count → fires count → AreBeside (suc count)
  next_beside count b can =
      let next : FireNext count b.place = due_next count b can in
      let k = next.node in
      let m = there count in
      let f = here count in
      record {
        place = control_after x m b.place;
        control = ap (λ c. steered (operation_course x) m c (node_there count)) b.control ∙ ap (λ j. steered (operation_course x) m (Some b.place) j) next.is_there ∙ moves_on (operation_course x) m b.place k next.due;
        fork_control = ap (λ c. steered (fork_course x) f c (node_here count)) b.fork_control ∙ ap (λ j. steered (fork_course x) f (Some b.place) j) next.is_here ∙ moves_on (fork_course x) f b.place k next.due
            ∙ ap Some (moved_alike ground x n facts once comes m f b.place b.step);
        step = subst (λ j. IsInStep ground x n facts once ((operation_moves x).fired m j) ((fork_moves x).fired f (node_here count))) (sym next.is_there)
            (subst (λ j. IsInStep ground x n facts once ((operation_moves x).fired m k) ((fork_moves x).fired f j)) (sym next.is_here) next.both.step);
        lockstep = λ on. subst (λ j. IsInOperationLockstep x ((operation_moves x).fired m j) (control_after x m b.place)) (sym next.is_there)
            (steady.kept m b.place k b.step.comes (b.lockstep can.going) next.can_fire next.due (ap (λ j. ((operation_moves x).fired m j).tokens.trap) (sym next.is_there) ∙ on));
        text = λ show.
            ap (λ bytes. bytes ++ shown_at (fork_way x) show (fork_start x) count) (b.text show)
            ∙ ap (λ bytes. shown (operation_way x) show (operation_start x) count ++ bytes)
            (ap (λ j. shown_of (fork_moves x) show f j) next.is_here ∙ shown_alike show m f k next.both.text ∙ ap (λ j. shown_of (operation_moves x) show m j) (sym next.is_there));
      }

  beside : IsInOperationLockstep x (first_operation_tokens x) (first_control x.net) → (count : ℕ) → ((j : ℕ) → j < count → fires j) → AreBeside count
  beside begins zero going = record {
    place = first_control x.net;
    control = refl;
    fork_control = refl;
    step = begin_in_step ground x n facts once (first_operation_tokens x) comes;
    lockstep = λ on. begins;
    text = λ show. refl;
  }
  beside begins (suc count) going = next_beside count (beside begins count (λ j low. going j (omega (arith, low)))) (going count (omega arith))

  -- ---- runs

  fires_here : (count : ℕ) → AreBeside count → fires count → CanFire (fork_moves x) (here count) (node_here count)
  fires_here count b can = let next : FireNext count b.place = due_next count b can in subst (λ j. CanFire (fork_moves x) (here count) j) (sym next.is_here) next.both.can_fire

  -- at rest the net of operations is at its end
  over_here : OperationFacts x → GraphFacts x.net → ((ks : List ℕ) → OperationsRestAtEnd x ks) → (count : ℕ) → AreBeside count → HasOrder (operation_way x) (operation_start x) count → (there count).tokens.trap ≡ None → IsOver (operation_moves x) (there count) → IsOver (fork_moves x) (here count)
  over_here operations graph rests count b has on over =
      let leads = has.are.leads in
      let end : AreAtEnd x (there count) = subst (λ (m : OperationTokens). AreAtEnd x m) leads
      (rests has.nodes (record { order = has.are.order; over = subst (λ (m : OperationTokens). IsOver (operation_moves x) m) (sym leads) over }) (ap (λ (m : OperationTokens). m.tokens.trap) leads ∙ on)) in
      ends_too ground x n facts once operations graph (there count) (here count) b.step end over

  ends_here : OperationFacts x → GraphFacts x.net → ((ks : List ℕ) → OperationsRestAtEnd x ks) → (limit count : ℕ) (end : PlayEnd) → AreBeside count → HasOrder (operation_way x) (operation_start x) count → IsOwnEnd end → EndsBy (operation_way x) (operation_start x) limit count end → EndsBy (fork_way x) (fork_start x) limit count end
  ends_here operations graph rests limit count (Rest made) b has own ends = (ends.0, trap_same ground x n facts once (there count) (here count) b.step ∙ ends.1, over_here operations graph rests count b has ends.1 ends.2)
  ends_here operations graph rests limit count (Trapped trap line) b has own ends = trap_same ground x n facts once (there count) (here count) b.step ∙ ends
  ends_here operations graph rests limit count Limit b has own ends = (ends.0, fires_here count b ends.1)
  ends_here operations graph rests limit count (WriteFault made) b has own ends = absurd own

  pub runs_alike : IsInOperationLockstep x (first_operation_tokens x) (first_control x.net) → OperationFacts x → GraphFacts x.net → ((ks : List ℕ) → OperationsRestAtEnd x ks) → OwnRunsAlike x
  runs_alike begins operations graph rests limit count end run =
      let all : AreBeside count = beside begins count run.going in
      record {
        run = record {
          going = λ j low. fires_here j (beside begins j (λ i less. run.going i (omega (arith, less, low)))) (run.going j low);
          bounded = run.bounded;
          ends = ends_here operations graph rests limit count end all (order_of (operation_way x) (operation_start x) count run.going) run.own run.ends;
          own = run.own;
        };
        same = all.text;
      }
