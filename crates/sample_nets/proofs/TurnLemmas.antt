-- Firings of the counters in their own order, one after another.
use Rattle.std.proofs.Common.{◌≡◌, ◌≢◌, ℕ, Option, Some, None}
use Rattle.firing.specs.declared.system.Fired.TheVariants.{Moved}
use Rattle.firing.specs.Control.{IsInStep, due_at}
use Rattle.firing.specs.Moves.{CanFire}
use Rattle.firing.specs.Play.{by_order, moment}
use Rattle.firing.specs.SourceOrder.{FiresTo}
use Rattle.firing.proofs.ControlLemmas.{due_control, due_fires}
use Rattle.firing.proofs.DueLemmas.{in_step_after, sound_after, trap_told_after}
use Rattle.sample_nets.specs.declared.counts.Counts.{Counts}
use Rattle.sample_nets.specs.declared.turn.Turn.{Turn}
use Rattle.sample_nets.specs.Counting.{AreSmall, counter_moves}
use Rattle.sample_nets.specs.CounterLaws.{counter_laws}
use Rattle.sample_nets.specs.CounterOrder.{counter_control, counter_order}
use Rattle.sample_nets.specs.Turns.{counter_course, in_turn}

module _ {first m : Counts} {begin c : Option Turn} {most made : ℕ} (to : FiresTo (by_order counter_moves counter_course) (moment first begin) most made Moved (moment m c)) (small : AreSmall first) (step : IsInStep counter_moves in_turn first begin) (due : due_at counter_course first begin ≢ None) where
  pub small_next : AreSmall m
  small_next = sound_after counter_moves counter_course to counter_laws counter_control counter_order small step (due_control counter_course first begin due)

  pub step_next : IsInStep counter_moves in_turn m c
  step_next = in_step_after counter_moves counter_course to counter_laws counter_control counter_order small step (due_control counter_course first begin due)

  pub none_next : counter_moves.trap m ≡ None
  none_next = trap_told_after counter_moves counter_course to (λ e. absurd cc)

  pub can_next : (k : ℕ) → due_at counter_course m c ≡ Some k → CanFire counter_moves m k
  can_next k is = due_fires counter_order m c k small_next step_next none_next is
