use Rattle.std.proofs.Common.{◌≡◌, ◌-◌, ◌%◌, ◌≤◌, length}
use Rattle.firing.specs.Control.{IsInStep}
use Rattle.firing.specs.Play.{by_picks, moment}
use Rattle.firing.proofs.PlayLemmas.{Running}
use Rattle.firing.proofs.playing.fire_chosen.Given as goal

abbrev pub invariant-firing : goal.invariant-firing
invariant-firing g l =
    let y = g.S.StepSystem in
    let fixed = y.net l.fn.sys in
    let now = moment (y.marking l.sys) (y.place l.sys) in
    record {
      net : y.net l.sys ≡ fixed;
      sound : y.sound fixed (y.marking l.sys);
      in_step : IsInStep (y.moves fixed) (y.in_step fixed) (y.marking l.sys) (y.place l.sys);
      run : Running (by_picks (y.moves fixed) (y.course fixed) l.picks) (moment (y.marking l.fn.sys) (y.place l.fn.sys)) now l.limit l.show l.made (g.K.Sink.got l.fn.sink) (g.K.Sink.got l.sink);
      keeps : y.keeps l.sys;
      trapped : l.trapped ≡ (y.moves fixed).trap (y.marking l.sys);
      turn : l.turn ≡ l.made % length l.picks;
      later : g.K.Sink.faults l.fn.sink ≤ g.K.Sink.faults l.sink;
    }

abbrev pub decreases-firing : goal.decreases-firing
decreases-firing g l = l.limit - l.made
