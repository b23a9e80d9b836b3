use Rattle.std.proofs.Common.{◌≤◌, take}
use Rattle.std.specs.Io.KnownBytes.{Appends}
use Rattle.std.specs.Prelude.{flat_map}
use Rattle.op_net.specs.NetView.{marking_of}
use Rattle.program_nets.specs.Game.{store_in}
use Rattle.game_jobs.specs.StoreText.{name_line}
use Rattle.game_jobs.proofs.store.tell_store.Given as goal

abbrev pub invariant-loop-info : goal.invariant-loop-info
invariant-loop-info g l = record {
  written : Appends (g.K.Sink.got l.fn.sink) (g.K.Sink.got l.sink) (flat_map (name_line (store_in (marking_of l.net))) (take l.info-index l.info-items));
  later : g.K.Sink.faults l.fn.sink ≤ g.K.Sink.faults l.sink;
}
