use Rattle.std.proofs.Common.{◌≤◌}
use Rattle.std.specs.Io.KnownBytes.{Appends}
use Rattle.op_net.specs.NetView.{marking_of}
use Rattle.program_nets.specs.Game.{store_in}
use Rattle.game_jobs.proofs.Items.{words_below}
use Rattle.game_jobs.proofs.store.tell_name.Given as goal

abbrev pub invariant-loop-k : goal.invariant-loop-k
invariant-loop-k g l = record {
  from : l.fn.info.place ≤ l.k;
  written : Appends (g.K.Sink.got l.fn.sink) (g.K.Sink.got l.sink) (words_below (store_in (marking_of l.fn.net)) l.fn.info l.k);
  later : g.K.Sink.faults l.fn.sink ≤ g.K.Sink.faults l.sink;
}
