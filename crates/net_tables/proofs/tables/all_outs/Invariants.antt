use Rattle.std.proofs.Common.{◌≡◌, map}
use Rattle.std.specs.List.{range_with_len}
use Rattle.cfg_build.specs.Passes.{outs}
use Rattle.net_tables.proofs.tables.all_outs.Given as goal

abbrev pub invariant-loop-piece : goal.invariant-loop-piece
invariant-loop-piece l = l.all.items ≡ map (outs l.g) (range_with_len 0 l.piece)
