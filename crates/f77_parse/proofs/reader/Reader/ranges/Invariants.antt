use Rattle.std.proofs.Common.{length}
use Rattle.f77_parse.specs.Keeping.{kept_after, range_kept}
use Rattle.f77_parse.proofs.ListsKept.{IsBegun}
use Rattle.f77_parse.proofs.reader.Reader.ranges.Given as goal

abbrev pub invariant-loop-kind : goal.invariant-loop-kind
invariant-loop-kind l = IsBegun (range_kept l.kind) l.fn.list l.fn.self.rest.now (kept_after (range_kept l.fn.kind) l.fn.list l.fn.self.is_bad l.fn.self.rest.now) l.list l.self.is_bad l.self.rest.now

abbrev pub decreases-loop-kind : goal.decreases-loop-kind
decreases-loop-kind l = length l.self.rest.now
