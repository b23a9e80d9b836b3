use Rattle.std.proofs.Common.{length}
use Rattle.f77_parse.specs.Keeping.{kept_parts}
use Rattle.f77_parse.proofs.ListsKept.{IsFilled}
use Rattle.f77_parse.proofs.reader.Reader.series.Given as goal

abbrev pub invariant-loop-alloc : goal.invariant-loop-alloc
invariant-loop-alloc g l = IsFilled g.S.Series.kept_next l.fn.self.rest.now (kept_parts g.S.Series.kept_first g.S.Series.kept_next l.fn.self.is_bad l.fn.self.rest.now) l.list l.self.is_bad l.self.rest.now

abbrev pub decreases-loop-alloc : goal.decreases-loop-alloc
decreases-loop-alloc g l = length l.self.rest.now
