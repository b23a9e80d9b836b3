use Rattle.std.proofs.Common.{[], length}
use Rattle.f77_parse.specs.Keeping.{kept_list}
use Rattle.f77_parse.proofs.ListsKept.{IsBegun}
use Rattle.f77_parse.proofs.reader.Reader.list.Given as goal

abbrev pub invariant-loop-alloc : goal.invariant-loop-alloc
invariant-loop-alloc g l = IsBegun g.P.Part.kept [] l.fn.self.rest.now (kept_list g.P.Part.kept l.fn.self.is_bad l.fn.self.rest.now) l.list l.self.is_bad l.self.rest.now

abbrev pub decreases-loop-alloc : goal.decreases-loop-alloc
decreases-loop-alloc g l = length l.self.rest.now
