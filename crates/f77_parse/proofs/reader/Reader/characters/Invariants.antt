use Rattle.std.proofs.Common.{length}
use Rattle.f77_parse.specs.Keeping.{characters_kept}
use Rattle.f77_parse.proofs.ListsKept.{IsQuoting}
use Rattle.f77_parse.proofs.reader.Reader.characters.Given as goal

abbrev pub invariant-loop-list : goal.invariant-loop-list
invariant-loop-list l = IsQuoting l.fn.self.rest.now (characters_kept l.fn.self.is_bad l.fn.self.rest.now) l.list l.self.is_bad l.self.rest.now

abbrev pub decreases-loop-list : goal.decreases-loop-list
decreases-loop-list l = length l.self.rest.now
