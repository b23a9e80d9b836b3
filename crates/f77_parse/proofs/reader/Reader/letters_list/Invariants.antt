use Rattle.std.proofs.Common.{length}
use Rattle.f77_parse.specs.Keeping.{kept_ranges}
use Rattle.f77_parse.proofs.ListsKept.{AreRanged}
use Rattle.f77_parse.proofs.reader.Reader.letters_list.Given as goal

abbrev pub invariant-loop-self : goal.invariant-loop-self
invariant-loop-self l = AreRanged l.fn.self.rest.now (kept_ranges l.fn.self.is_bad l.fn.self.rest.now) l.list l.self.is_bad l.self.rest.now

abbrev pub decreases-loop-self : goal.decreases-loop-self
decreases-loop-self l = length l.self.rest.now
