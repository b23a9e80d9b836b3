use Rattle.std.proofs.Common.{◌+◌, ◌*◌, length}
use Rattle.closed_walks.specs.Search.{blanks}
use Rattle.closed_walks.proofs.Backwards.{IsMarking}
use Rattle.closed_walks.proofs.search_back.mark_back.Given as goal

abbrev pub invariant-loop-next : goal.invariant-loop-next
invariant-loop-next l = IsMarking l.g l.node l.fn.marks.items l.marks.items l.frontier.items

abbrev pub decreases-loop-next : goal.decreases-loop-next
decreases-loop-next l = 2 * blanks l.marks.items + length l.frontier.items
