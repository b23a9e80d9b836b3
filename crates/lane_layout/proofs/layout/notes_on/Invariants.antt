use Rattle.std.proofs.Common.{All}
use Rattle.lane_layout.specs.Page.{IsNoteOn}
use Rattle.lane_layout.proofs.layout.notes_on.Given as goal

abbrev pub invariant-loop-note : goal.invariant-loop-note
invariant-loop-note l = All (IsNoteOn l.page) l.inside.items
