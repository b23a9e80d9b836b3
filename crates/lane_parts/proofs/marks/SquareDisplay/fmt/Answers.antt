use Rattle.std.proofs.Output.{has_written_of_eq}
use mathlib.Core.List.{append_assoc}
use Rattle.lane_parts.specs.Marks.{square_svg}
use Rattle.lane_parts.proofs.marks.SquareDisplay.fmt.Goals as goal

pub returns-clause-writes : goal.returns-clause-writes
unfolding square_svg
returns-clause-writes g c = λ plain ok. has_written_of_eq _ _ _ _ _ (simp append_assoc) (c.write.ensures.writes plain ok)
