use Rattle.std.proofs.Output.{has_written_of_eq}
use mathlib.Core.List.{append_assoc}
use Rattle.lane_charts.specs.Sections.{pictures_html}
use Rattle.lane_charts.proofs.sections.PicturesDisplay.fmt.Goals as goal

pub returns-clause-writes : goal.returns-clause-writes
unfolding pictures_html
returns-clause-writes g c = λ plain ok. has_written_of_eq _ _ _ _ _ (simp append_assoc) (c.writeln.ensures.writes plain ok)
