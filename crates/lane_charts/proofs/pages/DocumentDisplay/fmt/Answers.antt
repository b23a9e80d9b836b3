use Rattle.std.proofs.Output.{has_written_of_eq}
use mathlib.Core.List.{append_assoc}
use Rattle.lane_charts.specs.Sections.{page_html}
use Rattle.lane_charts.proofs.pages.DocumentDisplay.fmt.Goals as goal

pub returns-clause-writes : goal.returns-clause-writes
unfolding page_html
returns-clause-writes g c = λ plain ok. has_written_of_eq _ _ _ _ _ (rw (c.page_sheet-sheet.ensures, c.script-script.ensures) (simp append_assoc)) (c.write.ensures.writes plain ok)
