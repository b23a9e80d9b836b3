use Rattle.f77_layout.proofs.ToldLines.{storage-first, counts-first}
use Rattle.f77_layout.proofs.laws.told_lines_are_first.Goals as goal

pub returns-clause-storage : goal.returns-clause-storage
returns-clause-storage c = storage-first

pub returns-clause-counts : goal.returns-clause-counts
returns-clause-counts c = counts-first
