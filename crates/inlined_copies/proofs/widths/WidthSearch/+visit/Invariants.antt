use Rattle.inlined_copies.proofs.widths.WidthSearch.+visit.Given as goal

abbrev pub decreases-visit : goal.decreases-visit
decreases-visit l = l.depth
