use Rattle.copied_control.proofs.CopiedLoops.{called-loops}
use Rattle.copied_control.proofs.LoopsTo.{main-loops, ended-loops, first-loops, none-to-nought, none-in-unit}
use Rattle.copied_control.proofs.RangeEnds.{has-end}
use Rattle.copied_control.proofs.listed_copies.loops_end_alike.Goals as goal

pub returns : goal.returns
returns c = record { accepted = has-end; main = main-loops; called = called-loops; ended = ended-loops; first = first-loops; nought = none-to-nought; unlabelled = none-in-unit }
