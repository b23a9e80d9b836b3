use Rattle.copied_values.proofs.FrameTables.{frame-table, program-table}
use Rattle.copied_values.proofs.SameTrees.{accesses-same, kinds-same, trees-same}
use Rattle.copied_values.proofs.copied_values.places_decide_no_trees.Goals as goal

pub returns : goal.returns
returns c = record { trees = trees-same; accesses = accesses-same; kinds = kinds-same; programs = program-table; frames = frame-table }
