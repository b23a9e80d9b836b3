-- What is looked up of the statements of a program, so that each executable is made at once.
use Rattle.std.specs.Prelude.{◌+◌, ◌^◌, ◌<◌, ◌≤◌, List, length, sum_by}
use Rattle.f77_tree.specs.declared.statements.Labelled.{Labelled}
use Rattle.control_structure.specs.LabelTable.{ArePlacesOf}
use Rattle.executable_lists.specs.Listed.{listed}
use Rattle.control_structure.specs.BlockEnds.{AreBlocksOf}
use Rattle.layout_rules.specs.Executables.{loop_number, executables_with_ends, first_of, met}
use Rattle.layout_rules.specs.Tables.{AreLoops, IsTable, rank}
use Rattle.executable_lists.specs.declared.flow.Flow.{Flow}

-- what is looked up of the statements
pub record IsFlow (stmts : List Labelled) (flow : Flow) : Type 0 where
  pub loops : AreLoops stmts (length stmts) (listed flow.loops.by_label)
  pub ranks : IsTable (rank stmts) (length stmts) flow.loops.ranks.items
  pub numbers : IsTable (loop_number stmts) (length stmts) flow.numbers.items
  pub first : IsTable (first_of stmts) (length stmts + 1) flow.first.items
  pub met : IsTable (met stmts) (length stmts + 1) flow.met.items
  pub labels : ArePlacesOf stmts flow.labels
  pub blocks : AreBlocksOf stmts flow.blocks
  pub short : length stmts ≤ 4000
  pub few : sum_by (executables_with_ends stmts) stmts < 2 ^ 32
  pub some : 0 < length stmts
