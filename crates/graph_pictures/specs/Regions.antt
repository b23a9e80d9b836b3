-- The regions that edges enter and leave, kept as lists.
use Rattle.std.specs.Prelude.{length, map}
use Rattle.graph_pictures.specs.FlowDot.{entry_of, exit_of}
use Rattle.graph_pictures.specs.Groups.{AreGroups}
use Rattle.graph_pictures.specs.declared.regions.Borders.{Borders}

pub record AreBorders (b : Borders) : Type 0 where
  pub entered : AreGroups (length b.flow.now.edges.items) 1 (map entry_of b.flow.now.regions.items) b.entered
  pub left : AreGroups (length b.flow.now.edges.items) 1 (map exit_of b.flow.now.regions.items) b.left
