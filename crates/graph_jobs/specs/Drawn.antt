-- What is found of a program before its net of operations is told.
use Rattle.std.specs.Prelude.{◌≡◌, []}
use Rattle.f77_tree.specs.declared.programs.Program.{Program}
use Rattle.flow_analysis.specs.Analysis.{IsRangeAnalysisOf}
use Rattle.graph_jobs.specs.declared.graph.Drawn.{Drawn}
use Rattle.graph_texts.specs.NameSets.{AreNameSets}

-- It is the analysis of the program, with the classes of its names, and nothing is told yet.
pub record IsDrawnOf (p : Program) (drawn : Drawn) : Type 0 where
  pub analysis : IsRangeAnalysisOf p drawn.analysis
  pub sets : AreNameSets p.names drawn.analysis.classes drawn.name_sets.items
  pub input : drawn.input.items ≡ []
  pub buffer : drawn.buffer ≡ []
