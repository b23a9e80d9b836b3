-- What is found of a program's flow graph before it is told.
use Rattle.std.specs.Prelude.{◌≡◌, ℕ, List, []}
use Rattle.closed_walks.specs.Numbering.{IsNumbering}
use Rattle.closed_walks.specs.Region.{IsFlowGraph}
use Rattle.f77_tree.specs.declared.programs.Program.{Program}
use Rattle.cfg_build.specs.Flow.{flow}
use Rattle.region_tree.specs.Tree.{IsRegionTree}
use Rattle.graph_jobs.specs.declared.regions.Found.{Found}
use Rattle.graph_jobs.specs.Regions.{regions_text}

-- the text that tells it
abbrev pub text_of : Found → List ℕ
text_of found = regions_text found.flow found.classes.items found.tree

-- It is the flow graph of the program, with the classes of its edges and its regions, and nothing is told yet.
pub record IsFoundOf (p : Program) (found : Found) : Type 0 where
  pub flow : found.flow ≡ flow p.execs
  pub strong : IsFlowGraph found.flow.graph
  pub classes : IsNumbering found.flow.graph found.classes.items
  pub tree : IsRegionTree found.flow.graph found.tree
  pub buffer : found.buffer ≡ []
