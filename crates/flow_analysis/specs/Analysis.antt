-- What is found of a program.
use Rattle.std.specs.Prelude.{◌≡◌, ◌≤◌, ◌<◌, ◌*◌, ℕ, suc, Bool, false, length}
use Rattle.closed_walks.specs.Numbering.{IsNumbering}
use Rattle.closed_walks.specs.Region.{IsFlowGraph}
use Rattle.f77_tree.specs.declared.programs.Program.{Program}
use Rattle.alias_classes.specs.Classes.{ClassTable, IsClasses, class_count}
use Rattle.alias_classes.specs.declared.TheConstants.{CLASS_WORDS}
use Rattle.cfg_build.specs.Flow.{flow}
use Rattle.region_tree.specs.Tree.{IsRegionTree}
use Rattle.dep_routing.specs.LineTable.{HaveRows}
use Rattle.dep_routing.specs.Routing.{IsRouting}
use Rattle.dep_routing.specs.Sound.{IsSound}
use Rattle.dep_routing.specs.Touch.{touches_in}
use Rattle.dep_routing.specs.Touches.{AreTouches}
use Rattle.range_lines.specs.RangeTouches.{AreRangeTouches}
use Rattle.flow_analysis.specs.declared.graph.FlowRegions.{FlowRegions}
use Rattle.flow_analysis.specs.declared.parts.Analysis.{Analysis}

-- The flow graph of the program, the numbers of its classes of cycle equivalent edges, and the tree of its regions.
pub record AreFlowRegionsOf (p : Program) (found : FlowRegions) : Type 0 where
  pub own_flow : found.flow ≡ flow p.execs
  pub strong : IsFlowGraph (flow p.execs).graph
  pub edge_classes : IsNumbering (flow p.execs).graph found.edge_classes.items
  pub tree : IsRegionTree (flow p.execs).graph found.tree

-- The same; the alias classes of the program, which a set of them holds; for each piece the set of the token lines that it touches, by
-- such tests, which are sound; and for each token line its wires, and where it is led.
pub record IsAnalysisBy (are : Program → ClassTable → (ℕ → ℕ → Bool) → Type 0) (p : Program) (found : Analysis) : Type 0 where
  pub own_flow : found.flow ≡ flow p.execs
  pub strong : IsFlowGraph (flow p.execs).graph
  pub edge_classes : IsNumbering (flow p.execs).graph found.edge_classes.items
  pub tree : IsRegionTree (flow p.execs).graph found.tree
  pub classes : IsClasses p found.classes
  pub few : class_count found.classes < 64 * CLASS_WORDS
  pub sets : length found.touch ≡ (flow p.execs).graph.nodes
  pub touches : are p found.classes (touches_in found.touch)
  pub sound : IsSound p found.classes found.tree (touches_in found.touch)
  -- there are no other pieces
  pub outside : (piece line : ℕ) → (flow p.execs).graph.nodes ≤ piece → touches_in found.touch piece line ≡ false
  pub routing : IsRouting (flow p.execs).graph found.tree (touches_in found.touch) (suc (class_count found.classes)) found.lines
  pub rows : HaveRows found.lines

-- what can trap by its text touches the line of output
abbrev pub IsAnalysisOf : Program → Analysis → Type 0
IsAnalysisOf p found = IsAnalysisBy AreTouches p found

-- the same but for subscripts that are seen in range
abbrev pub IsRangeAnalysisOf : Program → Analysis → Type 0
IsRangeAnalysisOf p found = IsAnalysisBy AreRangeTouches p found
