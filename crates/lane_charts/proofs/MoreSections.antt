-- One section more.
use Rattle.std.proofs.Common.{ℕ, List, [], ◌∷◌, ◌++◌}
use Rattle.printed_graphs.specs.declared.dataflow.PrintedGraph.{PrintedGraph}
use Rattle.lane_charts.specs.declared.pages.Run.{Run}
use Rattle.lane_charts.specs.declared.sections.Section.{Section}
use Rattle.lane_charts.specs.Page.{AreSections, IsSection}

pub one_more : (graph : PrintedGraph) (chart : List ℕ) (rs : List Run) (ss : List Section) (r : Run) (s : Section) → AreSections graph chart rs ss → IsSection graph chart r s → AreSections graph chart (rs ++ r ∷ []) (ss ++ s ∷ [])
one_more graph chart [] [] r s old new = (new, tt)
one_more graph chart (x ∷ xs) (y ∷ ys) r s old new = (old.0, one_more graph chart xs ys r s old.1 new)
one_more graph chart [] (y ∷ ys) r s old new = absurd old
one_more graph chart (x ∷ xs) [] r s old new = absurd old
