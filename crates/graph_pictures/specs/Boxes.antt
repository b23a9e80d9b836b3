-- The boxes of regions, kept as lists.
use Rattle.std.specs.Prelude.{◌≡◌, ℕ, [], Bool, if◌then◌else◌}
use Rattle.graph_pictures.specs.FlowDot.{boxes_of, pieces_in}
use Rattle.graph_pictures.specs.Groups.{members_in}
use Rattle.graph_pictures.specs.declared.boxes.Boxes.{Boxes}
use Rattle.printed_graphs.specs.declared.flow.PrintedFlow.{PrintedFlow}

pub record AreBoxes (flow : PrintedFlow) (with_regions : Bool) (b : Boxes) : Type 0 where
  pub steps : b.steps.items ≡ (if with_regions then boxes_of flow else [])
  pub pieces : (region : ℕ) → members_in b.pieces region ≡ pieces_in flow region
