use Rattle.std.proofs.Common.{arith}
use Rattle.std.proofs.lemmas.List.{append-nil}
use Rattle.cfg_build.proofs.BuildingParts.{flat_map-range_more, reached_parts-yes, reached_parts-no}
use Rattle.cfg_build.proofs.parts.parts_of.Goals as goal
use Rattle.cfg_build.proofs.parts.parts_of.Goals.{then-reached-k+in_ok-push_parts, else-reached-k}

pub loop-k-preserved : goal.loop-k-preserved
loop-k-preserved c =
    search (flat_map-range_more, then-reached-k+in_ok-push_parts, reached_parts-yes, else-reached-k, append-nil, reached_parts-no, arith)
