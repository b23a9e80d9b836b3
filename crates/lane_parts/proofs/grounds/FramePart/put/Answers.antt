use Rattle.std.proofs.Output.{has_written_of_eq}
use mathlib.Core.List.{append_assoc}
use Rattle.lane_parts.specs.Grounds.{frame_svg}
use Rattle.lane_parts.proofs.grounds.FramePart.put.Goals as goal

pub returns : goal.returns
unfolding frame_svg
returns g c = λ plain ok. has_written_of_eq _ _ _ _ _ (simp append_assoc) (c.writeln.ensures.writes plain ok)
