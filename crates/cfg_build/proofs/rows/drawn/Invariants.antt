use Rattle.std.proofs.Common.{◌≡◌, ◌∷◌, take, map, flat_map}
use Rattle.cfg_build.specs.Control.{fan}
use Rattle.cfg_build.specs.Joined.{Row, rows_of}
use Rattle.cfg_build.proofs.rows.drawn.Given as goal

abbrev pub invariant-loop-part : goal.invariant-loop-part
invariant-loop-part l = record {
  pieces : l.drawing.pieces.items ≡ map (λ (row : Row). row.piece) (flat_map (rows_of l.parts) (take l.part-index l.parts));
  edges : l.drawing.edges.items ≡ (l.finish, 0) ∷ fan 0 (map (λ (row : Row). row.heads) (flat_map (rows_of l.parts) (take l.part-index l.parts)));
}
