use Rattle.std.proofs.Common.{◌≡◌, ◌++◌, take, map}
use Rattle.cfg_build.specs.Tables.{number_in}
use Rattle.cfg_build.proofs.rows.draw_outs.Given as goal

abbrev pub invariant-loop-target : goal.invariant-loop-target
invariant-loop-target l = record {
  pieces : l.drawing.pieces ≡ l.initial.drawing.pieces;
  edges : l.drawing.edges.items ≡ l.initial.drawing.edges.items ++ map (λ head. (l.piece, head)) (map (number_in l.numbers) (take l.target-index l.outs));
}
