use Rattle.std.proofs.Common.{◌≡◌, ◌≤◌, drop, max}
use Rattle.f77_expr.specs.Piece.{bracket_depth, deepest_from}
use Rattle.f77_expr.specs.Scanning.{what_is_open}
use Rattle.flat_programs.proofs.lines.depth.Given as goal

abbrev pub invariant-loop-c : goal.invariant-loop-c
invariant-loop-c l = record {
  deepest : max l.deepest (deepest_from (what_is_open l.state) (drop l.c-index l.text)) ≡ bracket_depth l.text;
  least : l.state.brackets ≤ l.deepest;
  room : l.state.brackets ≤ l.c-index;
}
