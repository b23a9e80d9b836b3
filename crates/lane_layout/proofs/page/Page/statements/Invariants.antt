use Rattle.std.proofs.Common.{◌≡◌, ◌++◌, All, drop, map}
use Rattle.lane_layout.specs.Page.{IsStatementOn, line_in}
use Rattle.lane_layout.specs.Rows.{line_of}
use Rattle.lane_layout.proofs.page.Page.statements.Given as goal

abbrev pub invariant-loop-begin : goal.invariant-loop-begin
invariant-loop-begin l = record {
  each : map line_in l.statements.items ++ map line_of (drop l.begin-index l.begins) ≡ map line_of l.begins;
  inside : All (IsStatementOn l.self) l.statements.items;
}
