use Rattle.f77_expr.specs.Scanning.{what_is_open}
use Rattle.f77_expr.proofs.Scans.{IsScanned}
use Rattle.f77_expr.proofs.parse.piece_at_start.Given as goal

abbrev pub invariant-loop-i : goal.invariant-loop-i
invariant-loop-i l = IsScanned l.text (what_is_open l.state) l.depth l.i
