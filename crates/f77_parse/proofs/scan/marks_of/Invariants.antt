use Rattle.f77_expr.specs.Scanning.{what_is_open}
use Rattle.f77_parse.proofs.Marks.{IsMarked}
use Rattle.f77_parse.proofs.scan.marks_of.Given as goal

abbrev pub invariant-loop-c : goal.invariant-loop-c
invariant-loop-c l = IsMarked l.text (what_is_open l.state) l.marks.depth l.marks.has_equals l.marks.has_comma l.c-index
