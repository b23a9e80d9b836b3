use Rattle.std.proofs.Common.{◌≡◌, take, drop}
use Rattle.layout_rules.specs.Faults.{first_after, first_line}
use Rattle.program_units.specs.Refusals.{has_bad_call, unit_below}
use Rattle.unit_checks.proofs.bad_calls.first_bad_call.Given as goal

abbrev pub invariant-loop-s : goal.invariant-loop-s
invariant-loop-s l = record {
  unit : l.k ≡ unit_below (take l.s-index l.stmts);
  first : first_line (has_bad_call l.us) l.stmts ≡ first_after (has_bad_call l.us) (take l.s-index l.stmts) (drop l.s-index l.stmts);
}
