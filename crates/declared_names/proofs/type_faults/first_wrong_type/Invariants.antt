use Rattle.std.proofs.Common.{◌≡◌, take, drop}
use Rattle.layout_rules.specs.Faults.{first_line, first_after}
use Rattle.layout_rules.specs.TypeFaults.{has_wrong_type}
use Rattle.declared_names.proofs.KindsGiven.{IsGivenBy}
use Rattle.declared_names.proofs.type_faults.first_wrong_type.Given as goal

abbrev pub invariant-loop-s : goal.invariant-loop-s
invariant-loop-s l = record {
  first : first_line (has_wrong_type l.names) l.stmts ≡ first_after (has_wrong_type l.names) (take l.s-index l.stmts) (drop l.s-index l.stmts);
  given : IsGivenBy (take l.s-index l.stmts) l.given;
}
