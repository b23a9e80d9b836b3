use Rattle.std.proofs.Common.{◌≡◌, take, drop}
use Rattle.layout_rules.specs.Faults.{first_line, first_after}
use Rattle.program_units.specs.Refusals.{lacks_sub}
use Rattle.program_units.proofs.named_subs.first_lacking_sub.Given as goal

abbrev pub invariant-loop-s : goal.invariant-loop-s
invariant-loop-s l = first_line (lacks_sub l.stmts) l.stmts ≡ first_after (lacks_sub l.stmts) (take l.s-index l.stmts) (drop l.s-index l.stmts)
