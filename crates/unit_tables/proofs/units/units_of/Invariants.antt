use Rattle.std.proofs.Common.{◌≡◌, ◌++◌}
use Rattle.unit_tables.specs.Units.{all_statements}
use Rattle.unit_tables.proofs.units.units_of.Given as goal

abbrev pub invariant-loop-statement : goal.invariant-loop-statement
invariant-loop-statement l = all_statements l.units.items ++ l.open.items ≡ l.yielded
