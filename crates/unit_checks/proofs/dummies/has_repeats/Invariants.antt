use Rattle.std.proofs.Common.{◌≡◌, [], take, drop}
use Rattle.std.specs.Prelude.{bytes_eq}
use Rattle.layout_rules.specs.Faults.{has_repeat}
use Rattle.unit_checks.proofs.dummies.has_repeats.Given as goal

abbrev pub invariant-loop-name : goal.invariant-loop-name
invariant-loop-name l = record {
  seen : l.seen ≡ take l.name-index l.names;
  rest : has_repeat bytes_eq [] l.names ≡ has_repeat bytes_eq (take l.name-index l.names) (drop l.name-index l.names);
}
