use Rattle.std.proofs.Common.{◌≡◌, drop}
use Rattle.layout_rules.specs.Faults.{first_answer}
use Rattle.program_units.specs.Refusals.{layout_end}
use Rattle.unit_checks.proofs.refused_units.first_refused.Given as goal

abbrev pub invariant-loop-k : goal.invariant-loop-k
invariant-loop-k l = first_answer (λ u. layout_end u l.checked) l.us ≡ first_answer (λ u. layout_end u l.checked) (drop l.k l.us)
