use Rattle.std.proofs.Common.{◌≡◌, drop}
use Rattle.layout_rules.specs.Faults.{first_answer}
use Rattle.program_units.specs.Refusals.{bad_block}
use Rattle.unit_checks.proofs.bad_blocks.first_mismatch.Given as goal

abbrev pub invariant-loop-k : goal.invariant-loop-k
invariant-loop-k l = first_answer (bad_block l.us) l.us ≡ first_answer (bad_block l.us) (drop l.k l.us)
