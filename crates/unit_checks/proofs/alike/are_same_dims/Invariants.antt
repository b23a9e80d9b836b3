use Rattle.std.proofs.Common.{◌≡◌, ◌≤◌, length, drop}
use Rattle.program_units.specs.Refusals.{is_same_dim, are_same_dims}
use Rattle.unit_checks.proofs.AlikeOnes.{all_fit}
use Rattle.unit_checks.proofs.alike.are_same_dims.Given as goal

abbrev pub invariant-loop-i : goal.invariant-loop-i
invariant-loop-i l = record {
  same : are_same_dims l.a l.b ≡ all_fit is_same_dim (drop l.i l.a) (drop l.i l.b);
  few : l.i ≤ length l.b;
}
