use Rattle.std.proofs.Common.{◌≡◌, ◌≤◌, length, drop}
use Rattle.declared_names.specs.KeptDeclarations.{said_by}
use Rattle.unit_checks.specs.Alike.{are_alike_told, is_alike_told}
use Rattle.unit_checks.proofs.AlikeOnes.{all_fit}
use Rattle.unit_checks.proofs.alike.are_alike.Given as goal

abbrev pub invariant-loop-i : goal.invariant-loop-i
invariant-loop-i l = record {
  same : are_alike_told (said_by l.u) (said_by l.v) l.xs l.ys ≡ all_fit (is_alike_told (said_by l.u) (said_by l.v)) (drop l.i l.xs) (drop l.i l.ys);
  few : l.i ≤ length l.ys;
}
