use Rattle.std.proofs.Common.{◌≡◌, ◌++◌, false, drop}
use Rattle.form_advice.specs.Shapes.{without_constants}
use Rattle.form_advice.proofs.shapes.without_constants.Given as goal

abbrev pub invariant-loop-c : goal.invariant-loop-c
invariant-loop-c l = l.plain.items ++ without_constants l.is_inside (drop l.c-index l.text) ≡ without_constants false l.text
