use Rattle.class_set.specs.ClassSet.{holds}
use Rattle.operation_tables.proofs.PlanLemmas.{AreFirstNeeds}
use Rattle.operation_tables.proofs.plan.all_needs.Given as goal

abbrev pub invariant-loop-operation : goal.invariant-loop-operation
invariant-loop-operation g l = AreFirstNeeds l.c (holds l.touched) l.operations.items l.operation-index l.needs
