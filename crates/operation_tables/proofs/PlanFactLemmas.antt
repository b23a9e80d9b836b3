-- What a plan knows of the operations of its pieces follows from what is known of those of a net of a program.
use Rattle.std.proofs.Common.{◌≡◌, true, false, sym, ◌∙◌}
use Rattle.op_board.specs.OperationFacts.{IsNeededAt, OperationFacts}
use Rattle.op_board.specs.OperationNets.{OperationNet}
use Rattle.operation_tables.specs.PlanFacts.{PlanFacts}

pub plan_facts : (x : OperationNet) → OperationFacts x → PlanFacts x
plan_facts x facts = record {
  lists = facts.lists;
  decisions = facts.decisions;
  touched = facts.touched;
  needed = λ piece line exists acts touched none.
      let one : IsNeededAt x piece line = facts.needed piece line exists acts touched in
      let e : true ≡ false = sym one.needs ∙ none one.number one.inside in
      absurd cc;
  few = facts.few;
}
