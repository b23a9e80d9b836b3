use Rattle.std.proofs.Common.{◌+◌, ℕ, ap}
use Rattle.operation_tables.specs.PlanView.{operations_in}
use Rattle.operation_tables.proofs.GrownLists.{OnOk-then}
use Rattle.operation_tables.proofs.NameLemmas.{parting_named}
use Rattle.operation_tables.proofs.names.push_parting.Goals as goal

pub returns : goal.returns
returns g c = OnOk-then c.push_turns.result
    (λ after. parting_named (operations_in c.args.plan.now) c.args.piece c.args.names.now c.push_operations.new.names c.push_turns.new.names (c.first.result + 1) c.end-end.result c.requires.piece c.requires.parts (ap (λ (n : ℕ). n + 1) c.first.ensures) c.end-end.ensures.end c.in_ok-push_operations.ensures after)
    c.push_turns.ensures
