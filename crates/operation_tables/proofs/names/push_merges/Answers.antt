use Rattle.std.proofs.Common.{◌++◌, ◌∙◌, List, ap}
use Rattle.firing.specs.declared.system.NodeName.{NodeName}
use Rattle.operation_tables.specs.PlanView.{operations_in}
use Rattle.operation_tables.proofs.GrownLists.{OnOk-then}
use Rattle.operation_tables.proofs.NameLemmas.{all_turns}
use Rattle.operation_tables.proofs.names.push_merges.Goals as goal

pub returns : goal.returns
returns g c =
    let turns = all_turns (operations_in c.args.plan.now).net c.args.piece c.requires c.first.result c.end.result c.first.ensures c.end.ensures.end in
    OnOk-then c.push_turns.result (λ after. after ∙ ap (λ (xs : List NodeName). c.args.names.now ++ xs) turns) c.push_turns.ensures
