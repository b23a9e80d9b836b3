use Rattle.simplified_laws.proofs.RunOperations.{runs-few}
use Rattle.simplified_laws.proofs.running.runs_take_few_operations.Goals as goal

pub returns : goal.returns
returns c = runs-few c.statements_bound_operations.ensures.most
