use Rattle.operation_effects.proofs.FittingOperations.{operations_fit}
use Rattle.operation_effects.proofs.effect_laws.operations_fit_their_programs.Goals as goal

pub returns : goal.returns
returns c = λ p piece exec can i op at. operations_fit p piece exec can i op at
