use Rattle.shared_laws.proofs.ReplacedValues.{replaced-values}
use Rattle.shared_laws.proofs.shared_runs.replaced_expressions_have_their_values.Goals as goal

pub returns : goal.returns
returns c = λ q a number store next e are fits hold.
    replaced-values q a number store next (λ d z. c.logical_values_are_truths.ensures.same q.names store next d z) e are fits hold
