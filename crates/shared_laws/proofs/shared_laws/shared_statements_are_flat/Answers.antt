use Rattle.shared_forms.proofs.SharedSpread.{shared-flat}
use Rattle.shared_laws.proofs.shared_laws.shared_statements_are_flat.Goals as goal

pub returns : goal.returns
returns c = shared-flat
