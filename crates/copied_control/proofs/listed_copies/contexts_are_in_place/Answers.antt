use Rattle.copied_control.proofs.ReachedContexts.{in-place}
use Rattle.copied_control.proofs.listed_copies.contexts_are_in_place.Goals as goal

pub returns : goal.returns
returns c = in-place
