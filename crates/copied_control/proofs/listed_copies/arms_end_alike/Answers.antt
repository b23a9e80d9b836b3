use Rattle.copied_control.proofs.MappedArms.{arms-mapped, blocks-mapped, inserted-ends}
use Rattle.copied_control.proofs.listed_copies.arms_end_alike.Goals as goal

pub returns : goal.returns
returns c = record { arms = arms-mapped; blocks = blocks-mapped; inserted = inserted-ends }
