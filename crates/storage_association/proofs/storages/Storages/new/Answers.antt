use Rattle.std.proofs.Common.{refl, arith}
use Rattle.storage_association.proofs.Begun.{nothing-held}
use Rattle.storage_association.proofs.storages.Storages.new.Goals as goal

pub returns : goal.returns
returns c = nothing-held c.args.count _ (omega arith) c.in_ok-forest.ensures (c.in_ok-parts.ensures.items_if_clones_equal (λ y e. e)) refl
