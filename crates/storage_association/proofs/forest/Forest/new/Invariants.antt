use Rattle.std.proofs.Common.{◌≡◌, map}
use Rattle.std.specs.List.{range_with_len}
use Rattle.storage_association.specs.Trees.{leaf}
use Rattle.storage_association.proofs.forest.Forest.new.Given as goal

abbrev pub invariant-loop-name : goal.invariant-loop-name
invariant-loop-name l = l.nodes.items ≡ map leaf (range_with_len 0 l.name)
