use Rattle.std.proofs.Common.{◌+◌, ◌/◌, ◌∙◌, ap, arith}
use Rattle.firing.specs.BlockCounts.{flags_of}
use Rattle.firing.proofs.CountLemmas.{empty_counted}
use Rattle.firing.proofs.WordLemmas.{empty_flags, empty_words}
use Rattle.firing.proofs.ready_set.ReadySet.with_room.Goals as goal

pub invariant_of-result : goal.invariant_of-result
invariant_of-result c = grind (arith, empty_words, empty_flags, empty_counted)

pub returns : goal.returns
returns c = ap (λ words. flags_of words c.args.nodes) (c.in_ok-vec.ensures.items_if_clones_equal (λ y e. e)) ∙ empty_flags (c.args.nodes / 64 + 1) c.args.nodes
