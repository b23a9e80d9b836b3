use Rattle.std.proofs.Common.{◌≡◌, take}
use Rattle.graph_dependences.proofs.pairs.are_same.Given as goal

abbrev pub invariant-loop-k : goal.invariant-loop-k
invariant-loop-k l = take l.k l.some ≡ take l.k l.others
