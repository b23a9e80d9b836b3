use Rattle.std.proofs.Common.{◌≡◌, take, map, length}
use Rattle.f77_tree.specs.Control.{successors}
use Rattle.cfg_build.specs.Control.{fan}
use Rattle.cfg_build.proofs.reached.control.Given as goal

abbrev pub invariant-loop-k : goal.invariant-loop-k
invariant-loop-k l = l.graph ≡ record { nodes = length l.p.execs; edges = fan 0 (map (λ exec. successors exec.kind) (take l.k l.p.execs)) }
