use Rattle.std.proofs.Common.{◌≡◌, ◌++◌, drop}
use Rattle.graph_dependences.specs.Ways.{bypass_hops}
use Rattle.graph_dependences.proofs.ways.add_bypass_hops.Given as goal

abbrev pub invariant-loop-bypass : goal.invariant-loop-bypass
invariant-loop-bypass l = l.ways.items ++ bypass_hops l.graph l.flow l.line l.from l.piece (drop l.bypass-index l.bypasses) ≡ l.fn.ways.items ++ bypass_hops l.graph l.flow l.line l.from l.piece l.bypasses
