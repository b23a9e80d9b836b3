use Rattle.std.proofs.Common.{◌≡◌, ◌∷◌}
use Rattle.std.specs.List.{flat_map, range_with_len}
use Rattle.cfg_build.specs.Parts.{start_part, reached_parts}
use Rattle.cfg_build.proofs.parts.parts_of.Given as goal

abbrev pub invariant-loop-k : goal.invariant-loop-k
invariant-loop-k l = l.parts.items ≡ start_part ∷ flat_map (reached_parts l.p.execs) (range_with_len 0 l.k)
