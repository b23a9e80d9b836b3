use Rattle.std.proofs.Common.{◌≡◌, ℕ, List, take}
use Rattle.std.specs.Prelude.{bytes_eq}
use Rattle.indexmap.specs.IndexMap.{get}
use Rattle.program_units.specs.CallTable.{unit_named}
use Rattle.program_units.proofs.unit_index.sub_index.Given as goal

abbrev pub invariant-loop-k : goal.invariant-loop-k
invariant-loop-k l = (name : List ℕ) → get bytes_eq l.index name ≡ unit_named (take l.k l.us) name
