use Rattle.std.proofs.Common.{◌≡◌, ℕ, List, true, take, Some}
use Rattle.std.specs.Prelude.{bytes_eq}
use Rattle.std.specs.List.{list_any}
use Rattle.indexmap.specs.IndexMap.{get}
use Rattle.program_units.specs.NewNames.{new_name}
use Rattle.entity_names.proofs.new_names.NewNames.new_names.Given as goal

abbrev pub invariant-loop-i : goal.invariant-loop-i
invariant-loop-i l = (x : List ℕ) → list_any (bytes_eq x) (take l.i l.kept.names) ≡ true → get bytes_eq l.new x ≡ Some (new_name l.self.text.now.us.now l.k x)
