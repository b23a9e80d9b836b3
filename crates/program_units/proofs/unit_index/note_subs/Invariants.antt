use Rattle.std.proofs.Common.{◌≡◌, ℕ, List, take}
use Rattle.std.specs.Prelude.{bytes_eq}
use Rattle.std.specs.List.{list_any}
use Rattle.indexmap.specs.IndexMap.{get}
use Rattle.layout_rules.specs.Faults.{answer_or}
use Rattle.program_units.specs.Units.{is_sub_of}
use Rattle.program_units.specs.CallTable.{unit_if}
use Rattle.program_units.proofs.unit_index.note_subs.Given as goal

abbrev pub invariant-loop-s : goal.invariant-loop-s
invariant-loop-s l = (name : List ℕ) → get bytes_eq l.index name ≡ answer_or (get bytes_eq l.initial.index name) (unit_if (list_any (is_sub_of name) (take l.s-index l.unit)) l.k)
