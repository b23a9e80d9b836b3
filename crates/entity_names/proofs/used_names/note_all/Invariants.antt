use Rattle.std.proofs.Common.{◌≡◌, fold, take}
use Rattle.layout_rules.specs.Appearances.{with_name}
use Rattle.entity_names.proofs.used_names.note_all.Given as goal

abbrev pub invariant-loop-i : goal.invariant-loop-i
invariant-loop-i l = l.used ≡ fold with_name l.initial.used (take l.i l.names)
