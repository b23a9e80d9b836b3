use Rattle.std.proofs.Common.{◌≡◌, take}
use Rattle.std.specs.Prelude.{flat_map}
use Rattle.layout_rules.specs.Declarations.{groups_of}
use Rattle.f77_layout.proofs.collecting.groups_of.Given as goal

abbrev pub invariant-loop-s : goal.invariant-loop-s
invariant-loop-s l = l.groups ≡ flat_map (λ s. groups_of s.stmt) (take l.s-index l.stmts)
