use Rattle.std.proofs.Common.{◌≡◌, take}
use Rattle.std.specs.Prelude.{flat_map}
use Rattle.layout_rules.specs.Declarations.{inits_of}
use Rattle.f77_layout.proofs.collecting.inits_of.Given as goal

abbrev pub invariant-loop-s : goal.invariant-loop-s
invariant-loop-s l = l.inits ≡ flat_map (λ s. inits_of s.stmt) (take l.s-index l.stmts)
