use Rattle.std.proofs.Common.{◌≡◌, pos, ◌*ℤ◌, take}
use Rattle.std.specs.Int.{saturate_signed, w64}
use Rattle.std.specs.List.{fold}
use Rattle.unit_tables.specs.Bounds.{extent_of}
use Rattle.unit_tables.proofs.bounds.number_of_elements.Given as goal

-- the elements by the bounds so far
abbrev pub invariant-loop-bound : goal.invariant-loop-bound
invariant-loop-bound l = l.count ≡ fold (λ count bound. saturate_signed w64 (count *ℤ extent_of bound)) (pos 1) (take l.bound-index l.bounds)
