-- The dimensions of a name of a table are right where all are.
use Rattle.std.proofs.Common.{◌≡◌, ℕ, zero, suc, false, List, [], ◌∷◌, All, refl, arith}
use Rattle.f77_tree.specs.declared.programs.NameInfo.{NameInfo}
use Rattle.f77_tree.specs.Value.{dims_of}
use Rattle.layout_rules.specs.StorageFaults.{are_wrong_dims}
use Rattle.layout_rules.specs.PlacedNames.{HasRightDims}

pub right_dims : (names : List NameInfo) (k : ℕ) → All HasRightDims names → are_wrong_dims (dims_of names k) ≡ false
right_dims [] k all = refl
right_dims (info ∷ names) zero all = all 0 info (omega arith)
right_dims (info ∷ names) (suc k) all = right_dims names k (λ j d lt. all (suc j) d (omega (arith, lt)))
