-- No token lines are touched by pieces that are not there.
use Rattle.std.proofs.Common.{◌≡◌, ℕ, zero, suc, ◌≤◌, false, List, [], ◌∷◌, length, refl, arith}
use Rattle.class_set.specs.declared.ClassSet.{ClassSet}
use Rattle.dep_routing.specs.Touch.{touches_in}

-- no lines are those of a piece past the list
pub none_past : {W : ℕ} (sets : List (ClassSet W)) (piece line : ℕ) → length sets ≤ piece → touches_in sets piece line ≡ false
none_past [] piece line past = refl
none_past (set ∷ sets) zero line past = absurd (omega (arith, past))
none_past (set ∷ sets) (suc piece) line past = none_past sets piece line (omega (arith, past))
