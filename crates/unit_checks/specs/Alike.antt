-- Names of two units that are alike, by what the declarations of each unit say.
use Rattle.std.specs.Prelude.{ℕ, Bool, true, false, ◌&&◌, List, [], ◌∷◌, Option, Some, None}
use Rattle.declared_names.specs.Described.{Described}
use Rattle.program_units.specs.Refusals.{is_same_kind, are_same_dims}

-- both are there, and they fit
abbrev pub are_both : {A B : Type 0} → (fits : A → B → Bool) → Option A → Option B → Bool
are_both fits (Some a) (Some b) = fits a b
are_both fits (Some a) None = false
are_both fits None other = false

abbrev pub is_alike_told : (u v : Described) → (x y : List ℕ) → Bool
is_alike_told u v x y = is_same_kind (u.kind x) (v.kind y) && are_same_dims (u.dims x) (v.dims y)

abbrev pub are_alike_told : (u v : Described) → (xs ys : List (List ℕ)) → Bool
are_alike_told u v [] [] = true
are_alike_told u v (x ∷ xs) (y ∷ ys) = is_alike_told u v x y && are_alike_told u v xs ys
are_alike_told u v _ _ = false
