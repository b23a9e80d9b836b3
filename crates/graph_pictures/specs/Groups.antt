-- The places of numbers, kept as lists.
use Rattle.std.specs.Prelude.{◌≡◌, ℕ, List, [], ◌∷◌, ◌++◌, ◌==◌, ◌&&◌, if◌then◌else◌, length, nat_lt, slice_get, Option, Some, None, Vec}
use Rattle.std.specs.declared.alloc.Global.{Global}
use Rattle.graph_pictures.specs.Numbers.{places_of}
use Rattle.graph_pictures.specs.declared.groups.Groups.{Groups}

abbrev pub list_in : Option (Vec ℕ Global) → List ℕ
list_in None = []
list_in (Some list) = list.items

abbrev pub list_at : List (Vec ℕ Global) → (number : ℕ) → List ℕ
list_at lists number = list_in (slice_get lists number)

abbrev pub members_in : Groups → (number : ℕ) → List ℕ
members_in groups number = list_at groups.lists.items number

abbrev pub AreGroups : (count first : ℕ) → List ℕ → Groups → Type 0
AreGroups count first numbers groups = (n : ℕ) → members_in groups n ≡ places_of count first n numbers

-- one place more of a number, if that is one of those that are kept
pub record AddsPlace (old new : List (Vec ℕ Global)) (number place : ℕ) : Type 0 where
  pub count : length new ≡ length old
  pub each : (n : ℕ) → list_at new n ≡ (if (number == n) && nat_lt n (length old) then list_at old n ++ place ∷ [] else list_at old n)
