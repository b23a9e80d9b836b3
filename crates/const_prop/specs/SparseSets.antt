-- Sets for keys. The keys whose sets aren't empty have sets with numbers of their own; the others share an empty set, number 0.
use Rattle.std.proofs.Common.{zero, suc}
use Rattle.std.specs.Prelude.{◌≡◌, ◌≢◌, ◌<◌, ◌≤◌, ◌+◌, ◌^◌, ◌==◌, ℕ, Bool, not, false, List, [], ◌∷◌, length, count_by, slice_index_or, vec_capacity}
use Rattle.class_set.specs.ClassSet.{holds}
use Rattle.class_set.specs.declared.ClassSet.{ClassSet}
use Rattle.class_set.specs.Members.{IsWidth}
use Rattle.const_prop.specs.declared.sparse_sets.SparseSets.TheInside.{Inside}

-- for each key the number of its set, and the sets by their numbers
pub record Sets (W : ℕ) : Type 0 where
  pub numbers : List ℕ
  pub sets : List (ClassSet W)

abbrev pub is_number : ℕ → Bool
is_number n = not (n == 0)

module _ {W : ℕ} where
  abbrev pub keys_of : Sets W → ℕ
  keys_of s = length s.numbers

  abbrev pub number_of : Sets W → (key : ℕ) → ℕ
  number_of s key = slice_index_or s.numbers key 0

  -- k is a member of the set with this number
  abbrev pub nth_holds : List (ClassSet W) → (number k : ℕ) → Bool
  nth_holds [] number k = false
  nth_holds (set ∷ sets) zero k = holds set k
  nth_holds (set ∷ sets) (suc number) k = nth_holds sets number k

  -- k is a member of the set of the key
  abbrev pub set_holds : Sets W → (key k : ℕ) → Bool
  set_holds s key k = nth_holds s.sets (number_of s key) k

  abbrev pub sets_of : Inside W → Sets W
  sets_of d = record { numbers = d.numbers.items; sets = d.sets.items }

  -- Each number but 0 that is below the count of the sets belongs to one key, or is free.
  pub record AreShared (numbers : List ℕ) (sets : List (ClassSet W)) (free : List ℕ) : Type 0 where
    pub none : (k : ℕ) → nth_holds sets 0 k ≡ false
    pub within : (i : ℕ) → slice_index_or numbers i 0 < length sets
    pub own : (i j : ℕ) → slice_index_or numbers i 0 ≡ slice_index_or numbers j 0 → slice_index_or numbers i 0 ≢ 0 → i ≡ j
    pub count : length sets ≡ count_by is_number numbers + length free + 1
    pub few : length sets ≤ length numbers + 1
    pub free_within : (j : ℕ) → j < length free → slice_index_or free j 0 < length sets
    pub free_some : (j : ℕ) → j < length free → slice_index_or free j 0 ≢ 0
    pub unused : (i j : ℕ) → j < length free → slice_index_or numbers i 0 ≢ slice_index_or free j 0
    pub apart : (i j : ℕ) → i < length free → j < length free → slice_index_or free i 0 ≡ slice_index_or free j 0 → i ≡ j

  -- and there is room for a set and a free number for each key
  pub record IsKept (d : Inside W) : Type 0 where
    pub width : IsWidth W
    pub few : length d.numbers.items < 2 ^ 32
    pub shared : AreShared d.numbers.items d.sets.items d.free.items
    pub room : length d.numbers.items < vec_capacity d.sets
    pub free_room : length d.numbers.items ≤ vec_capacity d.free
