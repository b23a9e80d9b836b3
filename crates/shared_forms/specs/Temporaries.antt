-- Names of temporaries: Z00001, Z00002 and so on, without those that are in use.
use Rattle.std.specs.Prelude.{ℕ, ◌+◌, ◌/◌, ◌%◌, Bool, not, List, [], ◌∷◌, map, filter, bytes_eq}
use Rattle.std.specs.List.{list_any, range_with_len}
use Rattle.f77_tree.specs.declared.programs.NameInfo.{NameInfo}

abbrev pub digit_at : (power n : ℕ) → ℕ
digit_at power n = 48 + n / power % 10

-- Z and five digits
abbrev pub temporary_name : ℕ → List ℕ
temporary_name n = 90 ∷ digit_at 10000 n ∷ digit_at 1000 n ∷ digit_at 100 n ∷ digit_at 10 n ∷ digit_at 1 n ∷ []

abbrev pub is_in_use : List NameInfo → List ℕ → Bool
is_in_use names name = list_any (λ info. bytes_eq info.name name) names

-- the greatest number that a name of a temporary can have
unfoldable pub last_number : ℕ
last_number = 99999

-- the free names among those with the numbers from 1 to n, in order
abbrev pub free_up_to : List NameInfo → (n : ℕ) → List (List ℕ)
free_up_to names n = filter (λ name. not (is_in_use names name)) (map temporary_name (range_with_len 1 n))

-- the names that temporaries can have, in order
abbrev pub free_names : List NameInfo → List (List ℕ)
free_names names = free_up_to names last_number
