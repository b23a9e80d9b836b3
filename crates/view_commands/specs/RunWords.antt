-- The words for a run.
use Rattle.std.specs.Prelude.{ℕ, ◌-◌, Bool, true, false, not, if◌then◌else◌, List, [], ◌∷◌, filter, length, nat_eq, take, codes}
use Rattle.std.specs.List.{ends_with, list_any, starts_with}
use Rattle.std.specs.Str.{bytes_eq}

abbrev pub begins_with : (prefix word : List ℕ) → Bool
begins_with prefix word = starts_with nat_eq word prefix

abbrev pub picks_left_out : List (List ℕ) → List (List ℕ)
picks_left_out words = filter (λ word. not (begins_with (codes "picks=") word)) words

-- other picks, after a limit
abbrev pub after_limit : List (List ℕ) → List (List ℕ)
after_limit [] = codes "picks=1,4,2,8,5,7" ∷ []
after_limit (word ∷ words) = if begins_with (codes "limit=") word then word ∷ codes "picks=1,4,2,8,5,7" ∷ words else codes "picks=1,4,2,8,5,7" ∷ word ∷ words

-- their own picks, or else others
abbrev pub picks_added : List (List ℕ) → List (List ℕ)
picks_added words = if list_any (begins_with (codes "picks=")) words then words else after_limit words

-- the words without `forks` at their end, and whether it stood there
abbrev pub forks_apart : List (List ℕ) → List (List ℕ) × Bool
forks_apart words = if ends_with bytes_eq words (codes "forks" ∷ []) then (take (length words - 1) words, true) else (words, false)

abbrev pub is_checked_last : List (List ℕ) → Bool
is_checked_last words = ends_with bytes_eq words (codes "checked" ∷ [])

-- the word for the checked dialect, where it comes last
abbrev pub dialect_in : List (List ℕ) → List (List ℕ)
dialect_in words = if is_checked_last words then codes "checked" ∷ [] else []

-- there is more than the dialect
abbrev pub is_run_told : List (List ℕ) → Bool
is_run_told [] = false
is_run_told (word ∷ []) = not (bytes_eq word (codes "checked"))
is_run_told (word ∷ other ∷ words) = true
