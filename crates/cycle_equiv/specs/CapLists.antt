-- What becomes of the lists where the walk leaves a node: capping brackets that lead to it end, and its own begins.
use Rattle.std.specs.Prelude.{ℕ, ◌+◌, ◌<◌, ◌^◌, List, [], ◌∷◌, ◌++◌, length, set, slice_index_or, if◌then◌else◌, nat_lt, sum_by}
use Rattle.brackets.specs.Brackets.{Stands, IsOnce, list_at, without}

-- a list without the capping brackets of these edges
abbrev pub ended : (edges : ℕ) → List ℕ → List ℕ → List ℕ
ended edges xs [] = xs
ended edges xs (f ∷ fs) = without (ended edges xs fs) (edges + f)

-- The edges, each once, have capping brackets in the list.
pub record HaveCaps (edges : ℕ) (xs fs : List ℕ) : Type 0 where
  pub once : IsOnce fs
  pub stand : (f : ℕ) → Stands fs f → Stands xs (edges + f)
  pub few : (f : ℕ) → Stands fs f → edges + f < 2 ^ 32

-- For each place the edges of the nodes whose capping brackets lead there.
abbrev pub caps_at : List (List ℕ) → ℕ → List ℕ
caps_at caps k = slice_index_or caps k []

-- A node's list: those that lead to its place have ended, and its own stands on top where its second reach is above it.
abbrev pub ended_list : (edges : ℕ) (lists caps : List (List ℕ)) (f place second : ℕ) → List ℕ
ended_list edges lists caps f place second =
    if nat_lt second place then (edges + f) ∷ ended edges (list_at lists f) (caps_at caps place) else ended edges (list_at lists f) (caps_at caps place)

abbrev pub ended_caps : (caps : List (List ℕ)) (f place second : ℕ) → List (List ℕ)
ended_caps caps f place second =
    if nat_lt second place then set (set caps place []) second (caps_at caps second ++ f ∷ []) else set caps place []

-- how many there are
abbrev pub caps_total : List (List ℕ) → ℕ
caps_total caps = sum_by length caps
