-- How the lists are kept: a cell for each bracket, and the ends of each list.
use Rattle.std.specs.Prelude.{◌≡◌, ◌*◌, ◌<◌, ◌^◌, ℕ, List, length, get_or, map, set, slice_index_or, Option, Some, None, IsSome}
use Rattle.brackets.specs.declared.lists.Cell.{Cell}
use Rattle.brackets.specs.declared.lists.Ends.{Ends}
use Rattle.brackets.specs.Brackets.{AreApart}
use Rattle.brackets.specs.Links.{IsChain, first_of, last_of, read}

abbrev pub above_in : Option Cell → Option ℕ
above_in None = None
above_in (Some cell) = cell.above

abbrev pub below_in : Option Cell → Option ℕ
below_in None = None
below_in (Some cell) = cell.below

abbrev pub above : List (Option Cell) → ℕ → Option ℕ
above cells x = above_in (slice_index_or cells x None)

abbrev pub below : List (Option Cell) → ℕ → Option ℕ
below cells x = below_in (slice_index_or cells x None)

-- a cell, if it is one, is there
abbrev pub HasCell : List (Option Cell) → Option ℕ → Type 0
HasCell cells None = Unit {0}
HasCell cells (Some x) = IsSome (slice_index_or cells x None)

-- the cells after one of them was told what is above or below it
abbrev pub with_above : List (Option Cell) → Option ℕ → Option ℕ → List (Option Cell)
with_above cells None cell = cells
with_above cells (Some x) cell = set cells x (Some (record { above = cell; below = below cells x }))

abbrev pub with_below : List (Option Cell) → Option ℕ → Option ℕ → List (Option Cell)
with_below cells None cell = cells
with_below cells (Some x) cell = set cells x (Some (record { above = above cells x; below = cell }))

-- an end of a list after a bracket went: where the bracket had a neighbour towards the end, it is as it was
abbrev pub end_after : Option ℕ → Option ℕ → Option ℕ → Option ℕ
end_after None end away = away
end_after (Some x) end away = end

-- the brackets of a list, from its top down
abbrev pub brackets_of : List (Option Cell) → Ends → List ℕ
brackets_of cells ends = read (below cells) ends.size ends.top

abbrev pub lists_of : List (Option Cell) → List Ends → List (List ℕ)
lists_of cells lists = map (brackets_of cells) lists

-- the ends and the links of a sequence
pub record IsKept (cells : List (Option Cell)) (ends : Ends) (xs : List ℕ) : Type 0 where
  pub chain : IsChain (above cells) (below cells) None xs None
  pub top : ends.top ≡ first_of xs None
  pub bottom : ends.bottom ≡ last_of xs None
  pub size : ends.size ≡ length xs

abbrev pub no_ends : Ends
no_ends = record { top = None; bottom = None; size = 0 }

-- Each list is kept, each bracket has a cell, and none stands twice.
pub record AreKept (cells : List (Option Cell)) (lists : List Ends) : Type 0 where
  pub few : length lists < 2 ^ 31
  pub has_cell : (x : ℕ) → x < 2 * length lists → IsSome (slice_index_or cells x None)
  pub kept : (l : ℕ) → l < length lists → IsKept cells (get_or lists l no_ends) (brackets_of cells (get_or lists l no_ends))
  pub apart : AreApart (lists_of cells lists)
