-- Cells that are told their neighbours.
use Rattle.std.proofs.Common.{◌≡◌, ◌≢◌, ℕ, ◌<◌, ◌≤◌, true, false, List, length, set, slice_index_or, IsSome, Option, Some, None, ap, subst, ⊎_elim}
use Rattle.std.proofs.lemmas.Bool.{cases_lt}
use Rattle.std.proofs.lemmas.List.{get_or_past, get_or-set_same, get_or-set_other}
use Rattle.brackets.specs.Kept.{above, above_in, below, below_in}
use Rattle.brackets.specs.declared.lists.Cell.{Cell}

-- a cell that is there has a place
pub cell_inside : (cells : List (Option Cell)) (x : ℕ) → IsSome (slice_index_or cells x None) → x < length cells
cell_inside cells x some = ⊎_elim
    (λ lt. lt)
    (λ (past : length cells ≤ x). let e : false ≡ true = subst IsSome (get_or_past cells x None past) some in absurd cc)
    (cases_lt x (length cells))

module _ (cells : List (Option Cell)) (x : ℕ) (inside : x < length cells) (cell : Cell) where
  pub set_here : slice_index_or (set cells x (Some cell)) x None ≡ Some cell
  set_here = get_or-set_same cells x (Some cell) None inside

  pub set_above : above (set cells x (Some cell)) x ≡ cell.above
  set_above = ap above_in set_here

  pub set_below : below (set cells x (Some cell)) x ≡ cell.below
  set_below = ap below_in set_here

  pub set_other : (y : ℕ) → y ≢ x → slice_index_or (set cells x (Some cell)) y None ≡ slice_index_or cells y None
  set_other y differ = get_or-set_other cells x y (Some cell) None differ
