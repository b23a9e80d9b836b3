-- How steps are kept: in rows, and for each node the number of its own row. No contract of another module cites this one.
use Rattle.std.specs.Prelude.{◌≡◌, ◌<◌, ◌≤◌, ◌+◌, ℕ, List, length, map, Option, Some, None, slice_get}
use Rattle.read_forks.specs.NodeLinks.{turn_step}
use Rattle.read_forks.specs.declared.steps.Step.{Step}
use Rattle.read_forks.specs.declared.steps.Steps.TheInside.{Inside}

abbrev pub step_in : Option Step → Step
step_in None = turn_step
step_in (Some step) = step

-- the step in the row with this number
abbrev pub row_at : List Step → (n : ℕ) → Step
row_at rows n = step_in (slice_get rows n)

abbrev pub steps_of : Inside → List Step
steps_of d = map (row_at d.rows.items) d.numbers.items

-- the first row is that of all nodes which are no operations, each number is that of a row, and each other row is that of a node
pub record AreRows (d : Inside) : Type 0 where
  pub turn : slice_get d.rows.items 0 ≡ Some turn_step
  pub exist : (k n : ℕ) → slice_get d.numbers.items k ≡ Some n → n < length d.rows.items
  -- no node has two rows
  pub few : length d.rows.items ≤ length d.numbers.items + 1
