-- The grid in which the rounds of a run are drawn.
use Rattle.std.specs.Prelude.{◌≡◌, ◌<◌, ◌-◌, ℕ, suc, List, [], ◌∷◌, if◌then◌else◌, nat_le}
use Rattle.printed_graphs.specs.declared.trace.Firing.{Firing}
use Rattle.round_charts.specs.declared.grid.Cell.{Cell}
use Rattle.round_charts.specs.declared.grid.Seat.{Seat}
use Rattle.round_charts.specs.declared.parts.DrawnCell.{DrawnCell}

-- a cell stands in a grid of so many columns and rows
abbrev pub IsInGrid : (columns rows : ℕ) → Cell → Type 0
IsInGrid columns rows cell = (cell.column < columns) × (cell.row < rows)

-- a cell stands in the column of its round; rounds are counted from 1, and columns from 0
abbrev pub IsInColumn : Cell → Type 0
IsInColumn cell = cell.column ≡ cell.seat.round - 1

-- a firing: its place in the run, its node and its round
pub record Key : Type 0 where
  pub firing : ℕ
  pub node : ℕ
  pub round : ℕ

abbrev pub key_of : Seat → Key
key_of seat = record { firing = seat.firing; node = seat.node; round = seat.round }

abbrev pub key_in : Cell → Key
key_in cell = key_of cell.seat

abbrev pub key_drawn : DrawnCell → Key
key_drawn cell = record { firing = cell.firing; node = cell.node; round = cell.round }

-- the firings of the rounds up to `most`, of which the first has this place in the run
abbrev pub keys_from : (most firing : ℕ) → List Firing → (rounds : List ℕ) → List Key
keys_from most firing [] rounds = []
keys_from most firing (f ∷ fs) [] = []
keys_from most firing (f ∷ fs) (r ∷ rs) =
    if nat_le r most then record { firing = firing; node = f.node; round = r } ∷ keys_from most (suc firing) fs rs else keys_from most (suc firing) fs rs
