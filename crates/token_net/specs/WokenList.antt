-- A list of the nodes that a firing can have made ready, while it grows.
use Rattle.std.specs.Prelude.{ℕ, List}
use Rattle.std.specs.List.{Contains}

-- the list still has what it had
abbrev pub Keeps : (old new : List ℕ) → Type 0
Keeps old new = (j : ℕ) → Contains old j → Contains new j
