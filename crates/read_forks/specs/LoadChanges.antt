-- Changes of the loads that have fired on lines.
use Rattle.std.specs.Prelude.{◌≡◌, ℕ, Bool, true, false, List}
use Rattle.std.specs.List.{list_all}
use Rattle.op_board.specs.OperationNets.{OperationNet}
use Rattle.fork_board.specs.LoadGroups.{Site, Spot, group_at, is_among}

-- which loads have fired on which lines
abbrev pub Loaded : Type 0
Loaded = (line piece number : ℕ) → Bool

-- all loads of the group that the line meets there have fired on it
abbrev pub are_loaded : OperationNet → Loaded → (line : ℕ) → Spot → Bool
are_loaded x loaded line s = list_all (λ (load : Site). loaded line load.piece load.number) (group_at x line s)

-- this load has fired on the line, or hasn't, and nothing else has changed
pub record IsPut (line piece i : ℕ) (fired : Bool) (old new : Loaded) : Type 0 where
  pub here : new line piece i ≡ fired
  pub others : (l p n : ℕ) → ((l ≡ line) × (p ≡ piece) × (n ≡ i) → ⊥) → new l p n ≡ old l p n

-- no load of the group has fired on the line, and no other one has that hadn't; on other lines nothing has changed
pub record IsForgotten (line : ℕ) (group : List Site) (old new : Loaded) : Type 0 where
  pub left : (piece number : ℕ) → new line piece number ≡ true → (old line piece number ≡ true) × (is_among group piece number ≡ false)
  pub others : (l piece number : ℕ) → (l ≡ line → ⊥) → new l piece number ≡ old l piece number
