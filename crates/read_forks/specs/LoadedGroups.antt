-- Loads that have fired belong to the groups before which their lines stand.
use Rattle.std.specs.Prelude.{◌≡◌, ℕ, Bool, true, false, Option, Some, None}
use Rattle.op_board.specs.OperationNets.{OperationNet}
use Rattle.fork_board.specs.LoadGroups.{group_at, is_among, spot}
use Rattle.fork_board.specs.ForkTokens.{ForkTokens, Standing, standing}

-- the load is one of the group before which the line stands
abbrev pub is_near_on : OperationNet → (line piece number passed : ℕ) → Option ℕ → Bool
is_near_on x line piece number passed None = false
is_near_on x line piece number passed (Some edge) = is_among (group_at x line (spot edge passed)) piece number

abbrev pub is_near : OperationNet → (line piece number : ℕ) → Standing → Bool
is_near x line piece number s = is_near_on x line piece number s.passed s.edge

abbrev pub LineIsNear : OperationNet → ForkTokens → (line : ℕ) → Type 0
LineIsNear x m line = (piece number : ℕ) → m.loaded line piece number ≡ true → is_near x line piece number (standing m line) ≡ true

abbrev pub AreNear : OperationNet → ForkTokens → Type 0
AreNear x m = (line : ℕ) → LineIsNear x m line
