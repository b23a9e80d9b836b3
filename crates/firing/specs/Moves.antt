-- What the markings of a step system mean.
use Rattle.std.specs.Prelude.{◌≡◌, ◌≢◌, ◌<◌, ℕ, Bool, true, List, [], Option, Some, None}
use Rattle.op_table.specs.declared.Trap.{Trap}
use Rattle.firing.specs.declared.system.NodeName.{NodeName}
use Rattle.firing.specs.declared.system.Fired.{Fired}
use Rattle.firing.specs.declared.system.Fired.TheVariants.{Moved, Line, Trapped}

-- the nodes, and what firing one of them does to a marking
pub record Moves (M : Type 0) : Type 0 where
  pub nodes : ℕ
  pub name : ℕ → NodeName
  -- the nodes that need or move the line of output
  pub serial : ℕ → Bool
  pub ready : M → ℕ → Bool
  -- the marking after a firing
  pub fired : M → ℕ → M
  -- the line that a firing writes
  pub line : M → ℕ → Option (List ℕ)
  -- what trapped, and at which line of the source
  pub trap : M → Option (Trap × ℕ)

-- the bytes of a line, if there is one
abbrev pub line_bytes : Option (List ℕ) → List ℕ
line_bytes None = []
line_bytes (Some bytes) = bytes

-- the newest line
abbrev pub newest : Option (List ℕ) → List ℕ → List ℕ
newest None old = old
newest (Some bytes) old = bytes

-- a node that may fire: nothing has trapped, and the node is ready
pub record CanFire {M : Type 0} (s : Moves M) (m : M) (k : ℕ) : Type 0 where
  pub going : s.trap m ≡ None
  pub node : k < s.nodes
  pub ready : s.ready m k ≡ true

-- a firing that neither writes a line nor traps
pub record IsSilent {M : Type 0} (s : Moves M) (m : M) (k : ℕ) : Type 0 where
  pub line : s.line m k ≡ None
  pub trap : s.trap (s.fired m k) ≡ None

-- what a firing answers
abbrev pub FiredIs : {M : Type 0} → Moves M → M → ℕ → Fired → Type 0
FiredIs s m k Moved = IsSilent s m k
FiredIs s m k Line = (s.line m k ≢ None) × (s.trap (s.fired m k) ≡ None)
FiredIs s m k Trapped = (s.line m k ≡ None) × (s.trap (s.fired m k) ≢ None)

-- the newest line, where the last firing wrote it
abbrev pub line_after : Fired → List ℕ → List ℕ
line_after Line newest = newest
line_after _ newest = []
