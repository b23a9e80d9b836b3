-- The control of a source's own order. It is kept beside a marking: a place, until another node fires than the one that is
-- due there; from then on it is lost.
use Rattle.std.specs.Prelude.{◌≡◌, ℕ, Bool, false, nat_eq, if◌then◌else◌, Option, Some, None}
use Rattle.firing.specs.Moves.{Moves, CanFire}
use Rattle.firing.specs.Choice.{lowest}

-- which node is due at a place, and to which place its firing leads
pub record Course (M P : Type 0) : Type 0 where
  pub due : M → P → Option ℕ
  pub moved : M → P → P

-- the node that is due at the place of control
abbrev pub due_at : {M P : Type 0} → Course M P → M → Option P → Option ℕ
due_at course m None = None
due_at course m (Some p) = course.due m p

-- the node that is due: without control the lowest ready node
abbrev pub due_node : {M P : Type 0} → Moves M → Course M P → M → Option P → Option ℕ
due_node s course m None = lowest s m
due_node s course m (Some p) = course.due m p

-- whether it is this node
abbrev pub is_node : Option ℕ → ℕ → Bool
is_node None k = false
is_node (Some j) k = nat_eq j k

-- the control after a node fires
abbrev pub steered : {M P : Type 0} → Course M P → M → Option P → ℕ → Option P
steered course m None k = None
steered course m (Some p) k = if is_node (course.due m p) k then Some (course.moved m p) else None

-- A control that can stand beside a marking, where these places can: also a lost one, and any after a trap.
abbrev pub IsInStep : {M P : Type 0} → Moves M → (M → P → Type 0) → M → Option P → Type 0
IsInStep s in_step m None = Unit {0}
IsInStep s in_step m (Some p) = s.trap m ≡ None → in_step m p

-- Where the node that is due fires without a trap, control stays in step.
pub record KeepsStep {M P : Type 0} (sound : M → Type 0) (s : Moves M) (course : Course M P) (in_step : M → P → Type 0) : Type 0 where
  pub kept : (m : M) (p : P) (k : ℕ) → sound m → in_step m p → CanFire s m k → course.due m p ≡ Some k → s.trap (s.fired m k) ≡ None → in_step (s.fired m k) (course.moved m p)
