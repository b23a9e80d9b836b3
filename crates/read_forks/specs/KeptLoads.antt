-- What is kept for the loads of a net beside the net itself.
use Rattle.std.specs.Prelude.{◌≡◌, ℕ, ◌==◌, true, false, List, length}
use Rattle.std.specs.List.{list_any}
use Rattle.list_laws.specs.Member.{Member}
use Rattle.op_board.specs.OperationNets.{OperationNet}
use Rattle.op_board.specs.OperationTokens.{OperationTokens}
use Rattle.read_forks.specs.LoadChanges.{Loaded}
use Rattle.read_forks.specs.NodeLinks.{AreSteps, AreValueLoads, opened_in}
use Rattle.read_forks.specs.OpenGroups.{AreClosed, AreGroups, AreOpenNear, is_near_in}
use Rattle.read_forks.specs.Ways.{AreWays}
use Rattle.read_forks.specs.declared.waiting.Waiting.{Waiting}

-- for which loads lines are open
abbrev pub opened_of : OperationNet → Waiting → Loaded
opened_of x w = opened_in x w.links.items

-- what no firing changes: what is looked up of nodes
pub record AreTables (x : OperationNet) (w : Waiting) : Type 0 where
  pub steps : AreSteps x w.steps w.links.items
  pub ways : ∥ AreWays x w.links.items ∥₁
  pub values : AreValueLoads x w.steps w.givers.items
  pub lines : length w.groups.items ≡ x.net.routing.lines
  pub nodes : length w.closed.items ≡ length w.steps

-- and what it changes: lines are open for loads of the groups before which they stand, it is counted how many aren't open for each load,
-- and each line for which loads are open has its group
pub record AreKept (x : OperationNet) (m : OperationTokens) (w : Waiting) : Type 0 where
  pub tables : AreTables x w
  pub near : AreOpenNear x m (opened_of x w)
  pub closed : AreClosed x (opened_of x w) w.closed.items
  pub groups : AreGroups x m (opened_of x w) w.groups.items

-- ---- lines are opened

-- the line is open for no load
abbrev pub IsOpenForNone : Loaded → (line : ℕ) → Type 0
IsOpenForNone opened line = (piece number : ℕ) → opened line piece number ≡ false

-- these lines were opened for the loads of the groups before which they stand, and nothing else was
pub record AreOpened (x : OperationNet) (m : OperationTokens) (lines : List ℕ) (old new : Loaded) : Type 0 where
  pub here : (line : ℕ) → list_any (λ l. l == line) lines ≡ true → (piece number : ℕ) → new line piece number ≡ is_near_in x m line piece number
  pub others : (line : ℕ) → list_any (λ l. l == line) lines ≡ false → (piece number : ℕ) → new line piece number ≡ old line piece number

-- ---- lines are closed

-- what is kept of lines alone, while a load closes its own
pub record AreLinesKept (x : OperationNet) (m : OperationTokens) (w : Waiting) : Type 0 where
  pub tables : AreTables x w
  pub near : AreOpenNear x m (opened_of x w)
  pub groups : AreGroups x m (opened_of x w) w.groups.items

-- these lines were closed for a load, and nothing else was
pub record AreClosedFor (lines : List ℕ) (piece i : ℕ) (old new : Loaded) : Type 0 where
  pub here : (line : ℕ) → Member lines line → new line piece i ≡ false
  pub others : (line p n : ℕ) → ((p ≡ piece) × (n ≡ i) → ⊥) → new line p n ≡ old line p n
