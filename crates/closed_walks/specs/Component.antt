-- What a walk for the strongly connected components keeps. No public clause cites this module.
use Rattle.std.specs.Prelude.{◌≡◌, ℕ, ◌+◌, ◌<◌, ◌≤◌, nat_le, ◌⊎◌, ◌↔◌, Bool, true, false, List, [], ◌∷◌, ◌++◌, length, slice_index, slice_index_or}
use Rattle.closed_walks.specs.Graph.{Graph, edge_count, from, to}
use Rattle.closed_walks.specs.Walk.{Holds, Reach}
use Rattle.closed_walks.specs.Search.{is_visited, Nothing}
use Rattle.closed_walks.specs.Cycling.{IsOnCycle}
use Rattle.closed_walks.specs.declared.component_walk.Stage.{Stage}
use Rattle.closed_walks.specs.declared.component_walk.Stage.TheVariants.{New, Member, Done}
use Rattle.closed_walks.specs.declared.component_walk.ComponentWalk.{ComponentWalk}

-- ---- lists

-- whether the number is marked
abbrev pub marked : List Bool → ℕ → Bool
marked marks k = slice_index_or marks k false

-- each item is less, in a sense that is given, than the ones after it
abbrev pub IsOrdered : (ℕ → ℕ → Type 0) → List ℕ → Type 0
IsOrdered less [] = Unit {0}
IsOrdered less (x ∷ xs) = ((y : ℕ) → Holds xs y → less x y) × IsOrdered less xs

pub record IsLast (xs : List ℕ) (x : ℕ) : Type 0 where
  pub prefix : List ℕ
  pub parts : xs ≡ prefix ++ x ∷ []

-- the number is a bound, and isn't above the place
pub record IsBound (bounds : List ℕ) (place b : ℕ) : Type 0 where
  pub inside : Holds bounds b
  pub below : b ≤ place

-- ---- edges that aren't avoided

pub record IsFree (g : Graph) (avoided : ℕ → Bool) (e : ℕ) : Type 0 where
  pub exists : e < edge_count g
  pub free : avoided e ≡ false

-- an edge leads from u to v, and isn't avoided
pub record HasEdge (g : Graph) (avoided : ℕ → Bool) (u v : ℕ) : Type 0 where
  pub edge : ℕ
  pub free : IsFree g avoided edge
  pub begins : from g edge ≡ u
  pub ends : to g edge ≡ v

-- the edges from the node that aren't avoided are put after the old ones
pub record Adds (g : Graph) (avoided : ℕ → Bool) (node : ℕ) (old new : List ℕ) : Type 0 where
  pub added : List ℕ
  pub parts : new ≡ old ++ added
  pub few : length added ≤ edge_count g
  pub sound : (e : ℕ) → Holds added e → IsFree g avoided e × (from g e ≡ node)
  pub whole : (e : ℕ) → IsFree g avoided e → from g e ≡ node → Holds added e

-- ---- stages of nodes

abbrev pub stage_of : List Stage → ℕ → Stage
stage_of stages node = slice_index_or stages node New

-- the place of a member, and 0 for other nodes
abbrev pub place : Stage → ℕ
place New = 0
place (Member p) = p
place Done = 0

-- the node is a member at the place or after it
abbrev pub stands_from : Stage → ℕ → Bool
stands_from New first = false
stands_from (Member p) first = nat_le first p
stands_from Done first = false

abbrev pub IsFound : Stage → Type 0
IsFound New = ⊥
IsFound (Member p) = Unit {0}
IsFound Done = Unit {0}

-- the given room for each node that isn't found
abbrev pub left : (room : ℕ) → List Stage → ℕ
left room [] = 0
left room (New ∷ stages) = left room stages + room
left room (Member p ∷ stages) = left room stages
left room (Done ∷ stages) = left room stages

-- these nodes are done, and on cycles or not, and nothing else is changed
pub record AreDone (nodes : List ℕ) (on_cycle : Bool) (stages : List Stage) (marks : List Bool) (new_stages : List Stage) (new_marks : List Bool) : Type 0 where
  pub stages_size : length new_stages ≡ length stages
  pub marks_size : length new_marks ≡ length marks
  pub done : (v : ℕ) → Holds nodes v → stage_of new_stages v ≡ Done
  pub told : (v : ℕ) → Holds nodes v → is_visited new_marks v ≡ on_cycle
  pub other_stage : (v : ℕ) → (Holds nodes v → ⊥) → stage_of new_stages v ≡ stage_of stages v
  pub other_mark : (v : ℕ) → (Holds nodes v → ⊥) → is_visited new_marks v ≡ is_visited marks v

-- ---- the walk

-- the segment of the first place is that of the second, or before it
abbrev pub IsBefore : (bounds : List ℕ) (p q : ℕ) → Type 0
IsBefore bounds p q = (b : ℕ) → Holds bounds b → b ≤ p → b ≤ q

-- where an edge that was followed from the place p leads: to a node that is done, or to the segment of p or a later one
abbrev pub IsSettled : (bounds : List ℕ) (p : ℕ) → Stage → Type 0
IsSettled bounds p New = ⊥
IsSettled bounds p (Member q) = IsBefore bounds p q
IsSettled bounds p Done = Unit {0}

-- The pending edges begin at members, and those of later members stand later.
pub record ArePending (g : Graph) (stages : List Stage) (pending : List ℕ) : Type 0 where
  pub edges : (e : ℕ) → Holds pending e → e < edge_count g
  pub begin : (e : ℕ) → Holds pending e → stage_of stages (from g e) ≡ Member (place (stage_of stages (from g e)))
  pub order : IsOrdered (λ e f. place (stage_of stages (from g e)) ≤ place (stage_of stages (from g f))) pending

-- all members reach the node
abbrev pub AreReaching : Graph → (ℕ → Bool) → List ℕ → ℕ → Type 0
AreReaching g avoided members v = (p : ℕ) → p < length members → Reach g avoided (slice_index members p) v

-- The state of the walk, but for edges of `rest`, which were followed from members and needn't be settled.
pub record IsState (g : Graph) (avoided : ℕ → Bool) (rest : ℕ → Type 0) (stages : List Stage) (marks : List Bool) (members bounds pending : List ℕ) : Type 0 where
  pub stages_size : length stages ≡ g.nodes
  pub marks_size : length marks ≡ g.nodes
  -- the members stand at their places
  pub placed : (v p : ℕ) → stage_of stages v ≡ Member p → (p < length members) × (slice_index members p ≡ v)
  pub stage_at : (p : ℕ) → p < length members → stage_of stages (slice_index members p) ≡ Member p
  -- the segments aren't empty, and the first begins at the first member
  pub within : (b : ℕ) → Holds bounds b → b < length members
  pub order : IsOrdered (λ a b. a < b) bounds
  pub first : 0 < length members → Holds bounds 0
  -- a member reaches those of its segment and of later ones
  pub reaches : (p q : ℕ) → p < length members → q < length members → IsBefore bounds p q → Reach g avoided (slice_index members p) (slice_index members q)
  -- an edge from a member is pending, or leads to no earlier segment and to no new node
  pub waiting : ArePending g stages pending
  pub free : (e : ℕ) → Holds pending e → avoided e ≡ false
  pub settled : (e p : ℕ) → IsFree g avoided e → stage_of stages (from g e) ≡ Member p → Holds pending e ⊎ (IsSettled bounds p (stage_of stages (to g e)) ⊎ rest e)
  -- an edge from a node that is done leads to one, and the marks of such nodes are right
  pub done : (e : ℕ) → IsFree g avoided e → stage_of stages (from g e) ≡ Done → stage_of stages (to g e) ≡ Done
  pub told : (v : ℕ) → stage_of stages v ≡ Done → (is_visited marks v ≡ true) ↔ IsOnCycle g avoided v

abbrev pub IsWalkBut : Graph → (ℕ → Bool) → (ℕ → Type 0) → ComponentWalk → Type 0
IsWalkBut g avoided rest walk = IsState g avoided rest walk.stages.items walk.marks.items walk.members.items walk.bounds.items walk.pending.items

abbrev pub IsWalk : Graph → (ℕ → Bool) → ComponentWalk → Type 0
IsWalk g avoided walk = IsWalkBut g avoided Nothing walk

-- the nodes that were found are found still
abbrev pub KeepsFound : (old new : ComponentWalk) → Type 0
KeepsFound old new = (v : ℕ) → IsFound (stage_of old.stages.items v) → IsFound (stage_of new.stages.items v)

-- What is left to do: an edge is pending once, and a node that is found makes at most so many edges pending as there are.
abbrev pub work : (edges : ℕ) → ComponentWalk → ℕ
work edges walk = left (edges + 2) walk.stages.items + length walk.pending.items + length walk.bounds.items
