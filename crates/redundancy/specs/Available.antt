-- Available expressions: a candidate is available at a piece where on every walk from the start to it some piece before it computes
-- the candidate, and neither that piece nor a later one before it writes what the candidate reads.
use Rattle.std.specs.Prelude.{◌≡◌, ℕ, ◌/◌, ◌%◌, ◌<◌, ◌↔◌, Bool, true, not, ◌==◌, List, [], ◌∷◌, ◌++◌, Some, length, slice_get, slice_index, slice_index_or}
use Rattle.std.specs.Int.{bit_at}
use Rattle.closed_walks.specs.Graph.{Graph, from}
use Rattle.closed_walks.specs.Walk.{Walk, Holds}
use Rattle.f77_tree.specs.declared.expressions.Expr.{Expr}
use Rattle.f77_tree.specs.declared.programs.Program.{Program}
use Rattle.alias_classes.specs.Classes.{ClassTable}
use Rattle.cfg_build.specs.Joined.{FlowGraph}
use Rattle.redundancy.specs.Computed.{Computes, Kills, AreCandidates}

-- An edge of the walk leaves a node that computes, and from that node on none kills. The node at which the walk ends doesn't count.
pub record IsComputedOn (g : Graph) (computes kills : ℕ → Type 0) (walk : List ℕ) : Type 0 where
  pub before : List ℕ
  pub edge : ℕ
  pub after : List ℕ
  pub is : walk ≡ before ++ edge ∷ after
  pub computed : computes (from g edge)
  pub kept : (x : ℕ) → Holds (edge ∷ after) x → kills (from g x) → ⊥

-- on every walk from the start to the node it is computed
abbrev pub IsOnAllWalks : Graph → (computes kills : ℕ → Type 0) → (node : ℕ) → Type 0
IsOnAllWalks g computes kills node = (walk : List ℕ) → Walk g 0 walk node → IsComputedOn g computes kills walk

-- the candidate is available at the piece
abbrev pub IsAvailable : Program → FlowGraph → ClassTable → Expr → (node : ℕ) → Type 0
IsAvailable p f c e node = IsOnAllWalks f.graph (Computes p f e) (Kills p f c e) node

-- ---- the table

-- candidates in order, and for each 64 of them a row of words, one for each piece: a bit is set where the candidate isn't available
pub record Availability : Type 0 where
  pub candidates : List Expr
  pub pieces : ℕ
  pub missing : List (List ℕ)

-- whether the bit is set
abbrev pub has_bit : (word k : ℕ) → Bool
has_bit word k = bit_at word k == 1

-- whether the bit of a candidate is set at a piece
abbrev pub has_mark : List (List ℕ) → (k node : ℕ) → Bool
has_mark rows k node = has_bit (slice_index (slice_index_or rows (k / 64) []) node) (k % 64)

-- whether the candidate with this number is available at the piece
abbrev pub available_at : Availability → (k node : ℕ) → Bool
available_at a k node = not (has_mark a.missing k node)

-- the table has exactly the candidates of the program, and tells for each piece exactly which ones are available there
pub record IsAvailability (p : Program) (f : FlowGraph) (c : ClassTable) (a : Availability) : Type 0 where
  pub pieces : a.pieces ≡ f.graph.nodes
  pub candidates : AreCandidates p f a.candidates
  pub available : (k node : ℕ) (e : Expr) → slice_get a.candidates k ≡ Some e → node < f.graph.nodes → (available_at a k node ≡ true) ↔ IsAvailable p f c e node

-- the tables have the same candidates, and tell the same of each at every piece of the flow graph
pub record AreSameAvailability (f : FlowGraph) (a b : Availability) : Type 0 where
  pub candidates : a.candidates ≡ b.candidates
  pub available : (k node : ℕ) → k < length a.candidates → node < f.graph.nodes → available_at a k node ≡ available_at b k node
