-- What the chain of an executable is made of.
use Rattle.std.specs.Prelude.{◌≡◌, ℕ, ◌<◌, Bool, true, false, List, [], ◌∷◌, ◌++◌, length, count_by, slice_get, slice_index}
use Rattle.closed_walks.specs.Graph.{to}
use Rattle.f77_tree.specs.declared.programs.Exec.{Exec}
use Rattle.f77_tree.specs.declared.programs.ExecKind.{ExecKind}
use Rattle.f77_tree.specs.declared.programs.ExecKind.TheVariants as exec
use Rattle.f77_tree.specs.Control.{successors}
use Rattle.f77_tree.specs.Loops.{do_start}
use Rattle.cfg_build.specs.declared.pieces.PieceKind.{PieceKind}
use Rattle.cfg_build.specs.declared.pieces.PieceKind.TheVariants as piece
use Rattle.cfg_build.specs.Parts.{line_in}
use Rattle.cfg_build.specs.Joined.{FlowGraph}
use Rattle.cfg_build.specs.Flow.{piece_at}
use Rattle.cfg_build.specs.Passes.{out}

-- a join or a hold only leads on
abbrev pub leads_on : PieceKind → Bool
leads_on piece.Join = true
leads_on piece.Hold = true
leads_on _ = false

abbrev pub is_hold : PieceKind → Bool
is_hold piece.Hold = true
is_hold _ = false

-- how many of these pieces are holds
abbrev pub holds_in : FlowGraph → List ℕ → ℕ
holds_in f pieces = count_by (λ node. is_hold (piece_at f.pieces node).kind) pieces

-- from this piece on joins and holds, each of which leads to the next by its first edge, up to the last piece
abbrev pub IsRoute : FlowGraph → (node : ℕ) → List ℕ → (last : ℕ) → Type 0
IsRoute f node [] last = node ≡ last
IsRoute f node (first ∷ rest) last = (node ≡ first) × (leads_on (piece_at f.pieces first).kind ≡ true) × IsRoute f (to f.graph (out f.graph first 0)) rest last

-- the kind of the last piece of an executable
abbrev pub last_kind : ExecKind → PieceKind
last_kind (exec.Assign target value next) = piece.Act
last_kind (exec.Print items next) = piece.Act
last_kind (exec.Pass next) = piece.Pass
last_kind exec.End = piece.End
last_kind _ = piece.Branch

-- the executable to which the last piece belongs: an increment shares the test of its DO
abbrev pub owner : List Exec → ℕ → ExecKind → ℕ
owner execs k (exec.DoNext loop_no var body exit) = do_start execs loop_no
owner execs k _ = k

-- a piece of this kind, made for this executable
pub record IsMade (f : FlowGraph) (execs : List Exec) (node : ℕ) (kind : PieceKind) (k : ℕ) : Type 0 where
  pub kind_is : (piece_at f.pieces node).kind ≡ kind
  pub exec_is : (piece_at f.pieces node).exec ≡ k
  pub line_is : (piece_at f.pieces node).line ≡ line_in (slice_get execs k)

-- the last piece of an executable: its edges lead to the successors, in order
pub record IsLast (f : FlowGraph) (entry : ℕ → ℕ) (execs : List Exec) (k : ℕ) (kind : ExecKind) (node : ℕ) : Type 0 where
  pub made : IsMade f execs node (last_kind kind) (owner execs k kind)
  pub leads : (i : ℕ) → i < length (successors kind) → to f.graph (out f.graph node i) ≡ entry (slice_index (successors kind) i)

-- the pieces of an executable that is one part
pub record IsOnePart (f : FlowGraph) (entry : ℕ → ℕ) (execs : List Exec) (k : ℕ) (kind : ExecKind) (pieces : List ℕ) : Type 0 where
  pub prefix : List ℕ
  pub last : ℕ
  pub are : pieces ≡ prefix ++ last ∷ []
  pub route : IsRoute f (entry k) prefix last
  pub ends : IsLast f entry execs k kind last

-- the pieces of a DO that begins or is incremented: an act, and the test
pub record IsTwoParts (f : FlowGraph) (entry : ℕ → ℕ) (execs : List Exec) (k : ℕ) (kind : ExecKind) (pieces : List ℕ) : Type 0 where
  pub prefix : List ℕ
  pub act : ℕ
  pub middle : List ℕ
  pub test : ℕ
  pub are : pieces ≡ prefix ++ act ∷ (middle ++ test ∷ [])
  pub route : IsRoute f (entry k) prefix act
  pub acts : IsMade f execs act piece.Act k
  pub on : IsRoute f (to f.graph (out f.graph act 0)) middle test
  pub ends : IsLast f entry execs k kind test

-- the pieces that control takes for an executable, from the one to which each edge to it leads
abbrev pub AreChain : FlowGraph → (entry : ℕ → ℕ) → List Exec → ℕ → (has_test : Bool) → ExecKind → List ℕ → Type 0
AreChain f entry execs k true kind pieces = IsTwoParts f entry execs k kind pieces
AreChain f entry execs k false kind pieces = IsOnePart f entry execs k kind pieces
