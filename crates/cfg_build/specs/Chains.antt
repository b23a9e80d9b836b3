-- Chains: the pieces that control takes in one step of a program.
use Rattle.std.specs.Prelude.{◌≡◌, ℕ, zero, suc, ◌+◌, ◌≤◌, ◌==◌, Bool, true, false, ◌&&◌, not, ℤ, if◌then◌else◌, List, [], ◌∷◌, length, slice_get}
use Rattle.std.specs.List.{list_any, position_or_len}
use Rattle.closed_walks.specs.Graph.{to}
use Rattle.f77_tree.specs.declared.programs.Exec.{Exec}
use Rattle.f77_tree.specs.declared.programs.ExecKind.{ExecKind}
use Rattle.f77_tree.specs.declared.programs.ExecKind.TheVariants.{DoStart, DoNext}
use Rattle.f77_tree.specs.declared.programs.Program.{Program}
use Rattle.f77_tree.specs.Run.{State, Running, source}
use Rattle.cfg_build.specs.declared.pieces.Piece.{Piece}
use Rattle.cfg_build.specs.declared.pieces.PieceKind.{PieceKind}
use Rattle.cfg_build.specs.declared.pieces.PieceKind.TheVariants.{Act, Join, Hold}
use Rattle.cfg_build.specs.declared.parts.Target.TheVariants.{First}
use Rattle.cfg_build.specs.Parts.{parts}
use Rattle.cfg_build.specs.Joined.{joined, number}
use Rattle.cfg_build.specs.Holds.{is_join}
use Rattle.cfg_build.specs.Flow.{flow, held, piece_at}
use Rattle.cfg_build.specs.Passes.{PassState, out, kind_in}

-- the number of the hold of a piece
abbrev pub hold_of : List Exec → ℕ → ℕ
hold_of execs node = (joined execs).graph.nodes + position_or_len (λ x. x == node) (held execs)

-- a hold stands before the piece, which is no join
abbrev pub is_after_hold : List Exec → ℕ → Bool
is_after_hold execs node = list_any (λ x. x == node) (held execs) && not (is_join (piece_at (joined execs).pieces node).kind)

-- the piece to which each edge to an executable leads: its join, else the hold before it, else its first part
abbrev pub entry : List Exec → ℕ → ℕ
entry execs k = let node = number (parts execs) (First k) in if is_after_hold execs node then hold_of execs node else node

-- a DO that begins or is incremented goes on to its test
abbrev pub has_test : ExecKind → Bool
has_test (DoStart loop_no var first last step body exit) = true
has_test (DoNext loop_no var body exit) = true
has_test _ = false

abbrev pub goes_on_from : PieceKind → (has_test : Bool) → Bool
goes_on_from Join has_test = true
goes_on_from Hold has_test = true
goes_on_from Act has_test = has_test
goes_on_from _ has_test = false

-- control goes on from the piece before the step is over
abbrev pub goes_on : List Exec → Piece → Bool
goes_on execs piece = goes_on_from piece.kind (has_test (kind_in (slice_get execs piece.exec)))

-- so many pieces at most, from this one on, each led to by the first edge of the one before it, up to the last one of the step
abbrev pub following : (most : ℕ) → List Exec → ℕ → List ℕ
following zero execs node = []
following (suc most) execs node =
    let f = flow execs in
    node ∷ (if goes_on execs (piece_at f.pieces node) then following most execs (to f.graph (out f.graph node 0)) else [])

-- the chain of an executable: there is room for five pieces, and no chain has more (see `AreFew`)
abbrev pub chain : List Exec → ℕ → List ℕ
chain execs k = following 5 execs (entry execs k)

-- There are five pieces at most, however many may be followed; so the chain is the same with any more room.
pub record AreFew (execs : List Exec) (k : ℕ) : Type 0 where
  pub five : (most : ℕ) → length (following most execs (entry execs k)) ≤ 5
  pub whole : (most : ℕ) → 5 ≤ most → following most execs (entry execs k) ≡ chain execs k

-- how many passes make so many steps
abbrev pub passes_of : Program → List ℤ → (steps : ℕ) → ℕ
passes_of p input zero = 0
passes_of p input (suc n) = passes_of p input n + length (chain p.execs (source p input n).position)

-- a run of passes stands where a run of steps does: with the same memory, text and mark, and, while it goes on, on an edge to
-- the executable that comes next
pub record StandsAt (p : Program) (x : State) (y : PassState) : Type 0 where
  pub memory_is : y.memory ≡ x.memory
  pub out_is : y.out ≡ x.out
  pub mark_is : y.mark ≡ x.mark
  pub enters : x.mark ≡ Running → to (flow p.execs).graph y.edge ≡ entry p.execs x.position
