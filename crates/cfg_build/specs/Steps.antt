-- Where the passes of a run lie in its steps.
use Rattle.std.specs.Prelude.{◌≡◌, ℕ, suc, ◌+◌, ◌<◌, ◌≤◌, ℤ, List, length, Some, slice_get, slice_index}
use Rattle.std.specs.List.{prefix_len}
use Rattle.closed_walks.specs.Graph.{Graph, to}
use Rattle.f77_tree.specs.declared.programs.Exec.{Exec}
use Rattle.f77_tree.specs.declared.programs.ExecKind.{ExecKind}
use Rattle.f77_tree.specs.declared.programs.Program.{Program}
use Rattle.f77_tree.specs.Run.{State, Running, source}
use Rattle.cfg_build.specs.Parts.{first_kind}
use Rattle.cfg_build.specs.Joined.{FlowGraph}
use Rattle.cfg_build.specs.Flow.{flow, piece_at}
use Rattle.cfg_build.specs.Passes.{PassState, passes}
use Rattle.cfg_build.specs.Chains.{chain, passes_of}
use Rattle.cfg_build.specs.Routes.{leads_on, IsMade}
use Rattle.cfg_build.specs.Shape.{kind_at}
use Rattle.cfg_build.specs.Zones.{exec_at}

-- how many joins and holds these pieces begin with
abbrev pub led_in : FlowGraph → List ℕ → ℕ
led_in f pieces = prefix_len (λ node. leads_on (piece_at f.pieces node).kind) pieces

-- the place of an executable's own piece in its chain: the first one that is no join and no hold
abbrev pub own_place : List Exec → ℕ → ℕ
own_place execs k = led_in (flow execs) (chain execs k)

-- An executable's own piece: the one that runs it, be it an act, a pass, a branch or the end. Of a DO that begins or is incremented
-- it is the act; the test comes later in the chain.
abbrev pub own_node : List Exec → ℕ → ℕ
own_node execs k = slice_index (chain execs k) (own_place execs k)

-- the own piece stands in the chain, and is made for the executable
pub record HasOwnPiece (execs : List Exec) (k : ℕ) (kind : ExecKind) : Type 0 where
  pub exists : own_place execs k < length (chain execs k)
  pub made : IsMade (flow execs) execs (own_node execs k) (first_kind kind) k

-- a run of passes is where a run of steps is: with the same memory, text and mark, and, while it goes on, on an edge to this piece
pub record ComesTo (g : Graph) (node : ℕ) (x : State) (y : PassState) : Type 0 where
  pub memory_is : y.memory ≡ x.memory
  pub out_is : y.out ≡ x.out
  pub mark_is : y.mark ≡ x.mark
  pub comes : x.mark ≡ Running → to g y.edge ≡ node

-- The run of passes comes to piece i of a step's pieces: up to the first that is no join and no hold with what the run of steps
-- has before the step, and from the next one on with what it has after it.
pub record IsWithin (f : FlowGraph) (pieces : List ℕ) (i : ℕ) (before after : State) (y : PassState) : Type 0 where
  pub up_to_own : i ≤ led_in f pieces → ComesTo f.graph (slice_index pieces i) before y
  pub past_own : led_in f pieces < i → ComesTo f.graph (slice_index pieces i) after y

-- the chain of the step that follows n steps
abbrev pub chain_after : Program → List ℤ → (n : ℕ) → List ℕ
chain_after p input n = chain p.execs (source p input n).position

-- i passes after the passes of n steps a run is within the next step, at piece i of the chain
abbrev pub IsWithinStep : Program → List ℤ → (n i : ℕ) → Type 0
IsWithinStep p input n i =
    IsWithin (flow p.execs) (chain_after p input n) i (source p input n) (source p input (suc n)) (passes p input (passes_of p input n + i))

-- so many passes are those of some steps, and of some pieces of the next step's chain, but not of all
pub record LiesInStep (p : Program) (input : List ℤ) (passed : ℕ) : Type 0 where
  pub step : ℕ
  pub place : ℕ
  pub runs : (source p input step).mark ≡ Running
  pub exists : place < length (chain_after p input step)
  pub count : passes_of p input step + place ≡ passed

-- after so many passes a run comes to the own piece of the executable k, with what the run of steps has where k comes next
pub record BeginsStep (p : Program) (input : List ℤ) (k passed : ℕ) : Type 0 where
  pub step : ℕ
  pub runs : (source p input step).mark ≡ Running
  pub position_is : (source p input step).position ≡ k
  pub count : passes_of p input step + own_place p.execs k ≡ passed
  pub comes : ComesTo (flow p.execs).graph (own_node p.execs k) (source p input step) (passes p input passed)

-- after so many passes a run goes on, and comes to a piece that is made for the executable k, of the kind of its own piece
pub record IsAtOwnPiece (p : Program) (input : List ℤ) (k passed : ℕ) : Type 0 where
  pub runs : (passes p input passed).mark ≡ Running
  pub exec : Exec
  pub found : slice_get p.execs k ≡ Some exec
  pub kind_is : kind_at (flow p.execs) (to (flow p.execs).graph (passes p input passed).edge) ≡ first_kind exec.kind
  pub exec_is : exec_at (flow p.execs) (to (flow p.execs).graph (passes p input passed).edge) ≡ k
