-- Holds in rounds: as long as some piece on a cycle can't come to the end, the lowest such piece gets a hold.
use Rattle.std.specs.Prelude.{◌≡◌, ℕ, zero, suc, ◌<◌, ◌≤◌, Bool, false, ◌&&◌, not, nat_lt, if◌then◌else◌, List, length}
use Rattle.std.specs.List.{position_or_len, range_with_len}
use Rattle.closed_walks.specs.Graph.{Graph}
use Rattle.closed_walks.specs.Reaching.{reaches}
use Rattle.f77_tree.specs.declared.programs.Exec.{Exec}
use Rattle.cfg_build.specs.Joined.{FlowGraph, joined, finish}
use Rattle.cfg_build.specs.Holds.{is_on_cycle, held_edge, with_hold}
use Rattle.cfg_build.specs.Flow.{piece_at, held, flow}

-- a piece is on a cycle, and can't come to the end
abbrev pub is_stuck : Graph → (finish node : ℕ) → Bool
is_stuck g finish node = is_on_cycle g node && not (reaches g node finish)

-- the lowest such piece; how many pieces there are, where there is none
abbrev pub lowest_stuck : Graph → (finish : ℕ) → ℕ
lowest_stuck g finish = position_or_len (is_stuck g finish) (range_with_len 0 g.nodes)

-- the piece gets a hold
abbrev pub hold_at : (finish : ℕ) → FlowGraph → (node : ℕ) → FlowGraph
hold_at finish f node =
    let piece = piece_at f.pieces node in
    with_hold finish f (held_edge f.graph node piece.kind) piece

-- so many rounds at most
abbrev pub rounds : (most finish : ℕ) → FlowGraph → FlowGraph
rounds zero finish f = f
rounds (suc most) finish f = let node = lowest_stuck f.graph finish in if nat_lt node f.graph.nodes then rounds most finish (hold_at finish f node) else f

-- The holds come in rounds: as many as there are pieces with a hold, or more, make the flow graph, in which no piece is stuck.
pub record HoldsComeInRounds (execs : List Exec) : Type 0 where
  pub rounds_are : (most : ℕ) → length (held execs) ≤ most → rounds most (finish execs) (joined execs) ≡ flow execs
  pub none_stuck : (node : ℕ) → node < (flow execs).graph.nodes → is_stuck (flow execs).graph (finish execs) node ≡ false
