-- What firings of pieces do to markings.
use Rattle.std.proofs.Common.{◌≡◌, ◌<◌, ℕ, List, sym, ap, ◌∙◌, subst}
use Rattle.op_table.specs.declared.Trap.{Trap}
use Rattle.closed_walks.specs.Graph.{edge_count}
use Rattle.f77_tree.specs.Execution.{Memory}
use Rattle.cfg_build.specs.Passes.{Passed, Along, Traps, Done, IfAlong, out}
use Rattle.dep_routing.specs.Touches.{piece_kind, exec_kind}
use Rattle.net_board.specs.ControlCourse.{edge_or}
use Rattle.net_board.specs.Nodes.{NetOf, graph_in}
use Rattle.net_board.specs.Tokens.{Tokens, acted, gone, pass_at}
use Rattle.net_board.proofs.PassEffects.{IsOut, pass_out}
use Rattle.token_net.specs.PieceRuns.{going_on}
use Rattle.net_tables.proofs.TableLemmas.{out_exists}

module _ (net : NetOf) (piece : ℕ) (m : Tokens) where
  -- ---- a piece that takes an edge

  module _ (edge : ℕ) (new : Memory) (text : List ℕ) where
    pub acted_told : (pass : Passed) → going_on (out (graph_in net) piece 0) m.memory pass ≡ Along edge new text → acted net m piece pass ≡ gone net m piece edge new
    acted_told (Along e n t) is =
        let same : e ≡ edge = cc in
        let now : n ≡ new = cc in
        ap (λ x. gone net m piece x n) same ∙ ap (gone net m piece edge) now
    acted_told (Traps trap) is = absurd cc
    acted_told Done is =
        let same : out (graph_in net) piece 0 ≡ edge = cc in
        let now : m.memory ≡ new = cc in
        ap (λ x. gone net m piece x m.memory) same ∙ ap (gone net m piece edge) now

    pub edge_told : (pass : Passed) → going_on (out (graph_in net) piece 0) m.memory pass ≡ Along edge new text → edge_or (out (graph_in net) piece 0) pass ≡ edge
    edge_told (Along e n t) is = let same : e ≡ edge = cc in same
    edge_told (Traps trap) is = absurd cc
    edge_told Done is = let same : out (graph_in net) piece 0 ≡ edge = cc in same

    exists_by : (pass : Passed) → 0 < edge_count (graph_in net) → IfAlong pass (λ e n t. IsOut (out (graph_in net) piece) net.program net.input e) → going_on (out (graph_in net) piece 0) m.memory pass ≡ Along edge new text → edge < edge_count (graph_in net)
    exists_by (Along e n t) some leaves is =
        let same : e ≡ edge = cc in
        subst (λ x. x < edge_count (graph_in net)) (sym leaves.1 ∙ same) (out_exists (graph_in net) piece leaves.0 some)
    exists_by (Traps trap) some leaves is = absurd cc
    exists_by Done some leaves is =
        let same : out (graph_in net) piece 0 ≡ edge = cc in
        subst (λ x. x < edge_count (graph_in net)) same (out_exists (graph_in net) piece 0 some)

    pub edge_exists : 0 < edge_count (graph_in net) → going_on (out (graph_in net) piece 0) m.memory (pass_at net piece m.memory) ≡ Along edge new text → edge < edge_count (graph_in net)
    edge_exists some is = exists_by (pass_at net piece m.memory) some (pass_out (out (graph_in net) piece) net.program net.input (piece_kind net.program piece) (exec_kind net.program piece) m.memory) is

  -- ---- a piece that traps

  pub trap_told : (trap : Trap) (pass : Passed) → going_on (out (graph_in net) piece 0) m.memory pass ≡ Traps trap → pass ≡ Traps trap
  trap_told trap (Along e n t) is = absurd cc
  trap_told trap (Traps other) is = is
  trap_told trap Done is = absurd cc
