-- The text of a trace can be read.
use Rattle.std.proofs.Common.{◌≡◌, ℕ, ◌<◌, ◌^◌, length, ap, sym, ◌∙◌, subst}
use Rattle.f77_tree.specs.declared.programs.Program.{Program}
use Rattle.cfg_build.specs.Flow.{flow, piece_at}
use Rattle.net_board.specs.Nodes.{NetOf}
use Rattle.op_board.specs.OperationNets.{OperationNet}
use Rattle.job_terms.specs.declared.task.Told.TheVariants.{Nodes}
use Rattle.job_terms.specs.Due.{Due, all_due}
use Rattle.game_jobs.specs.DueGames.{IsDuePlay, IsToldBy}
use Rattle.program_nets.specs.Game.{Marking, Place, game_of, operation_game}
use Rattle.program_nets.specs.Playing.{Game, opening, way_of}
use Rattle.job_terms.specs.Tasks.{Asked}
use Rattle.printed_laws.specs.ShortFlow.{IsShortFlow}
use Rattle.printed_laws.proofs.GameTraps.{StandsAt, fired_short, trap_short}
use Rattle.printed_laws.proofs.NodeLines.{IsBelow}
use Rattle.printed_laws.proofs.Parts.{IsTraceText}
use Rattle.printed_laws.proofs.TraceLines.{game_told_by}

-- the line of a piece has 32 bits
piece_short : (p : Program) (x : OperationNet) (line : ℕ) → x.net.program ≡ p → IsShortFlow (flow p.execs) → length (flow p.execs).pieces ≡ (flow p.execs).graph.nodes → StandsAt x line → line < 2 ^ 32
piece_short p x line own short count stands =
    let exists : stands.piece < (flow p.execs).graph.nodes = subst (λ (q : Program). stands.piece < (flow q.execs).graph.nodes) own stands.exists in
    let known : (piece_at (flow p.execs).pieces stands.piece).line < 2 ^ 32 = short.lines stands.piece (subst (λ n. stands.piece < n) (sym count) exists) in
    subst (λ n. n < 2 ^ 32) (ap (λ (q : Program). (piece_at (flow q.execs).pieces stands.piece).line) (sym own) ∙ stands.is) known

pub trace_told_by : (p : Program) (asked : Asked) (x : OperationNet) (game : Game Marking Place) (firings : ℕ) (due : Due) → x.net.program ≡ p → game ≡ game_of x → IsBelow x (2 ^ 32) → IsShortFlow (flow p.execs) → length (flow p.execs).pieces ≡ (flow p.execs).graph.nodes → asked.limit < 2 ^ 63 → IsToldBy operation_game Nodes p (way_of game asked.picks) (opening game) asked.limit firings due → IsTraceText (all_due due)
trace_told_by p asked x game firings due own is below short count few told =
    let same : IsToldBy operation_game Nodes p (way_of (game_of x) asked.picks) (opening (game_of x)) asked.limit firings due = subst (λ (g : Game Marking Place). IsToldBy operation_game Nodes p (way_of g asked.picks) (opening g) asked.limit firings due) is told in
    let run = same.run in
    game_told_by (way_of (game_of x) asked.picks) (opening (game_of x)) asked.limit firings same.end due few run.bounded
    (fired_short x asked.picks firings run.going below)
    (trap_short x asked.picks asked.limit firings same.end run (λ line stands. piece_short p x line own short count stands))
    same.is

-- the same, from what a game of the program is
pub play_told_by : (p : Program) (asked : Asked) (due : Due) (plays : IsDuePlay operation_game Nodes asked p due) → IsBelow plays.played.own.net (2 ^ 32) → IsShortFlow (flow p.execs) → length (flow p.execs).pieces ≡ (flow p.execs).graph.nodes → asked.limit < 2 ^ 63 → IsTraceText (all_due due)
play_told_by p asked due plays below short count few =
    let own = plays.played.own in
    trace_told_by p asked own.net plays.played.game plays.firings due (ap (λ (net : NetOf). net.program) own.own.is) own.is below short count few plays.played.played
