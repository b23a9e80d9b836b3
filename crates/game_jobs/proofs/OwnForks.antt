-- Games with groups of loads in the source's own order, played on nets of operations.
use Rattle.std.proofs.Common.{◌≡◌, ℕ, List, [], Option, Some, sym, subst}
use Rattle.firing.specs.declared.playing.Show.{Show}
use Rattle.firing.specs.Play.{moment}
use Rattle.net_board.specs.ControlCourse.{first_control}
use Rattle.op_board.specs.OperationCourse.{operation_course}
use Rattle.op_board.specs.OperationNets.{OperationNet}
use Rattle.op_board.specs.OperationTokens.{OperationTokens, first_operation_tokens, operation_moves}
use Rattle.fork_board.specs.OwnRuns.{HasSameRun, OwnRunsAlike, fork_start, fork_way, operation_start, operation_way}
use Rattle.job_terms.specs.Due.{Due}
use Rattle.game_jobs.specs.DueGames.{IsDueBy, IsGameOf}
use Rattle.program_nets.specs.Game.{Place}
use Rattle.program_nets.specs.Playing.{way_by}

-- what is due of a run of a net of operations is due of the other game's
own_game : (x : OperationNet) → OwnRunsAlike x → (limit : ℕ) (show : Show) (due : Due) → IsGameOf (operation_way x) (operation_start x) limit show due → IsGameOf (fork_way x) (fork_start x) limit show due
own_game x alike limit show due is =
    let there : HasSameRun x limit is.firings is.played.end = alike limit is.firings is.played.end is.played.run in
    record { firings = is.firings; played = record { end = is.played.end; run = there.run; is = subst (λ text. IsDueBy is.played.end limit text due) (sym (there.same show)) is.played.is } }

-- the same of a net before any firing, where nothing is picked
pub opening_game : (x : OperationNet) → OwnRunsAlike x → (m : OperationTokens) (place : Option Place) (picks : List ℕ) → m ≡ first_operation_tokens x → place ≡ Some (first_control x.net) → picks ≡ [] → (limit : ℕ) (show : Show) (due : Due) → IsGameOf (way_by (operation_moves x) (operation_course x) picks) (moment m place) limit show due → IsGameOf (fork_way x) (fork_start x) limit show due
opening_game x alike m place picks first control none limit show due is =
    own_game x alike limit show due
    (subst (λ c. IsGameOf (operation_way x) (moment (first_operation_tokens x) c) limit show due) control
    (subst (λ (o : OperationTokens). IsGameOf (operation_way x) (moment o place) limit show due) first
    (subst (λ xs. IsGameOf (way_by (operation_moves x) (operation_course x) xs) (moment m place) limit show due) none is)))
