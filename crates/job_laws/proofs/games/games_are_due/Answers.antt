use Rattle.std.proofs.Common.{ℕ, List, [], ◌∷◌}
use Rattle.firing.specs.Runs.{HasEnd}
use Rattle.op_board.specs.OperationNets.{OperationNet}
use Rattle.op_board.specs.SoundOperationNets.{IsOperationNet}
use Rattle.program_nets.specs.Game.{game_of, operation_game}
use Rattle.program_nets.specs.Playing.{opening, way_of}
use Rattle.job_laws.proofs.Existing.{game_due}
use Rattle.job_laws.proofs.games.games_are_due.Goals as goal

pub returns : goal.returns
returns c = λ p what asked game own. game_due operation_game ends p what asked game own
  where
    ends : (x : OperationNet) (picks : List ℕ) (limit : ℕ) → IsOperationNet x → HasEnd (way_of (game_of x) picks) (opening (game_of x)) limit
    ends x [] limit is = c.runs_end.ensures.order x (opening (game_of x)) limit
        (c.operation_nets_begin_soundly.ensures x is)
        (λ none. record {
          lockstep = c.operation_nets_stay_in_lockstep.ensures.begins x is;
          steady = c.operation_nets_stay_in_lockstep.ensures.steady x;
          ordered = c.operation_nets_stay_in_lockstep.ensures.ordered x;
          passes = c.operation_nets_pass_pieces_whole.ensures x is;
        })
        (λ lost. absurd cc)
    ends x (pick ∷ picks) limit is = c.runs_end.ensures.picks x (pick ∷ picks) (opening (game_of x)) limit
