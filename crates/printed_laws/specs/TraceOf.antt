-- What is due for the word `trace`.
use Rattle.std.specs.Prelude.{◌≡◌, ℕ, Bool, List, Some}
use Rattle.f77_tree.specs.declared.programs.Program.{Program}
use Rattle.op_board.specs.OperationNets.{OperationNet}
use Rattle.job_terms.specs.declared.task.Told.TheVariants.{Nodes}
use Rattle.job_terms.specs.Due.{Due}
use Rattle.game_jobs.specs.DueGames.{IsDuePlay}
use Rattle.program_nets.specs.Game.{operation_game}
use Rattle.job_terms.specs.Tasks.{Asked, Play}
use Rattle.dfc_driver.specs.Words.{On, job_of}

-- The words ask for a trace, and this is due of it on the program.
pub record IsTraceOf (words : List (List ℕ)) (p : Program) (due : Due) : Type 0 where
  pub asked : Asked
  pub checked : Bool
  pub job : job_of words ≡ Some (On (Play Nodes asked) checked)
  pub plays : IsDuePlay operation_game Nodes asked p due

-- the net that fires
abbrev pub net_fired : (words : List (List ℕ)) (p : Program) (due : Due) → IsTraceOf words p due → OperationNet
net_fired words p due trace = trace.plays.played.own.net
