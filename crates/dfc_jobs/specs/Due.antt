-- What is due for a task and a text.
use Rattle.std.specs.Prelude.{Bool}
use Rattle.f77_tree.specs.declared.programs.Program.{Program}
use Rattle.program_nets.specs.Game.{fork_game, operation_game}
use Rattle.job_terms.specs.Reading.{Reading, Accepted, Refused}
use Rattle.graph_jobs.specs.Regions.{TellsRegions}
use Rattle.job_terms.specs.Tasks.{Task, Regions, Graph, Play, Forks, Regen, Run}
use Rattle.job_terms.specs.Due.{Due, refusal, IsJust, IsDoneBy}
use Rattle.game_jobs.specs.DueGames.{IsDuePlay, told_by_forks}
use Rattle.graph_jobs.specs.DueGraphs.{TellsGraph}
use Rattle.form_jobs.specs.DueForms.{IsDueRegen, IsDueRun}

-- what each task owes on a program of the plain dialect or of the checked one
abbrev pub IsDueOn : Task → (checked : Bool) → Program → Due → Type 0
IsDueOn Regions checked p = IsDoneBy (TellsRegions p)
IsDueOn Graph checked p = IsDoneBy (TellsGraph p)
IsDueOn (Play what asked) checked p = IsDuePlay operation_game what asked p
IsDueOn (Forks nodes asked) checked p = IsDuePlay fork_game (told_by_forks nodes) asked p
IsDueOn Regen checked p = IsDueRegen p checked
IsDueOn (Run limit input) checked p = IsDueRun p checked input limit

abbrev pub IsDueRead : Task → (checked : Bool) → Reading → Due → Type 0
IsDueRead task checked (Refused line code) = IsJust (refusal line code)
IsDueRead task checked (Accepted p) = IsDueOn task checked p
