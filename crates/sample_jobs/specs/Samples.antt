-- What is told of a sample, part after part. No public clause cites this module.
use Rattle.std.specs.Prelude.{◌≡◌, ℕ, List, [], ◌++◌, length}
use Rattle.closed_walks.specs.Graph.{edge_count}
use Rattle.closed_walks.specs.Numbering.{fresh}
use Rattle.cfg_build.specs.Joined.{FlowGraph}
use Rattle.region_tree.specs.Tree.{Tree, region_count}
use Rattle.op_board.specs.OperationNets.{OperationNet}
use Rattle.f77_tree.specs.declared.programs.Program.{Program}
use Rattle.firing.specs.declared.playing.Show.TheVariants.{Output}
use Rattle.firing.specs.Play.{Moment, Way}
use Rattle.job_terms.specs.Due.{Due}
use Rattle.form_jobs.specs.DueForms.{IsDueRunOf}
use Rattle.game_jobs.specs.DueGames.{IsGameOf}
use Rattle.sample_jobs.specs.DueSamples.{after_text, followed_by, sample_line}
use Rattle.graph_texts.specs.GraphText.{size_line}
use Rattle.graph_jobs.specs.Regions.{counts_line}

-- how large a sample is, by what was found of its program
abbrev pub sizes_text : (n bytes : ℕ) → FlowGraph → (classes : List ℕ) → Tree → OperationNet → List ℕ
sizes_text n bytes f classes t x = sample_line n bytes ++ counts_line (length f.pieces) (edge_count f.graph) (fresh classes) (region_count t) ++ size_line x

-- one of these is due, after a text
pub record IsAfter (text : List ℕ) (is_due : Due → Type 0) (due : Due) : Type 0 where
  pub rest : Due
  pub told : is_due rest
  pub is : due ≡ after_text text rest

-- a game is due, and where it comes to rest the run of a program
pub record AreBothOf {M P : Type 0} (w : Way M P) (start : Moment M P) (limit : ℕ) (form : Program) (due : Due) : Type 0 where
  pub game : Due
  pub played : IsGameOf w start limit Output game
  pub run : Due
  pub ran : IsDueRunOf form [] limit run
  pub is : due ≡ followed_by game run
