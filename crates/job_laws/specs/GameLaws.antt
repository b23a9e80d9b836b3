-- What lower layers tell of games, their runs and their programs, as what games mean needs it. No public clause cites this module by
-- itself.
use Rattle.std.specs.Prelude.{◌≡◌, ◌≢◌, ◌≤◌, ℕ, ℤ, List, length}
use Rattle.closed_walks.specs.Region.{IsFlowGraph}
use Rattle.f77_tree.specs.declared.programs.Program.{Program}
use Rattle.f77_tree.specs.Run.{Mark, Running, source}
use Rattle.f77_tree.specs.Steps.{StopsWithin}
use Rattle.cfg_build.specs.Flow.{flow}
use Rattle.firing.specs.declared.playing.PlayEnd.{PlayEnd}
use Rattle.firing.specs.declared.playing.PlayEnd.TheVariants.{Limit}
use Rattle.firing.specs.Orders.{IsOver, after}
use Rattle.firing.specs.Play.{Moment, Way, by_order}
use Rattle.firing.specs.Runs.{HasOrder, IsRun}
use Rattle.firing.specs.SourceOrder.{IsDueOrder}
use Rattle.program_nets.specs.Game.{GameKind, IsGameOn, Place}
use Rattle.job_laws.specs.Headline.{bound_of}
use Rattle.program_nets.specs.Playing.{Game, StaysInLockstep, opening}
use Rattle.job_terms.specs.declared.task.Told.{Told}
use Rattle.job_terms.specs.Tasks.{Asked}
use Rattle.game_jobs.specs.DueGames.{IsDuePlay}
use Rattle.job_laws.specs.Existence.{HasDue}

-- from where the run of a program has stopped, it stopped first at some step
abbrev pub StopFirst : Type 0
StopFirst = (p : Program) (input : List ℤ) (n : ℕ) (mark : Mark) → mark ≢ Running → (source p input n).mark ≡ mark → StopsWithin p input n mark

-- what is known of the runs of games
pub record RunLaws (M : Type 0) : Type 0 where
  pub one : (w : Way M Place) (start : Moment M Place) (limit n m : ℕ) (end other : PlayEnd) → IsRun w start limit n end → IsRun w start limit m other → (n ≡ m) × (end ≡ other)
  pub nodes : (w : Way M Place) (start : Moment M Place) (limit n : ℕ) (end : PlayEnd) → IsRun w start limit n end → HasOrder w start n

-- where the source's own order comes to an end within the limit, its run is not stopped by the limit
abbrev pub DueEnds : {M : Type 0} → Game M Place → Type 0
DueEnds game = (ks : List ℕ) (limit n : ℕ) (end : PlayEnd) → IsDueOrder game.moves game.course game.start game.control ks → IsOver game.moves (after game.moves game.start ks) → length ks ≤ limit → IsRun (by_order game.moves game.course) (opening game) limit n end → end ≢ Limit

-- what is known of the games of this kind
pub record GameLaws {M : Type 0} (kind : GameKind M) : Type 0 where
  pub runs : RunLaws M
  pub due : (p : Program) (words : List ℤ) (game : Game M Place) → IsGameOn kind p words game → DueEnds game
  pub one : (p : Program) (words : List ℤ) (game other : Game M Place) → IsFlowGraph (flow p.execs).graph → IsGameOn kind p words game → IsGameOn kind p words other → game ≡ other
  pub lockstep : (p : Program) (words : List ℤ) (game : Game M Place) → IsGameOn kind p words game → StaysInLockstep game p words
  pub few : (p : Program) (words : List ℤ) (game : Game M Place) (steps : ℕ) → IsGameOn kind p words game → game.bound steps ≤ bound_of p steps
  -- after the firings of so many steps in the source's own order the store is that of the program
  pub store : (p : Program) (words : List ℤ) (game : Game M Place) (steps : ℕ) → IsGameOn kind p words game → kind.store (after game.moves game.start (game.own_order steps)) ≡ (source p words steps).memory.store
  pub stop_first : StopFirst

-- something is due of each game of a program over data, whatever its limit, its picks and what is told of it
abbrev pub GamesAreDue : {M : Type 0} → GameKind M → Type 0
GamesAreDue {M = M} kind = (p : Program) (what : Told) (asked : Asked) (game : Game M Place) → IsGameOn kind p asked.input game → HasDue (IsDuePlay kind what asked p)
