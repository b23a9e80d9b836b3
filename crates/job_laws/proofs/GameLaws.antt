-- What games mean, from what is known of nets and runs.
use Rattle.std.proofs.Common.{◌≡◌, ◌≢◌, ℕ, ◌≤◌, Bool, List, [], length, sym, subst, ◌∙◌, arith}
use Rattle.closed_walks.specs.Region.{IsFlowGraph}
use Rattle.f77_tree.specs.declared.programs.Program.{Program}
use Rattle.f77_tree.specs.Prefixes.{IsPrefix}
use Rattle.f77_tree.specs.Run.{out, source}
use Rattle.cfg_build.specs.Flow.{flow}
use Rattle.firing.specs.declared.playing.PlayEnd.{PlayEnd}
use Rattle.firing.specs.declared.playing.PlayEnd.TheVariants.{Rest, Trapped, Limit, WriteFault}
use Rattle.firing.specs.declared.playing.Show.TheVariants.{Output}
use Rattle.firing.specs.Orders.{IsOver, after}
use Rattle.firing.specs.Play.{shown}
use Rattle.firing.specs.Runs.{IsRun}
use Rattle.job_terms.specs.declared.task.Told.{Told}
use Rattle.job_terms.specs.Due.{Due}
use Rattle.game_jobs.specs.DueGames.{IsDueBy, IsDuePlay, IsToldBy, told_by_forks, told_text}
use Rattle.program_nets.specs.Game.{GameKind, Place, fork_game, operation_game}
use Rattle.job_laws.specs.Headline.{MeansOn, MeansPlay, bound_of}
use Rattle.job_laws.specs.SourceRuns.{run_of}
use Rattle.program_nets.specs.Playing.{Game, opening, way_of}
use Rattle.job_terms.specs.Tasks.{Asked, Forks, Play}
use Rattle.job_laws.specs.GameLaws.{GameLaws}
use Rattle.job_laws.proofs.GameMeans.{done_by, fails_by, prefix_of_run, rests, shows, traps}
use Rattle.job_laws.proofs.Progress.{all_shown}
use Rattle.job_laws.proofs.Soon.{keeps_up_itself, means_play}

same_due : (e f : PlayEnd) (limit : ℕ) (text : List ℕ) (a b : Due) → e ≡ f → IsDueBy e limit text a → IsDueBy f limit text b → a ≡ b
same_due e f limit text a b same left right = on e (subst (λ x. IsDueBy x limit text b) (sym same) right) left
  where
    on : (x : PlayEnd) → IsDueBy x limit text b → IsDueBy x limit text a → a ≡ b
    on (Rest n) right left = left ∙ sym right
    on (Trapped trap line) right left = left ∙ sym right
    on Limit right left = left ∙ sym right
    on (WriteFault n) right left = absurd left

module _ {M : Type 0} (kind : GameKind M) (laws : GameLaws kind) (what : Told) (asked : Asked) (p : Program) (strong : IsFlowGraph (flow p.execs).graph) where
  one_due : (game : Game M Place) (n m : ℕ) (a b : Due) → IsToldBy kind what p (way_of game asked.picks) (opening game) asked.limit n a → IsToldBy kind what p (way_of game asked.picks) (opening game) asked.limit m b → a ≡ b
  one_due game n m a b left right =
      let w = way_of game asked.picks in
      let same = laws.runs.one w (opening game) asked.limit n m left.end right.end left.run right.run in
      let text : PlayEnd → List ℕ = told_text kind what p w (opening game) n in
      let there : IsDueBy right.end asked.limit (text right.end) b = subst (λ i. IsDueBy right.end asked.limit (told_text kind what p w (opening game) i right.end) b) (sym same.0) right.is in
      same_due left.end right.end asked.limit (text left.end) a b same.1 left.is (subst (λ (e : PlayEnd). IsDueBy right.end asked.limit (text e) b) (sym same.1) there)

  pub one_game_due : (a b : Due) → IsDuePlay kind what asked p a → IsDuePlay kind what asked p b → a ≡ b
  one_game_due a b left right =
      let game = laws.one p asked.input right.played.game left.played.game strong right.played.own left.played.own in
      one_due left.played.game left.firings right.firings a b left.played.played
      (subst (λ (x : Game M Place). IsToldBy kind what p (way_of x asked.picks) (opening x) asked.limit right.firings b) game right.played.played)

  pub game_due_means : (due : Due) → IsDuePlay kind what asked p due → MeansPlay kind what asked p (run_of p asked.input) due
  game_due_means due is =
      let game = is.played.game in
      let own = is.played.own in
      let run = is.played.played.run in
      let end = is.played.played.end in
      let told = is.played.played.is in
      let lockstep = laws.lockstep p asked.input game own in
      let store : (n : ℕ) → kind.store (after game.moves game.start (game.own_order n)) ≡ (source p asked.input n).memory.store = λ n. laws.store p asked.input game n own in
      let all = laws.runs.nodes (way_of game asked.picks) (opening game) asked.limit is.firings end run in
      let within : (n : ℕ) → length (game.own_order n) ≤ bound_of p n = λ n. let few = lockstep.few n in let enough = laws.few p asked.input game n own in omega (arith, few, enough) in
      let due_runs : (steps : ℕ) (e : PlayEnd) → asked.picks ≡ [] → IsRun (way_of game asked.picks) (opening game) asked.limit is.firings e → IsOver game.moves (after game.moves game.start (game.own_order steps)) → length (game.own_order steps) ≤ asked.limit → e ≢ Limit =
      λ steps e none made over few. laws.due p asked.input game own (game.own_order steps) asked.limit is.firings e (lockstep.due steps) over few (subst (λ picks. IsRun (way_of game picks) (opening game) asked.limit is.firings e) none made) in
      means_play kind laws.stop_first what asked p (run_of p asked.input) (keeps_up_itself (run_of p asked.input)) due
      (prefix_of_run kind laws.stop_first what asked p due game lockstep store within is.firings is.played all end told)
      (rests kind laws.stop_first what asked p due game lockstep store within is.firings is.played all end run told)
      (traps kind laws.stop_first what asked p due game lockstep store within is.firings is.played all end run told)
      (λ steps ends enough. done_by kind laws.stop_first what asked p due game lockstep store within is.firings is.played all steps ends enough end run told)
      (λ steps trap line fails none enough. fails_by kind laws.stop_first what asked p due game lockstep store within is.firings is.played all due_runs steps trap line fails none enough end run told)
      (λ steps none enough.
      let few = within steps in
      let in_order = subst (λ picks. IsRun (way_of game picks) (opening game) asked.limit is.firings end) none run in
      let due_lines = all_shown game (game.own_order steps) asked.limit is.firings (lockstep.due steps) (lockstep.simulated.order steps) (omega (arith, few, enough)) end in_order in
      let own_lines = subst (λ bytes. IsPrefix bytes (shown (way_of game []) Output (opening game) is.firings)) (lockstep.simulated.lines steps) due_lines in
      shows kind laws.stop_first what asked p due game lockstep store within is.firings is.played all end told (out p asked.input steps)
      (subst (λ picks. IsPrefix (out p asked.input steps) (shown (way_of game picks) Output (opening game) is.firings)) (sym none) own_lines))

pub game_means : GameLaws operation_game → (what : Told) (asked : Asked) (checked : Bool) (p : Program) → IsFlowGraph (flow p.execs).graph → MeansOn (Play what asked) checked p (run_of p)
game_means laws what asked checked p strong = record { one = one_game_due operation_game laws what asked p strong; means = game_due_means operation_game laws what asked p strong }

pub forks_mean : GameLaws fork_game → (nodes : Bool) (asked : Asked) (checked : Bool) (p : Program) → IsFlowGraph (flow p.execs).graph → MeansOn (Forks nodes asked) checked p (run_of p)
forks_mean laws nodes asked checked p strong = record { one = one_game_due fork_game laws (told_by_forks nodes) asked p strong; means = game_due_means fork_game laws (told_by_forks nodes) asked p strong }
