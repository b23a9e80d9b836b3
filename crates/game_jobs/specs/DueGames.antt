-- What is due of the games that are played on a program.
use Rattle.std.specs.Prelude.{◌≡◌, ℕ, Bool, true, false, List, [], ◌++◌}
use Rattle.f77_tree.specs.declared.programs.Program.{Program}
use Rattle.firing.specs.declared.playing.PlayEnd.{PlayEnd}
use Rattle.firing.specs.declared.playing.PlayEnd.TheVariants as end
use Rattle.firing.specs.declared.playing.Show.{Show}
use Rattle.firing.specs.declared.playing.Show.TheVariants as show
use Rattle.firing.specs.Play.{Moment, Way, shown, played as moment_after}
use Rattle.firing.specs.Runs.{IsRun}
use Rattle.job_terms.specs.declared.task.Told.{Told}
use Rattle.job_terms.specs.declared.task.Told.TheVariants as told
use Rattle.program_nets.specs.Game.{GameKind, IsGameOn, Place}
use Rattle.program_nets.specs.Playing.{Game, opening, way_of}
use Rattle.game_jobs.specs.StoreText.{fired_line, store_text}
use Rattle.job_terms.specs.Tasks.{Asked}
use Rattle.job_terms.specs.Due.{Due, done, trapped, stopped}

-- what is due after a text where a game ends like this; nothing is after a fault of the sink
abbrev pub IsDueBy : PlayEnd → (limit : ℕ) → (text : List ℕ) → Due → Type 0
IsDueBy (end.Rest n) limit text due = due ≡ done text
IsDueBy (end.Trapped trap line) limit text due = due ≡ trapped text trap line
IsDueBy end.Limit limit text due = due ≡ stopped text limit
IsDueBy (end.WriteFault n) limit text due = ⊥

-- A game was played for so many firings: up to a rest, a trap or the limit, whatever comes first. Its text is what is shown of them.
pub record IsPlayedBy {M P : Type 0} (w : Way M P) (start : Moment M P) (limit : ℕ) (show : Show) (firings : ℕ) (due : Due) : Type 0 where
  pub end : PlayEnd
  pub run : IsRun w start limit firings end
  pub is : IsDueBy end limit (shown w show start firings) due

pub record IsGameOf {M P : Type 0} (w : Way M P) (start : Moment M P) (limit : ℕ) (show : Show) (due : Due) : Type 0 where
  pub firings : ℕ
  pub played : IsPlayedBy w start limit show firings due

-- What is told of a game of so many firings that ended like this. The store is told at a rest alone.
abbrev pub told_text : {M : Type 0} → GameKind M → Told → Program → Way M Place → Moment M Place → (firings : ℕ) → PlayEnd → List ℕ
told_text kind told.Output p w start firings end = shown w show.Output start firings
told_text kind told.Nodes p w start firings end = shown w show.Nodes start firings
told_text kind told.Store p w start firings (end.Rest count) = store_text p.names (kind.store (moment_after w start firings).marking) ++ fired_line count
told_text kind told.Store p w start firings (end.Trapped trap line) = []
told_text kind told.Store p w start firings end.Limit = []
told_text kind told.Store p w start firings (end.WriteFault count) = []

-- A game was played for so many firings, up to a rest, a trap or the limit, and this is due of it.
pub record IsToldBy {M : Type 0} (kind : GameKind M) (what : Told) (p : Program) (w : Way M Place) (start : Moment M Place) (limit firings : ℕ) (due : Due) : Type 0 where
  pub end : PlayEnd
  pub run : IsRun w start limit firings end
  pub is : IsDueBy end limit (told_text kind what p w start firings end) due

pub record IsGameTold {M : Type 0} (kind : GameKind M) (what : Told) (p : Program) (w : Way M Place) (start : Moment M Place) (limit : ℕ) (due : Due) : Type 0 where
  pub firings : ℕ
  pub tells : IsToldBy kind what p w start limit firings due

-- the game of this kind of a program was played
pub record IsPlayed {M : Type 0} (kind : GameKind M) (what : Told) (asked : Asked) (p : Program) (firings : ℕ) (due : Due) : Type 0 where
  pub game : Game M Place
  pub own : IsGameOn kind p asked.input game
  pub played : IsToldBy kind what p (way_of game asked.picks) (opening game) asked.limit firings due

pub record IsDuePlay {M : Type 0} (kind : GameKind M) (what : Told) (asked : Asked) (p : Program) (due : Due) : Type 0 where
  pub firings : ℕ
  pub played : IsPlayed kind what asked p firings due

-- what `forks` tells of its game: the output, or the nodes as they fire
abbrev pub told_by_forks : (nodes : Bool) → Told
told_by_forks false = told.Output
told_by_forks true = told.Nodes

-- the same, as what is shown of the firings
abbrev pub shown_by_forks : (nodes : Bool) → Show
shown_by_forks false = show.Output
shown_by_forks true = show.Nodes
