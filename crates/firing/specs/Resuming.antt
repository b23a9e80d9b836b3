-- Runs that are stopped and go on later.
use Rattle.std.specs.Prelude.{◌≡◌, ◌%◌, ◌+◌, ◌++◌, ℕ, List, length, take, drop, Option}
use Rattle.firing.specs.declared.playing.PlayEnd.{PlayEnd}
use Rattle.firing.specs.declared.playing.PlayEnd.TheVariants.{Rest, Trapped, Limit, WriteFault}
use Rattle.firing.specs.declared.playing.Show.{Show}
use Rattle.firing.specs.Play.{Moment, Way, played, node_at, shown, Plays}

-- the picks from the one for the firing number a on, and then those before it
abbrev pub turned : ℕ → List ℕ → List ℕ
turned a picks = drop (a % length picks) picks ++ take (a % length picks) picks

-- the answer of a run whose first a firings were another run's
abbrev pub further : ℕ → PlayEnd → PlayEnd
further a (Rest n) = Rest (a + n)
further a (Trapped trap line) = Trapped trap line
further a Limit = Limit
further a (WriteFault n) = WriteFault (a + n)

-- After a firings one way of playing goes on as the other begins there.
pub record GoesOn {M P : Type 0} (w : Way M P) (start : Moment M P) (a : ℕ) (later : Way M P) : Type 0 where
  pub leads : (b : ℕ) → played w start (a + b) ≡ played later (played w start a) b
  pub nodes : (b : ℕ) → node_at w start (a + b) ≡ node_at later (played w start a) b
  pub shows : (show : Show) (b : ℕ) → shown w show start (a + b) ≡ shown w show start a ++ shown later show (played w start a) b
  -- a run that stopped at the limit a and one that goes on from there are one run
  pub joined : (b : ℕ) (show : Show) (mid end : Moment M P) (old got new : Option (List ℕ)) (result : PlayEnd) → Plays w start a show mid old got Limit → Plays later mid b show end got new result → Plays w start (a + b) show end old new (further a result)
