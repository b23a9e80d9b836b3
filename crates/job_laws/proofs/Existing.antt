-- Something is due of each game of a net.
use Rattle.std.proofs.Common.{ℕ, List, refl, sym, subst}
use Rattle.f77_tree.specs.declared.programs.Program.{Program}
use Rattle.firing.specs.declared.playing.PlayEnd.{PlayEnd}
use Rattle.firing.specs.declared.playing.PlayEnd.TheVariants.{Rest, Trapped, Limit, WriteFault}
use Rattle.firing.specs.Runs.{HasEnd, IsOwnEnd}
use Rattle.job_terms.specs.declared.task.Told.{Told}
use Rattle.game_jobs.specs.DueGames.{IsDueBy, IsDuePlay, told_text}
use Rattle.job_terms.specs.Due.{done, stopped, trapped}
use Rattle.program_nets.specs.Game.{GameKind, IsGameOn, Place}
use Rattle.program_nets.specs.Playing.{Game, opening, way_of}
use Rattle.job_terms.specs.Tasks.{Asked}
use Rattle.job_laws.specs.Existence.{GamesEnd, HasDue}

by_end : (end : PlayEnd) → IsOwnEnd end → (limit : ℕ) (text : List ℕ) → HasDue (IsDueBy end limit text)
by_end (Rest n) own limit text = record { due = done text; is = refl }
by_end (Trapped trap line) own limit text = record { due = trapped text trap line; is = refl }
by_end Limit own limit text = record { due = stopped text limit; is = refl }
by_end (WriteFault n) own limit text = absurd own

module _ {M : Type 0} (kind : GameKind M) (ends : GamesEnd kind) (p : Program) (what : Told) (asked : Asked) where
  pub game_due : (game : Game M Place) → IsGameOn kind p asked.input game → HasDue (IsDuePlay kind what asked p)
  game_due game own =
      let has : HasEnd (way_of game asked.picks) (opening game) asked.limit =
      subst (λ (g : Game M Place). HasEnd (way_of g asked.picks) (opening g) asked.limit) (sym own.is) (ends own.net asked.picks asked.limit own.own.operations) in
      let found = by_end has.end has.run.own asked.limit (told_text kind what p (way_of game asked.picks) (opening game) has.firings has.end) in
      record {
        due = found.due;
        is = record {
          firings = has.firings;
          played = record { game = game; own = own; played = record { end = has.end; run = has.run; is = found.is } };
        };
      }
