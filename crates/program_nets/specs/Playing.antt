-- Games: what fires, where it begins, and the source's own order. This module names no net.
use Rattle.std.specs.Prelude.{◌≤◌, ℕ, ℤ, List, [], ◌∷◌, Some, length}
use Rattle.f77_tree.specs.declared.programs.Program.{Program}
use Rattle.f77_tree.specs.Run.{Mark, Running, Ended, Trapped, out, source}
use Rattle.firing.specs.Control.{Course}
use Rattle.firing.specs.Moves.{Moves}
use Rattle.firing.specs.Pacing.{FollowsSource, IsSimulation, Stage, Going, Done, Failed}
use Rattle.firing.specs.Play.{Moment, Way, by_order, by_picks, moment}
use Rattle.firing.specs.SourceOrder.{IsDueOrder}

-- A game over markings M, whose control stands at a P: what fires and how control moves, the first marking, where control stands first,
-- the nodes that fire in the source's own order for so many steps of the program, and how many these are at most.
pub record Game (M P : Type 0) : Type 0 where
  pub moves : Moves M
  pub course : Course M P
  pub start : M
  pub control : P
  pub own_order : (steps : ℕ) → List ℕ
  pub bound : (steps : ℕ) → ℕ

-- Which node fires: the picks choose it, or without picks the source's own order does.
abbrev pub choice_by : {M P : Type 0} → Moves M → Course M P → (picks : List ℕ) → ℕ → Moment M P → ℕ
choice_by moves course [] = (by_order moves course).choice
choice_by moves course (pick ∷ picks) = (by_picks moves course (pick ∷ picks)).choice

-- how a game is played
abbrev pub way_by : {M P : Type 0} → Moves M → Course M P → (picks : List ℕ) → Way M P
way_by moves course picks = record { moves = moves; course = course; choice = choice_by moves course picks }

abbrev pub way_of : {M P : Type 0} → Game M P → (picks : List ℕ) → Way M P
way_of game picks = way_by game.moves game.course picks

-- where it begins
abbrev pub opening : {M P : Type 0} → Game M P → Moment M P
opening game = moment game.start (Some game.control)

-- ---- the program beside it

-- where a program is that has this mark
abbrev pub stage_of : Mark → Stage
stage_of Running = Going
stage_of Ended = Done
stage_of (Trapped trap line) = Failed (trap, line)

-- where the program is after so many steps
abbrev pub stage : Program → List ℤ → (steps : ℕ) → Stage
stage p input steps = stage_of (source p input steps).mark

-- The source's own order stays in lockstep with the steps of the program, in few firings, and whatever the order, the game follows.
pub record StaysInLockstep {M P : Type 0} (game : Game M P) (p : Program) (input : List ℤ) : Type 0 where
  pub simulated : IsSimulation game.moves game.start (out p input) (stage p input) game.own_order
  pub follows : FollowsSource game.moves game.start (out p input) (stage p input) game.own_order
  pub due : (steps : ℕ) → IsDueOrder game.moves game.course game.start game.control (game.own_order steps)
  pub few : (steps : ℕ) → length (game.own_order steps) ≤ game.bound steps
