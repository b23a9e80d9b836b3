-- Runs up to a stop or a limit, without a sink.
use Rattle.std.specs.Prelude.{◌≡◌, ◌≤◌, ◌<◌, ℕ, List, length}
use Rattle.firing.specs.declared.playing.PlayEnd.{PlayEnd}
use Rattle.firing.specs.declared.playing.PlayEnd.TheVariants.{WriteFault}
use Rattle.firing.specs.declared.playing.Show.TheVariants.{Output}
use Rattle.firing.specs.Moves.{CanFire}
use Rattle.firing.specs.Orders.{IsOrder, after, written}
use Rattle.firing.specs.Play.{Moment, Way, EndsBy, node_at, played, shown}

-- a run has its end from itself, and not from a sink
abbrev pub IsOwnEnd : PlayEnd → Type 0
IsOwnEnd (WriteFault n) = ⊥
IsOwnEnd _ = Unit {0}

-- A run of so many firings, that ends like this.
pub record IsRun {M P : Type 0} (w : Way M P) (start : Moment M P) (limit firings : ℕ) (end : PlayEnd) : Type 0 where
  -- each node could fire in its turn, so that there was no stop before
  pub going : (n : ℕ) → n < firings → CanFire w.moves (played w start n).marking (node_at w start n)
  pub bounded : firings ≤ limit
  pub ends : EndsBy w start limit firings end
  pub own : IsOwnEnd end

-- a run ends
pub record HasEnd {M P : Type 0} (w : Way M P) (start : Moment M P) (limit : ℕ) : Type 0 where
  pub firings : ℕ
  pub end : PlayEnd
  pub run : IsRun w start limit firings end

-- the nodes that fire are an order, with the same output
pub record IsOrderOf {M P : Type 0} (w : Way M P) (start : Moment M P) (firings : ℕ) (nodes : List ℕ) : Type 0 where
  pub order : IsOrder w.moves start.marking nodes
  pub count : length nodes ≡ firings
  pub leads : after w.moves start.marking nodes ≡ (played w start firings).marking
  pub lines : written w.moves start.marking nodes ≡ shown w Output start firings

pub record HasOrder {M P : Type 0} (w : Way M P) (start : Moment M P) (firings : ℕ) : Type 0 where
  pub nodes : List ℕ
  pub are : IsOrderOf w start firings nodes
