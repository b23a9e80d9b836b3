-- The ready nodes as a set that is kept up to date, firing by firing, by tests of the nodes that a firing can have made ready.
use Rattle.std.specs.Prelude.{◌≡◌, ◌≢◌, ◌<◌, ◌⊎◌, ℕ, Bool, true, false, List, length, All, None}
use Rattle.std.specs.List.{Contains}
use Rattle.firing.specs.Moves.{Moves}
use Rattle.firing.specs.ReadySet.{has}

-- The list has each other node that is ready after the firing of a node and wasn't before.
pub record Wakes {M : Type 0} (s : Moves M) (m : M) (k : ℕ) (woken : List ℕ) : Type 0 where
  pub are_nodes : All (λ j. j < s.nodes) woken
  -- what a trap leaves ready doesn't matter
  pub all : s.trap (s.fired m k) ≡ None → (j : ℕ) → j < s.nodes → j ≢ k → s.ready m j ≡ false → s.ready (s.fired m k) j ≡ true → Contains woken j

-- so many marks, of which each tells whether its number passes the test
pub record AreMarks (count : ℕ) (test : ℕ → Bool) (marks : List Bool) : Type 0 where
  pub room : length marks ≡ count
  pub right : (j : ℕ) → j < count → has marks j ≡ test j

-- The tests tell the same of the numbers below this one, but of k and of those in the list.
abbrev pub DifferAt : (count k : ℕ) → List ℕ → (before now : ℕ → Bool) → Type 0
DifferAt count k nodes before now = (j : ℕ) → j < count → j ≢ k → (now j ≡ before j) ⊎ Contains nodes j
