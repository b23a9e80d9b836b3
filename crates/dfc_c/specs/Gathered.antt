-- A sink that keeps all that it gets.
use Rattle.std.specs.Prelude.{ℕ, List}

pub record GatheredState : Type 0 where
  -- the bytes that it has got
  pub got : List ℕ
  -- how many of its calls failed
  pub faults : ℕ
