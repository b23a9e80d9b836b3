-- What a sink into memory has taken, and how often it failed.
use Rattle.std.specs.Prelude.{ℕ, List}

pub record TextState : Type 0 where
  pub text : List ℕ
  pub faults : ℕ
