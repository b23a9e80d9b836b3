-- Lists that begin with other lists.
use Rattle.std.specs.Prelude.{◌≡◌, ℕ, List, ◌++◌}

-- the second list begins with the first one
pub record IsPrefix (bytes all : List ℕ) : Type 0 where
  pub more : List ℕ
  pub is : all ≡ bytes ++ more
