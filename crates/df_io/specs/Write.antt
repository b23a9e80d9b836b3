-- What writing all bytes to a sink comes to.
use Rattle.std.specs.Prelude.{ℕ, ◌≤◌, ⊤, List, length, take, Option, None, Some}
use Rattle.std.specs.Io.{StartsWith}
use Rattle.std.specs.Io.KnownBytes.{Appends}

-- some of the bytes were added, from the beginning
pub record AppendsPrefix (old new : Option (List ℕ)) (bytes : List ℕ) : Type 0 where
  pub count : ℕ
  pub within : count ≤ length bytes
  pub added : Appends old new (take count bytes)

-- known bytes are those that they were, or the first of them
abbrev pub KeepsFirst : Option (List ℕ) → Option (List ℕ) → Type 0
KeepsFirst None new = ⊤
KeepsFirst (Some xs) None = ⊥
KeepsFirst (Some xs) (Some ys) = StartsWith xs ys
