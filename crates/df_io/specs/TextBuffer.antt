-- How a text is written through a buffer.
use Rattle.std.specs.Prelude.{◌≡◌, ℕ, List, ◌++◌, Option}
use Rattle.std.specs.Io.KnownBytes.{Appends}

-- All of the text was written but for its end, which the buffer holds.
pub record IsWrittenBut (buffer : List ℕ) (old new : Option (List ℕ)) (text : List ℕ) : Type 0 where
  pub written : List ℕ
  pub added : Appends old new written
  pub all : written ++ buffer ≡ text
