-- What reading all bytes of a source comes to.
use Rattle.std.specs.Prelude.{◌≡◌, ℕ, ◌+◌, ◌<◌, ◌≤◌, ⊤, List, length, Option, Result, Ok, Err, Vec}
use Rattle.std.specs.Io.KnownBytes.{Consumes, IsAtEnd}
use Rattle.std.specs.declared.alloc.Global.{Global}
use Rattle.df_io.specs.declared.read.ReadEnd.{ReadEnd}
use Rattle.df_io.specs.declared.read.ReadEnd.TheVariants.{ReadFault, TooLong, NoMemory}

-- All the bytes come to their list where there are at most `limit`, and to `TooLong` where there are more. A fault or
-- allocation failure may come before either.
abbrev pub ReadsAll : List ℕ → ℕ → Result (Vec ℕ Global) ReadEnd → Type 0
ReadsAll bytes limit (Ok v) = (v.items ≡ bytes) × (length bytes ≤ limit)
ReadsAll bytes limit (Err TooLong) = limit < length bytes
ReadsAll bytes limit (Err ReadFault) = ⊤
ReadsAll bytes limit (Err NoMemory) = ⊤

-- n bytes were taken from the beginning, as far as they are told
pub record Takes (old new : Option (List ℕ)) (n : ℕ) : Type 0 where
  pub bytes : List ℕ
  pub taken : Consumes old new bytes
  pub count : length bytes ≡ n

-- at most n bytes were taken from the beginning
pub record TakesAtMost (old new : Option (List ℕ)) (n : ℕ) : Type 0 where
  pub bytes : List ℕ
  pub taken : Consumes old new bytes
  pub count : length bytes ≤ n

-- At `Ok` the list was taken and nothing is left, at `TooLong` one byte past the limit was taken, and else no more than
-- the limit.
abbrev pub ReadAllTakes : Option (List ℕ) → Option (List ℕ) → ℕ → Result (Vec ℕ Global) ReadEnd → Type 0
ReadAllTakes old new limit (Ok v) = Consumes old new v.items × IsAtEnd new
ReadAllTakes old new limit (Err TooLong) = Takes old new (limit + 1)
ReadAllTakes old new limit (Err ReadFault) = TakesAtMost old new limit
ReadAllTakes old new limit (Err NoMemory) = TakesAtMost old new limit
