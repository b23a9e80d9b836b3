-- A source in memory: what it has left, and what its next call does.
use Rattle.std.specs.Prelude.{◌≡◌, ℕ, ◌++◌, Bool, true, false, if◌then◌else◌, List, length, take, drop, min, Result, Ok, Err}
use Rattle.df_io.specs.declared.faults.Failed.{Failed}
use Rattle.df_io.specs.Faults.{one_more}
use Rattle.df_io.specs.Table.{is_failing}

pub record SourceState : Type 0 where
  -- the bytes that are still to come
  pub left : List ℕ
  -- the numbers of the calls that fail, counted from 0
  pub fails : List ℕ
  -- how many bytes one call gives at most
  pub piece : ℕ
  -- how many calls there were
  pub calls : ℕ
  -- how many of them failed
  pub faults : ℕ

-- whether the next call fails
abbrev pub read_fails : SourceState → Bool
read_fails s = is_failing s.fails s.calls

-- the bytes that the next call gives to this room, where it does not fail
abbrev pub given : SourceState → ℕ → List ℕ
given s room = take (min room s.piece) s.left

-- the source after a call
abbrev pub after_read : SourceState → ℕ → SourceState
after_read s room =
    if read_fails s then record s { calls = one_more s.calls; faults = one_more s.faults }
    else record s { left = drop (min room s.piece) s.left; calls = one_more s.calls }

-- what a call leaves in the room that it is given
abbrev pub filled : SourceState → List ℕ → List ℕ
filled s into = if read_fails s then into else given s (length into) ++ drop (length (given s (length into))) into

-- a call answers how many bytes it gives, or that it fails
abbrev pub IsReadAnswer : SourceState → ℕ → Result ℕ Failed → Type 0
IsReadAnswer s room (Ok n) = (read_fails s ≡ false) × (n ≡ length (given s room))
IsReadAnswer s room (Err failed) = read_fails s ≡ true
