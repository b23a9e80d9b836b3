-- A sink in memory: what it has taken, and what its next call does.
use Rattle.std.specs.Prelude.{◌≡◌, ℕ, ◌-◌, ◌++◌, ◌&&◌, ◌||◌, nat_lt, nat_le, Bool, true, false, if◌then◌else◌, List, length, take, min, Result, Ok, Err}
use Rattle.df_io.specs.declared.faults.Failed.{Failed}
use Rattle.df_io.specs.Faults.{one_more}
use Rattle.df_io.specs.Table.{is_failing}

pub record SinkState : Type 0 where
  -- the bytes that it has taken
  pub got : List ℕ
  -- how many bytes it takes in all
  pub room : ℕ
  -- the numbers of the calls that fail, counted from 0
  pub fails : List ℕ
  -- how many bytes one call takes at most
  pub piece : ℕ
  -- how many calls there were
  pub calls : ℕ
  -- how many of them failed
  pub faults : ℕ

-- whether there is something to take, and no room for it
abbrev pub is_full_for : SinkState → List ℕ → Bool
is_full_for s from = nat_lt 0 (length from) && nat_le s.room (length s.got)

-- whether the next call fails
abbrev pub write_fails : SinkState → List ℕ → Bool
write_fails s from = is_failing s.fails s.calls || is_full_for s from

-- the bytes that the next call takes, where it does not fail
abbrev pub taken : SinkState → List ℕ → List ℕ
taken s from = take (min s.piece (s.room - length s.got)) from

-- the sink after a call
abbrev pub after_write : SinkState → List ℕ → SinkState
after_write s from =
    if write_fails s from then record s { calls = one_more s.calls; faults = one_more s.faults }
    else record s { got = s.got ++ taken s from; calls = one_more s.calls }

-- a call answers how many bytes it takes, or that it fails
abbrev pub IsWriteAnswer : SinkState → List ℕ → Result ℕ Failed → Type 0
IsWriteAnswer s from (Ok n) = (write_fails s from ≡ false) × (n ≡ length (taken s from))
IsWriteAnswer s from (Err failed) = write_fails s from ≡ true
