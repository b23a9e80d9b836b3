-- Counts of faults. A count stands still at the last value of 64 bits.
use Rattle.std.specs.Prelude.{ℕ, ◌+◌, ◌-◌, ◌^◌, ◌≤◌, min, Result, Ok, Err}
use Rattle.df_io.specs.declared.faults.Failed.{Failed}

-- one more, up to the last value
abbrev pub one_more : ℕ → ℕ
one_more count = min (count + 1) (2 ^ 64 - 1)

-- the count rose, or stands at its last value
abbrev pub Rose : ℕ → ℕ → Type 0
Rose before now = one_more before ≤ now

-- the count after an answer: it rises with each failure
abbrev pub faults_after : ℕ → Result ℕ Failed → ℕ
faults_after faults (Ok n) = faults
faults_after faults (Err failed) = one_more faults
