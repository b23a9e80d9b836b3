-- One firing more is counted.
use Rattle.std.specs.Prelude.{◌≡◌, ℕ, suc, ◌+◌, ◌-◌, ◌^◌, ◌==◌, ◌&&◌, if◌then◌else◌, List, length, min, nat_lt, slice_index}

abbrev pub IsCounted : (old new : List ℕ) → (round : ℕ) → Type 0
IsCounted old new round = (i : ℕ) → slice_index new i ≡ (if nat_lt i (length old) && (round == suc i) then min (slice_index old i + 1) (2 ^ 32 - 1) else slice_index old i)
