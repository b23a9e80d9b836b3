-- Units of which none calls itself: they have heights, and each is higher than those that it calls.
use Rattle.std.specs.Prelude.{◌≡◌, ℕ, ◌+◌, ◌<◌, Bool, true, false, nat_lt, if◌then◌else◌, List, length, Option, Some, None}
use Rattle.std.specs.List.{list_all, count_by, range_with_len}
use Rattle.f77_tree.specs.declared.statements.Labelled.{Labelled}
use Rattle.program_units.specs.Units.{Call, call_in, unit_at, unit_of, reaches}

abbrev pub calls_below : (height : ℕ → ℕ) → List (List Labelled) → (k : ℕ) → Option Call → Bool
calls_below height us k None = true
calls_below height us k (Some call) = nat_lt (height (unit_of us call.name)) (height k)

abbrev pub IsHeight : List (List Labelled) → (height : ℕ → ℕ) → Type 0
IsHeight us height = (k : ℕ) → list_all (λ s. calls_below height us k (call_in s.stmt)) (unit_at us k) ≡ true

-- no unit calls itself, through any number of calls
abbrev pub NoneCallsItself : List (List Labelled) → Type 0
NoneCallsItself us = (k : ℕ) → k < length us → reaches us (length us) k k ≡ false

-- how many units a unit calls, through any number of calls
abbrev pub reached : List (List Labelled) → ℕ → ℕ
reached us k = count_by (reaches us (length us) k) (range_with_len 0 (length us))

-- one more than that; what is no unit is below all
abbrev pub height : List (List Labelled) → ℕ → ℕ
height us k = if nat_lt k (length us) then 1 + reached us k else 0
