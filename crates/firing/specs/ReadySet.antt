-- Sets of the numbers below a room, as a flag for each of those.
use Rattle.std.specs.Prelude.{◌≡◌, ◌+◌, ◌<◌, ℕ, zero, suc, Bool, true, false, List, length, get_or}
use Rattle.firing.specs.Orders.{counted}

-- whether a number is in the set
abbrev pub has : List Bool → ℕ → Bool
has flags k = get_or flags k false

-- how many members are below a number
abbrev pub rank : List Bool → ℕ → ℕ
rank flags zero = 0
rank flags (suc n) = rank flags n + counted (has flags n)

-- how many members there are
abbrev pub member_count : List Bool → ℕ
member_count flags = rank flags (length flags)

-- the member at this place, counted from 0 in number order
pub record IsMemberAt (flags : List Bool) (place k : ℕ) : Type 0 where
  pub inside : k < length flags
  pub member : has flags k ≡ true
  pub below : rank flags k ≡ place
