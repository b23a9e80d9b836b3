-- Members of a set of numbers that are below a number.
use Rattle.std.specs.Prelude.{◌≡◌, ◌<◌, ℕ, Bool, false, Option}
use Rattle.class_set.specs.Members.{IsAbove, IsNext}

-- no member above n is below the end
abbrev pub IsLastBelow : (ℕ → Bool) → (n : Option ℕ) → (end : ℕ) → Type 0
IsLastBelow is_member n end = (k : ℕ) → IsAbove n k → k < end → is_member k ≡ false

-- the least member above n is m, which is below the end
pub record IsNextBelow (is_member : ℕ → Bool) (n : Option ℕ) (end m : ℕ) : Type 0 where
  pub next : IsNext is_member n m
  pub below : m < end
