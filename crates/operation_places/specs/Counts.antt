-- Numbers that are counted, and marks of those whose count is 0.
use Rattle.std.specs.Prelude.{◌≡◌, ◌<◌, ◌+◌, ◌==◌, ℕ, Bool, false, if◌then◌else◌, List, length, map}
use Rattle.std.specs.List.{range_with_len}
use Rattle.firing.specs.ReadySet.{has}
use Rattle.operation_tables.specs.Waits.{one_if}

-- so many marks, of which each tells whether its number passes the test, but for these numbers
pub record AreMarksBut (n : ℕ) (but test : ℕ → Bool) (flags : List Bool) : Type 0 where
  pub room : length flags ≡ n
  pub right : (k : ℕ) → k < n → but k ≡ false → has flags k ≡ test k

-- the count of each number below n, and a mark for each, but for these, that tells whether that is 0
pub record AreCounts (n : ℕ) (count : ℕ → ℕ) (but : ℕ → Bool) (numbers : List ℕ) (flags : List Bool) : Type 0 where
  pub counts : numbers ≡ map count (range_with_len 0 n)
  pub marks : AreMarksBut n but (λ k. count k == 0) flags

-- these counts, with one more of k
abbrev pub one_more : (ℕ → ℕ) → (k : ℕ) → ℕ → ℕ
one_more count k j = count j + one_if (j == k)

-- these counts, with so many more of k
abbrev pub more_of : (ℕ → ℕ) → (k n : ℕ) → ℕ → ℕ
more_of count k n j = count j + (if j == k then n else 0)
