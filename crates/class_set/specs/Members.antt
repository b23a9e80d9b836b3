-- Words of 64 bits as sets of numbers.
use Rattle.std.specs.Prelude.{◌≡◌, ℕ, ◌+◌, ◌/◌, ◌%◌, ◌<◌, ◌≤◌, Bool, true, false, ◌==◌, slice_index, List, Option, Some, None, IfSome}
use Rattle.std.specs.Int.{bit_at}

-- how many words a set may have
pub record IsWidth (words : ℕ) : Type 0 where
  pub some : 1 ≤ words
  pub few : words ≤ 16

-- a number is a member of the words where its bit is set, 64 bits a word
unfoldable pub bit_of : List ℕ → ℕ → Bool
bit_of words n = bit_at (slice_index words (n / 64)) (n % 64) == 1

-- above n; each number is above none
abbrev pub IsAbove : Option ℕ → ℕ → Type 0
IsAbove n k = IfSome n (λ m. m < k)

-- the least number above n
abbrev pub first_above : Option ℕ → ℕ
first_above None = 0
first_above (Some n) = n + 1

-- the least member above n
pub record IsNext (is_member : ℕ → Bool) (n : Option ℕ) (m : ℕ) : Type 0 where
  pub member : is_member m ≡ true
  pub above : IsAbove n m
  pub least : (k : ℕ) → IsAbove n k → k < m → is_member k ≡ false

-- no member is above n
abbrev pub IsLast : (ℕ → Bool) → Option ℕ → Type 0
IsLast is_member n = (k : ℕ) → IsAbove n k → is_member k ≡ false

-- the least member from a number on
pub record IsLeast (is_member : ℕ → Bool) (first m : ℕ) : Type 0 where
  pub member : is_member m ≡ true
  pub from : first ≤ m
  pub least : (k : ℕ) → first ≤ k → k < m → is_member k ≡ false

-- no member stands from a number on
abbrev pub IsPast : (ℕ → Bool) → ℕ → Type 0
IsPast is_member first = (k : ℕ) → first ≤ k → is_member k ≡ false

-- the place of the lowest bit of the word, from a place on
pub record IsLowest (word first bit : ℕ) : Type 0 where
  pub set : bit_at word bit ≡ 1
  pub from : first ≤ bit
  pub within : bit < 64
  pub lowest : (k : ℕ) → first ≤ k → k < bit → bit_at word k ≡ 0

-- the word has no bit from a place on
abbrev pub IsClear : ℕ → ℕ → Type 0
IsClear word first = (k : ℕ) → first ≤ k → bit_at word k ≡ 0
