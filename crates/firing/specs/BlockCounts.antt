-- How a set keeps its members: digits of words, and counts of them by blocks of its room.
use Rattle.std.specs.Prelude.{◌≡◌, ◌==◌, ◌+◌, ◌-◌, ◌*◌, ◌/◌, ◌%◌, ◌<◌, ◌≤◌, ◌^◌, ℕ, zero, suc, Bool, true, false, List, length, get_or, map, count_ones}
use Rattle.std.specs.Int.{bit_at}
use Rattle.std.specs.List.{range_with_len}
use Rattle.firing.specs.ReadySet.{rank, member_count}

-- ---- words

-- the digit for a number: 64 numbers have one word, the lowest number its lowest digit
abbrev pub digit_at : List ℕ → ℕ → Bool
digit_at words k = bit_at (get_or words (k / 64) 0) (k % 64) == 1

-- the flags of the numbers below a room
abbrev pub flags_of : List ℕ → ℕ → List Bool
flags_of words room = map (digit_at words) (range_with_len 0 room)

-- how many members each word has
abbrev pub ones_of : List ℕ → List ℕ
ones_of words = map count_ones words

-- the words cover the room, and past it no digit is set
pub record AreWords (words : List ℕ) (room : ℕ) : Type 0 where
  pub room_fits : room < 2 ^ 32
  pub covered : room ≤ 64 * length words
  pub past : (k : ℕ) → room ≤ k → digit_at words k ≡ false

-- the digit that is set and has so many set digits below it
pub record IsDigitAt (word place digit : ℕ) : Type 0 where
  pub inside : digit < 64
  pub is_set : bit_at word digit ≡ 1
  pub below : count_ones (word % 2 ^ digit) ≡ place

-- ---- counts

-- the sum of the counts before a number
abbrev pub before : List ℕ → ℕ → ℕ
before counts zero = 0
before counts (suc n) = before counts n + get_or counts n 0

-- a count after one member came or went
abbrev pub shifted : ℕ → Bool → ℕ
shifted count true = count + 1
shifted count false = count - 1

-- each count is that of the members in its block, and the blocks cover the room
pub record AreCounts (width : ℕ) (counts : List ℕ) (flags : List Bool) : Type 0 where
  pub covered : length flags ≤ width * length counts
  pub counted : (b : ℕ) → b < length counts → rank flags (width * b) + get_or counts b 0 ≡ rank flags (width * b + width)

-- a count can grow or shrink by one
pub record CanShift (counts : List ℕ) (b : ℕ) (more : Bool) : Type 0 where
  pub inside : b < length counts
  pub fits : more ≡ true → get_or counts b 0 < 2 ^ 32 - 1
  pub some : more ≡ false → 0 < get_or counts b 0

-- counts of three widths, each of which serves only sets that are large enough for it, and of all
pub record IsCounted (flags : List Bool) (low mid high : List ℕ) (total : ℕ) : Type 0 where
  pub low_counts : 1024 < length flags → AreCounts 1024 low flags
  pub mid_counts : 32768 < length flags → AreCounts 32768 mid flags
  pub high_counts : 32768 < length flags → AreCounts 1048576 high flags
  pub all : total ≡ member_count flags

-- the block of this width that has the member at a place, and the member's place in it
pub record IsInBlock (flags : List Bool) (width place b left : ℕ) : Type 0 where
  pub start : rank flags (width * b) + left ≡ place
  pub end : place < rank flags (width * b + width)
