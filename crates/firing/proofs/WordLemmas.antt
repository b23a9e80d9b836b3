-- Words of digits: what a change of one digit does, how many members a word has, and the way to one of its set digits.
use Rattle.std.proofs.Common.{◌≡◌, ◌≢◌, ◌==◌, ℕ, zero, suc, ◌+◌, ◌*◌, ◌/◌, ◌%◌, ◌<◌, ◌≤◌, ◌^◌, Bool, true, false, not, List, length, get_or, set, replicate, bit_xor, count_ones, sym, ap, subst, ◌∙◌, ⊎_elim, arith, length-set}
use Rattle.std.proofs.lemmas.Bool.{cases_lt}
use Rattle.std.proofs.lemmas.List.{ext_get_or, get_or_default, get_or_past, get_or-replicate, length-replicate, get_or-map, get_or-set_same, get_or-set_other, length-map}
use Rattle.std.proofs.lemmas.List.FromFn.{length-map-range_with_len, get_or-map-range_with_len}
use Rattle.std.proofs.lemmas.Nat.{pow_pos, mod-pow-add, mod_below, ones_cat}
use Rattle.std.proofs.lemmas.Nat.Bits.{bit_at-lt, bit_at-zero, bit_at_xor, bit_at-pow_same, bit_at-pow_other}
use Rattle.std.specs.Int.{bit_at}
use Rattle.std.specs.Int.Count.{ones-ones}
use Rattle.firing.specs.BlockCounts.{AreWords, AreCounts, IsDigitAt, IsInBlock, digit_at, flags_of, ones_of}
use Rattle.firing.specs.Orders.{counted}
use Rattle.firing.specs.ReadySet.{IsMemberAt, has, member_count, rank}
use Rattle.firing.proofs.CountLemmas.{block_few, zeros}
use Rattle.std.proofs.lemmas.Grind.{elements}

-- ---- flags and digits

pub length_flags : (words : List ℕ) (room : ℕ) → length (flags_of words room) ≡ room
length_flags words room = length-map-range_with_len (digit_at words) 0 room

-- the room of a set as its callers see it
pub length_seen : (words : List ℕ) (room : ℕ) (value : List Bool) → flags_of words room ≡ value → length value ≡ room
length_seen words room value seen = ap length (sym seen) ∙ length_flags words room

pub large_seen : (n : ℕ) (words : List ℕ) (room : ℕ) (value : List Bool) → flags_of words room ≡ value → n < length value → n < length (flags_of words room)
large_seen n words room value seen many = subst (λ set. n < length set) (sym seen) many

pub has_flag : (words : List ℕ) (room k : ℕ) → AreWords words room → has (flags_of words room) k ≡ digit_at words k
has_flag words room k are = grind (arith, get_or-map-range_with_len (digit_at words) 0, get_or_past, length_flags words)

-- ---- one digit that changes

toggled : (d : ℕ) → d < 2 → ((d + 1) % 2 == 1) ≡ not (d == 1)
toggled h lt = grind arith

kept : (d : ℕ) → d < 2 → (d + 0) % 2 ≡ d
kept d lt = omega (arith, lt)

-- the words after the digit for a number changed
abbrev pub flipped : List ℕ → ℕ → List ℕ
flipped words k = set words (k / 64) (bit_xor (get_or words (k / 64) 0) (2 ^ (k % 64)))

module _ (words : List ℕ) (k : ℕ) (inside : k / 64 < length words) where
  flipped_here : get_or (flipped words k) (k / 64) 0 ≡ bit_xor (get_or words (k / 64) 0) (2 ^ (k % 64))
  flipped_here = get_or-set_same words (k / 64) (bit_xor (get_or words (k / 64) 0) (2 ^ (k % 64))) 0 inside

  pub flip_same : digit_at (flipped words k) k ≡ not (digit_at words k)
  flip_same = grind (arith, flipped_here, bit_at_xor, bit_at-pow_same (k % 64), toggled, bit_at-lt)

  other_word : (j : ℕ) → j / 64 ≢ k / 64 → digit_at (flipped words k) j ≡ digit_at words j
  other_word j differ = ap (λ n. bit_at n (j % 64) == 1) (get_or-set_other words (k / 64) (j / 64) (bit_xor (get_or words (k / 64) 0) (2 ^ (k % 64))) 0 differ)

  same_word : (j : ℕ) → j / 64 ≡ k / 64 → j % 64 ≢ k % 64 → digit_at (flipped words k) j ≡ digit_at words j
  same_word j same differ = grind (arith, bit_xor, flipped_here, bit_at_xor, bit_at-pow_other (k % 64) (j % 64) differ, kept, bit_at-lt)

  pub flip_other : (j : ℕ) → j ≢ k → digit_at (flipped words k) j ≡ digit_at words j
  flip_other j differ = grind (arith, same_word, other_word)

-- the words after a change, and their flags
pub record Flips (words : List ℕ) (room k : ℕ) : Type 0 where
  pub are : AreWords (flipped words k) room
  pub flags : flags_of (flipped words k) room ≡ set (flags_of words room) k (not (digit_at words k))

pub flips : (words : List ℕ) (room k : ℕ) → AreWords words room → k < room → Flips words room k
flips words room k are lt =
    grind (arith, ext_get_or false, length_flags, length-set (flags_of words room), length_flags words room, has_flag, length-set words, bit_xor, flip_other words, flip_same words, get_or-set_same (flags_of words room), has_flag words room, get_or-set_other (flags_of words room))

-- ---- the members of a word

pub none_set : count_ones 0 ≡ 0
none_set = ones-ones 0

pub one_set : count_ones 1 ≡ 1
one_set = ones-ones 1

digit_counts : (d : ℕ) → d < 2 → count_ones d ≡ d
digit_counts h lt = grind (arith, none_set, one_set)

-- one digit more
ones_more : (w i : ℕ) → count_ones (w % 2 ^ suc i) ≡ count_ones (w % 2 ^ i) + bit_at w i
ones_more w i =
    grind (arith, ones_cat i (bit_at w i) (w % 2 ^ i) (mod_below w (2 ^ i) (pow_pos i)), mod_below w (2 ^ i) (pow_pos i), pow_pos i, digit_counts (bit_at w i) (bit_at-lt w i), bit_at-lt w i, count_ones, count_ones (bit_at w i * 2 ^ i + w % 2 ^ i), mod-pow-add w 1 i)

counts_digit : (d : ℕ) → d < 2 → counted (d == 1) ≡ d
counts_digit h lt = grind arith

module _ (words : List ℕ) (room : ℕ) (are : AreWords words room) where
  here : (b i : ℕ) → i < 64 → counted (has (flags_of words room) (64 * b + i)) ≡ bit_at (get_or words b 0) i
  here b i lt =
      grind (arith, has_flag words room (64 * b + i) are, counts_digit (bit_at (get_or words b 0) i) (bit_at-lt (get_or words b 0) i), bit_at-lt (get_or words b 0) i)

  -- the members below a digit of a word
  pub rank_in : (b i : ℕ) → i ≤ 64 → rank (flags_of words room) (64 * b + i) ≡ rank (flags_of words room) (64 * b) + count_ones (get_or words b 0 % 2 ^ i)
  rank_in b zero le = grind (arith, count_ones, none_set)
  rank_in b (suc i) le =
      let w = get_or words b 0 in
      let step = rank_in b i (omega (arith, le)) in
      let place : 64 * b + suc i ≡ suc (64 * b + i) = omega arith in
      let same : rank (flags_of words room) (64 * b + suc i) ≡ rank (flags_of words room) (64 * b + i) + counted (has (flags_of words room) (64 * b + i)) = ap (rank (flags_of words room)) place in
      let digit = here b i (omega (arith, le)) in
      let more = ones_more w i in
      omega (arith, step, same, digit, more)

  ones_at : (b : ℕ) → b < length words → get_or (ones_of words) b 0 ≡ count_ones (get_or words b 0)
  ones_at b inside = get_or-map count_ones words b 0 0 inside

  pub word_counts : ((b : ℕ) → get_or words b 0 < 2 ^ 64) → AreCounts 64 (ones_of words) (flags_of words room)
  word_counts fits = grind (arith, length-map words count_ones, count_ones, length_flags words room, rank_in, ones_at)

pub length_ones : (words : List ℕ) → length (ones_of words) ≡ length words
length_ones words = length-map words count_ones

-- the counts of words in a slice, and a set as its callers see it
pub word_counts_of : (slice words : List ℕ) (room : ℕ) (value : List Bool) → slice ≡ words → flags_of words room ≡ value → AreWords words room → ((b : ℕ) → get_or slice b 0 < 2 ^ 64) → AreCounts 64 (ones_of slice) value
word_counts_of slice words room value is seen are fits = subst (λ set. AreCounts 64 (ones_of slice) set) (ap (λ ws. flags_of ws room) is ∙ seen) (word_counts slice room (subst (λ ws. AreWords ws room) (sym is) are) fits)

-- ---- the member at a place, by its word

module _ (words : List ℕ) (room : ℕ) (are : AreWords words room) (place b left word : ℕ) (within : place < member_count (flags_of words room)) (block : IsInBlock (flags_of words room) 64 place b left) (read : word ≡ get_or words b word) where
  same_read : word ≡ get_or words b 0
  same_read = grind (arith, block_few (flags_of words room) 64 place b left within block, length_flags words room, get_or_default words b word 0)

  short : word < 2 ^ 64 → left < count_ones word
  short fits = grind (arith, rank_in words room are b 64, same_read, count_ones, count_ones word)

  finds : (digit : ℕ) → IsDigitAt word left digit → IsMemberAt (flags_of words room) place (64 * b + digit)
  finds digit at =
      let flags = flags_of words room in
      let small = at.inside in
      let block_is : (64 * b + digit) / 64 ≡ b = omega (arith, small) in
      let digit_is : (64 * b + digit) % 64 ≡ digit = omega (arith, small) in
      let bit : bit_at (get_or words b 0) digit ≡ 1 = ap (λ w. bit_at w digit) (sym same_read) ∙ at.is_set in
      let member : has flags (64 * b + digit) ≡ true =
      has_flag words room (64 * b + digit) are ∙ ap (λ n. bit_at (get_or words n 0) ((64 * b + digit) % 64) == 1) block_is ∙ ap (λ n. bit_at (get_or words b 0) n == 1) digit_is ∙ ap (λ n. n == 1) bit in
      let ones : count_ones (get_or words b 0 % 2 ^ digit) ≡ left = ap (λ w. count_ones (w % 2 ^ digit)) (sym same_read) ∙ at.below in
      let below = rank_in words room are b digit (omega (arith, small)) in
      let start = block.start in
      record {
        inside = ⊎_elim
            (λ lt. lt)
            (λ (past : length flags ≤ 64 * b + digit). let e : true ≡ false = sym member ∙ get_or_past flags (64 * b + digit) false past in absurd cc)
            (cases_lt (64 * b + digit) (length flags));
        member = member;
        below = omega (arith, below, ones, start);
      }

-- of a set as its callers see it
pub place_short : (words : List ℕ) (room : ℕ) (value : List Bool) → AreWords words room → flags_of words room ≡ value → (place b left word : ℕ) → place < member_count value → IsInBlock value 64 place b left → word ≡ get_or words b word → word < 2 ^ 64 → left < count_ones word
place_short words room value are seen place b left word within block read fits = subst (λ set. place < member_count set → IsInBlock set 64 place b left → left < count_ones word) seen (λ inside there. short words room are place b left word inside there read fits) within block

pub member_at : (words : List ℕ) (room : ℕ) (value : List Bool) → AreWords words room → flags_of words room ≡ value → (place b left word digit : ℕ) → place < member_count value → IsInBlock value 64 place b left → word ≡ get_or words b word → IsDigitAt word left digit → IsMemberAt value place (64 * b + digit)
member_at words room value are seen place b left word digit within block read at = subst (λ set. place < member_count set → IsInBlock set 64 place b left → IsMemberAt set place (64 * b + digit)) seen (λ inside there. finds words room are place b left word inside there read digit at) within block

-- ---- the empty set

no_digit : (n k : ℕ) → digit_at (replicate n 0) k ≡ false
no_digit n k = ap (λ w. bit_at w (k % 64) == 1) (zeros n (k / 64)) ∙ ap (λ d. d == 1) (bit_at-zero (k % 64))

pub empty_words : (room : ℕ) → room < 2 ^ 32 → AreWords (replicate (room / 64 + 1) 0) room
empty_words room fits = grind (arith, elements, no_digit)

pub empty_flags : (n room : ℕ) → flags_of (replicate n 0) room ≡ replicate room false
empty_flags n room = ext_get_or false (flags_of (replicate n 0) room) (replicate room false)
    (length_flags (replicate n 0) room ∙ sym (length-replicate room false))
    (λ i lt. let inside : i < room = subst (λ m. i < m) (length_flags (replicate n 0) room) lt in
    get_or-map-range_with_len (digit_at (replicate n 0)) 0 room i i false inside (omega arith) ∙ no_digit n i ∙ sym (get_or-replicate room i false false inside))
