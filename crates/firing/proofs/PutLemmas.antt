-- A number that comes into a set, or goes.
use Rattle.std.proofs.Common.{◌≡◌, ◌≢◌, ◌==◌, ℕ, ◌*◌, ◌/◌, ◌%◌, ◌<◌, ◌^◌, Bool, true, false, not, List, length, get_or, set, bit_and, bit_or, bit_xor, sym, ap, subst, ◌∙◌, arith}
use Rattle.std.proofs.lemmas.Bool.{eqb-true}
use Rattle.std.proofs.lemmas.List.{get_or_default, set-get_or}
use Rattle.std.proofs.lemmas.Nat.{pow_pos, one_shl, or_disjoint}
use Rattle.std.proofs.lemmas.Nat.Bits.{and_pow, bit_at-lt}
use Rattle.std.specs.Int.{bit_at}
use Rattle.std.specs.Int.Bits.{xor_disjoint}
use mathlib.Core.Bool.{beq}
use Rattle.firing.specs.BlockCounts.{AreWords, digit_at, flags_of}
use Rattle.firing.specs.ReadySet.{has}
use Rattle.firing.proofs.WordLemmas.{flipped, flips, has_flag, length_flags, length_seen}

some_bit : (d power : ℕ) → d < 2 → 0 < power → not (d * power == 0) ≡ (d == 1)
some_bit h power lt some = grind (arith, eqb-true)

-- the digit of a number, as the code reads it
abbrev pub is_read : ℕ → ℕ → Bool
is_read word k = not (bit_and word (1 * 2 ^ (k % 64) % 2 ^ 64) == 0)

-- a write that changes a flag
pub record Changes (flags : List Bool) (k : ℕ) (ready : Bool) : Type 0 where
  pub inside : k < length flags
  pub differs : has flags k ≢ ready

not_same : (seen ready : Bool) → beq seen ready ≡ false → seen ≢ ready
not_same h h2 e is = grind arith

opposite : (a b : Bool) → a ≢ b → not a ≡ b
opposite h h2 differ = grind arith

same_bool : (a b : Bool) → beq a b ≡ true → a ≡ b
same_bool h h2 is = grind arith

-- a digit that is clear, as its flag tells
clear : (d : ℕ) → d < 2 → (d == 1) ≡ false → d ≡ 0
clear h lt lacks = grind arith

-- a set digit is put into a word that lacks it in either way
or_is_xor : (word i : ℕ) → bit_at word i ≡ 0 → bit_or word (2 ^ i) ≡ bit_xor word (2 ^ i)
or_is_xor word i lacks =
    let none : 0 * 2 ^ i ≡ 0 = omega arith in
    let apart : bit_and word (2 ^ i) ≡ 0 = and_pow word i ∙ ap (λ d. d * 2 ^ i) lacks ∙ none in
    or_disjoint word (2 ^ i) apart ∙ sym (xor_disjoint word (2 ^ i) apart)

-- the word of a number is one of the set's
pub word_within : (words : List ℕ) (room : ℕ) (value : List Bool) → AreWords words room → flags_of words room ≡ value → (k : ℕ) → k < length value → k / 64 < length words
word_within words room value are seen k within = let covered = are.covered in let room_is = length_seen words room value seen in omega (arith, covered, room_is, within)

module _ (words : List ℕ) (room : ℕ) (value : List Bool) (are : AreWords words room) (seen : flags_of words room ≡ value) (k word : ℕ) (within : k < length value) (read : word ≡ get_or words (k / 64) word) where
  inside : k < room
  inside = subst (λ n. k < n) (length_seen words room value seen) within

  one : (1 * 2 ^ (k % 64)) % 2 ^ 64 ≡ 2 ^ (k % 64)
  one = one_shl (k % 64) 64 (omega arith)

  same_word : word ≡ get_or words (k / 64) 0
  same_word = read ∙ get_or_default words (k / 64) word 0 (word_within words room value are seen k within)

  flag_read : is_read word k ≡ has (flags_of words room) k
  flag_read =
      grind (arith, bit_and word, one, and_pow word (k % 64), some_bit (bit_at word (k % 64)) (2 ^ (k % 64)) (bit_at-lt word (k % 64)) (pow_pos (k % 64)), bit_at-lt word (k % 64), pow_pos (k % 64), same_word, has_flag words room k are)

  pub stays : (ready : Bool) → beq (is_read word k) ready ≡ true → value ≡ set value k ready
  stays ready test = grind (arith, flag_read, same_bool (is_read word k) ready test, set-get_or (flags_of words room) k false)

  in_flags : k < length (flags_of words room)
  in_flags = subst (λ n. k < n) (sym (length_flags words room)) inside

  pub changes : (ready : Bool) → beq (is_read word k) ready ≡ false → Changes (flags_of words room) k ready
  changes ready test = record { inside = in_flags; differs = subst (λ b. b ≢ ready) flag_read (not_same (is_read word k) ready test) }

  pub comes : has value k ≡ false → Changes (flags_of words room) k true
  comes out = record { inside = in_flags; differs = λ member. let e : true ≡ false = sym member ∙ ap (λ flags. has flags k) seen ∙ out in absurd cc }

  pub goes : has value k ≡ true → Changes (flags_of words room) k false
  goes member = record { inside = in_flags; differs = λ out. let e : true ≡ false = sym (ap (λ flags. has flags k) seen ∙ member) ∙ out in absurd cc }

  -- the words that the code writes
  pub record Puts (ready : Bool) (new : List ℕ) : Type 0 where
    pub new_words : AreWords new room
    pub flags : flags_of new room ≡ set (flags_of words room) k ready
    pub is : flags_of new room ≡ set value k ready

  written : flipped words k ≡ set words (k / 64) (bit_xor word (1 * 2 ^ (k % 64) % 2 ^ 64))
  written = ap (λ w. set words (k / 64) (bit_xor w (2 ^ (k % 64)))) (sym same_word) ∙ ap (λ n. set words (k / 64) (bit_xor word n)) (sym one)

  puts_at : (ready : Bool) (new : List ℕ) → flipped words k ≡ new → Changes (flags_of words room) k ready → Puts ready new
  puts_at ready new is change = grind (arith, flips words room k are inside, inside, opposite (digit_at words k) ready, has_flag words room k are)

  pub puts : (ready : Bool) → Changes (flags_of words room) k ready → Puts ready (set words (k / 64) (bit_xor word (1 * 2 ^ (k % 64) % 2 ^ 64)))
  puts ready change = puts_at ready (set words (k / 64) (bit_xor word (1 * 2 ^ (k % 64) % 2 ^ 64))) written change

  joined : has value k ≡ false → bit_xor word (1 * 2 ^ (k % 64) % 2 ^ 64) ≡ bit_or word (1 * 2 ^ (k % 64) % 2 ^ 64)
  joined out =
      grind (arith, has_flag words room k are, same_word, clear (bit_at (get_or words (k / 64) 0) (k % 64)) (bit_at-lt (get_or words (k / 64) 0) (k % 64)), bit_at-lt (get_or words (k / 64) 0) (k % 64), bit_xor word, one, or_is_xor word (k % 64), bit_or word)

  pub puts_in : has value k ≡ false → Puts true (set words (k / 64) (bit_or word (1 * 2 ^ (k % 64) % 2 ^ 64)))
  puts_in out = puts_at true (set words (k / 64) (bit_or word (1 * 2 ^ (k % 64) % 2 ^ 64))) (written ∙ ap (λ w. set words (k / 64) w) (joined out)) (comes out)
