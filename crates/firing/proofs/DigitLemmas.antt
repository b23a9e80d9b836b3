-- A number whose lowest set digits are taken away one by one.
use Rattle.std.proofs.Common.{◌≡◌, ℕ, zero, suc, ◌+◌, ◌-◌, ◌*◌, ◌/◌, ◌%◌, ◌<◌, ◌^◌, bit_and, count_ones, sym, ap, subst, ◌∙◌, arith}
use Rattle.std.proofs.lemmas.Nat.{pow_pos, pow_below, mod-pow-add, mod_below, ones_cat, shr_split, shr_high, mod_low, and_block, and_mask}
use Rattle.std.proofs.lemmas.Nat.Bits.{bit_at-zero, bit_at_cat_low, bit_at_cat_high, bit_at-trailing_zeros, same_from_bits_below}
use Rattle.std.proofs.Math.Nat.{mod_self}
use Rattle.std.specs.Int.{bit_at, trailing_zeros, w64}
use Rattle.std.specs.Int.Bits.{and_self}
use Rattle.firing.specs.BlockCounts.{IsDigitAt}
use Rattle.firing.proofs.WordLemmas.{none_set, one_set}
use Rattle.std.proofs.lemmas.Grind.{elements}

-- ---- the lowest set digit

module _ (rest t : ℕ) (is_set : bit_at rest t ≡ 1) (none : (i : ℕ) → i < t → bit_at rest i ≡ 0) where
  pub none_below : rest % 2 ^ t ≡ 0
  none_below = same_from_bits_below t (rest % 2 ^ t) 0 (mod_below rest (2 ^ t) (pow_pos t)) (pow_pos t)
      (λ i lt. sym (bit_at_cat_low (rest / 2 ^ t) t (rest % 2 ^ t) i lt) ∙ ap (λ n. bit_at n i) (shr_split rest t) ∙ none i lt ∙ sym (bit_at-zero i))

  split : rest ≡ rest / 2 ^ suc t * 2 ^ suc t + 2 ^ t
  split = grind (arith, mod-pow-add rest 1 t, none_below, shr_split rest (suc t))

  short : 2 ^ t < 2 ^ suc t
  short = pow_below t (suc t) (omega arith)

  pub cleared : bit_and rest (rest - 1) ≡ rest / 2 ^ suc t * 2 ^ suc t
  cleared =
      let high = rest / 2 ^ suc t in
      let some = pow_pos t in
      let wide = short in
      let before : rest - 1 ≡ high * 2 ^ suc t + (2 ^ t - 1) = let e = split in omega (arith, e, some) in
      let low : bit_and (2 ^ t) (2 ^ t - 1) ≡ 0 = and_mask (2 ^ t) t ∙ mod_self (2 ^ t) in
      ap (λ n. bit_and n (rest - 1)) split
      ∙ ap (λ n. bit_and (high * 2 ^ suc t + 2 ^ t) n) before
      ∙ and_block (suc t) high high (2 ^ t) (2 ^ t - 1) wide (omega (arith, wide))
      ∙ ap (λ n. n * 2 ^ suc t + bit_and (2 ^ t) (2 ^ t - 1)) (and_self high)
      ∙ ap (λ n. high * 2 ^ suc t + n) low
      ∙ omega arith

-- ---- digits above one that is taken away

module _ (high t : ℕ) where
  one : count_ones (2 ^ t) ≡ 1
  one = ap count_ones (let e : 2 ^ t ≡ 1 * 2 ^ t + 0 = omega arith in e) ∙ ones_cat t 1 0 (pow_pos t) ∙ ap (λ n. n + count_ones 0) one_set ∙ ap (λ n. 1 + n) none_set

  all_ones : (low : ℕ) → low < 2 ^ suc t → count_ones (high * 2 ^ suc t + low) ≡ count_ones high + count_ones low
  all_ones low small = ones_cat (suc t) high low small

  above : (low i : ℕ) → low < 2 ^ suc t → t < i → count_ones ((high * 2 ^ suc t + low) % 2 ^ i) ≡ count_ones (high % 2 ^ (i - suc t)) + count_ones low
  above low i small lt =
      grind (arith, mod-pow-add, shr_high high (suc t) low small, mod_low high (suc t) low small, count_ones, ones_cat (suc t) (high % 2 ^ (i - suc t)) low small)

  digit_above : (low i : ℕ) → low < 2 ^ suc t → t < i → bit_at (high * 2 ^ suc t + low) i ≡ bit_at high (i - suc t)
  digit_above low i small lt = bit_at_cat_high high (suc t) low i small (omega (arith, lt))

  -- of a number with the digit at t as its lowest, and of what is left of it
  pub record Loses (i : ℕ) : Type 0 where
    pub is_set : bit_at (high * 2 ^ suc t + 2 ^ t) i ≡ 1
    pub below : count_ones ((high * 2 ^ suc t + 2 ^ t) % 2 ^ i) ≡ count_ones ((high * 2 ^ suc t + 0) % 2 ^ i) + 1

  pub loses : (i : ℕ) → bit_at (high * 2 ^ suc t + 0) i ≡ 1 → Loses i
  loses i is_set = grind (arith, elements, pow_below, pow_pos, digit_above, above, one, none_set, bit_at-zero, bit_at_cat_low)

  pub loses_one : count_ones (high * 2 ^ suc t + 2 ^ t) ≡ count_ones (high * 2 ^ suc t + 0) + 1
  loses_one = grind (arith, all_ones (2 ^ t), pow_below t (suc t), all_ones 0 (pow_pos (suc t)), pow_pos (suc t), one, none_set)

-- ---- the search for a set digit

-- a digit of a word with so many set digits below it besides those in the rest
pub record IsKept (word rest taken i : ℕ) : Type 0 where
  pub is_set : bit_at word i ≡ 1
  pub below : count_ones (word % 2 ^ i) ≡ count_ones (rest % 2 ^ i) + taken

-- the rest is the word without its lowest set digits, so many of them
pub record Takes (word rest taken : ℕ) : Type 0 where
  pub count : count_ones rest + taken ≡ count_ones word
  pub kept : (i : ℕ) → bit_at rest i ≡ 1 → IsKept word rest taken i

pub some_left : (word rest taken : ℕ) → Takes word rest taken → taken < count_ones word → 0 < rest
some_left word zero taken takes lt = let count = takes.count in let none = none_set in absurd (omega (arith, count, none, lt))
some_left word (suc n) taken takes lt = omega arith

module _ (word rest taken : ℕ) (takes : Takes word rest taken) (some : 0 < rest) (fits : rest < 2 ^ 64) where
  pub takes_more : Takes word (bit_and rest (rest - 1)) (taken + 1)
  takes_more =
      let t = trailing_zeros w64 rest in
      let at = bit_at-trailing_zeros w64 rest some fits in
      let high = rest / 2 ^ suc t in
      let left : bit_and rest (rest - 1) ≡ high * 2 ^ suc t + 0 = cleared rest t at.1 at.2 ∙ omega arith in
      let whole : rest ≡ high * 2 ^ suc t + 2 ^ t = split rest t at.1 at.2 in
      subst (λ n. Takes word n (taken + 1)) (sym left) (record {
        count = let fewer = loses_one high t in let count = takes.count in let same : count_ones rest ≡ count_ones (high * 2 ^ suc t + 2 ^ t) = ap count_ones whole in omega (arith, fewer, count, same);
        kept = λ i is_set.
            let more = loses high t i is_set in
            let old = takes.kept i (ap (λ n. bit_at n i) whole ∙ more.is_set) in
            let same : count_ones (rest % 2 ^ i) ≡ count_ones ((high * 2 ^ suc t + 2 ^ t) % 2 ^ i) = ap (λ n. count_ones (n % 2 ^ i)) whole in
            let fewer = more.below in
            let below = old.below in
            record { is_set = old.is_set; below = omega (arith, same, fewer, below) };
      })

  pub finds : IsDigitAt word taken (trailing_zeros w64 rest)
  finds = grind (arith, bit_at-trailing_zeros w64 rest some fits, count_ones, none_below rest, none_set)
