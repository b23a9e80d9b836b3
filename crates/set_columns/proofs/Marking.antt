-- Which rows are marked in a column, after one of its blocks is read or written, and in the search for the next.
use Rattle.std.proofs.Common.{◌≡◌, ◌≢◌, ℕ, zero, suc, ◌+◌, ◌-◌, ◌*◌, ◌/◌, ◌%◌, ◌<◌, ◌≤◌, Bool, false, ◌==◌, ◌||◌, ◌&&◌, List, [], ◌∷◌, length, set, get_or, replicate, refl, arith, Option, None}
use Rattle.std.specs.Prelude.{nat_lt}
use Rattle.std.proofs.lemmas.Bool.Decides.{nat_tests}
use Rattle.std.proofs.lemmas.Nat.{div-mul-add}
use Rattle.class_set.specs.ClassSet.{holds}
use Rattle.class_set.specs.Members.{IsAbove, IsNext, IsLast, IsLeast, IsPast, first_above}
use Rattle.class_set.specs.declared.ClassSet.{ClassSet}
use Rattle.set_columns.specs.Marks.{marked_in, member_at}

-- ---- the sets of a list

member_at-replicate : (s : ClassSet 1) (count place n : ℕ) → holds s n ≡ false → member_at (replicate count s) place n ≡ false
member_at-replicate s zero place n none = refl
member_at-replicate s (suc count) zero n none = none
member_at-replicate s (suc count) (suc place) n none = member_at-replicate s count place n none

-- one that was read
member_at-read : (sets : List (ClassSet 1)) (place n : ℕ) (s : ClassSet 1) → place < length sets → s ≡ get_or sets place s → holds s n ≡ member_at sets place n
member_at-read [] place n s within is = absurd (omega arith)
member_at-read (x ∷ sets) zero n s within is = cc
member_at-read (x ∷ sets) (suc place) n s within is = member_at-read sets place n s (omega arith) is

-- one that was written
member_at-set_same : (sets : List (ClassSet 1)) (place n : ℕ) (s : ClassSet 1) → place < length sets → member_at (set sets place s) place n ≡ holds s n
member_at-set_same [] place n s within = absurd (omega arith)
member_at-set_same (x ∷ sets) zero n s within = refl
member_at-set_same (x ∷ sets) (suc place) n s within = member_at-set_same sets place n s (omega arith)

member_at-set_other : (sets : List (ClassSet 1)) (place p n : ℕ) (s : ClassSet 1) → p ≢ place → member_at (set sets place s) p n ≡ member_at sets p n
member_at-set_other [] place p n s differ = refl
member_at-set_other (x ∷ sets) zero zero n s differ = absurd (differ refl)
member_at-set_other (x ∷ sets) zero (suc p) n s differ = refl
member_at-set_other (x ∷ sets) (suc place) zero n s differ = refl
member_at-set_other (x ∷ sets) (suc place) (suc p) n s differ = member_at-set_other sets place p n s (omega arith)

ruleset sets_tests = (nat_tests, member_at-replicate, member_at-read, member_at-set_same, member_at-set_other)

-- ---- marks

-- a table of blank blocks has none
pub none_marked : (s : ClassSet 1) (count blocks column row : ℕ) → ((k : ℕ) → holds s k ≡ false) → marked_in (replicate count s) blocks column row ≡ false
none_marked s count blocks column row none = grind (arith, sets_tests)

-- the block of a column and the row stands in one place alone
same_place : (blocks c b column block : ℕ) → b < blocks → block < blocks → c * blocks + b ≡ column * blocks + block → (c ≡ column) × (b ≡ block)
same_place blocks c b column block within in_block same = grind (arith, div-mul-add c blocks b within, div-mul-add column blocks block in_block)

-- a row marked in a column, in its block
pub one_marked : (sets : List (ClassSet 1)) (blocks column row : ℕ) (old new : ClassSet 1) (within : column * blocks + row / 64 < length sets) (in_column : row / 64 < blocks) (read : old ≡ get_or sets (column * blocks + row / 64) old) (is : (k : ℕ) → holds new k ≡ (k == row % 64 || holds old k)) → (c k : ℕ) → marked_in (set sets (column * blocks + row / 64) new) blocks c k ≡ ((k == row && c == column) || marked_in sets blocks c k)
one_marked sets blocks column row old new within in_column read is c k = grind (arith, sets_tests, same_place blocks c (k / 64) column (row / 64))

-- ---- the search

-- a row is marked in its block
marked_at : (sets : List (ClassSet 1)) (blocks column block n : ℕ) → block < blocks → n < 64 → marked_in sets blocks column (64 * block + n) ≡ member_at sets (column * blocks + block) n
marked_at sets blocks column block n within low =
    let number : (64 * block + n) / 64 ≡ block = omega arith in
    let rest : (64 * block + n) % 64 ≡ n = omega arith in
    grind (arith, nat_tests)

-- the numbers above one are those from the next on
above_from : (before : Option ℕ) (k : ℕ) → first_above before ≤ k → IsAbove before k
above_from before k from = grind arith

from_above : (before : Option ℕ) (k : ℕ) → IsAbove before k → first_above before ≤ k
from_above before k above = grind arith

module _ (sets : List (ClassSet 1)) (blocks column first : ℕ) where
  -- no row is marked from the first up to a number in a block
  abbrev pub Passed : (block : ℕ) → Option ℕ → Type 0
  Passed block before = (k : ℕ) → first ≤ k → k < 64 * block + first_above before → marked_in sets blocks column k ≡ false

  -- what the block says of a row in it
  in_block : (block k : ℕ) (s : ClassSet 1) → block < blocks → column * blocks + block < length sets → s ≡ get_or sets (column * blocks + block) s → 64 * block ≤ k → k < 64 * (block + 1) → holds s (k - 64 * block) ≡ marked_in sets blocks column k
  in_block block k s within there read from below =
      let e : k / 64 ≡ block = omega arith in
      let e' : k % 64 ≡ k - 64 * block = omega arith in
      grind (arith, sets_tests)

  pub Passed-block : (block : ℕ) (before : Option ℕ) (s : ClassSet 1) → block < blocks → column * blocks + block < length sets → s ≡ get_or sets (column * blocks + block) s → Passed block before → IsLast (holds s) before → Passed (block + 1) None
  Passed-block block before s within there read passed last k from below = grind (arith, in_block block k s within there read, passed k, last (k - 64 * block), above_from)

  pub IsPast-end : (block : ℕ) (before : Option ℕ) → blocks ≤ block → Passed block before → IsPast (marked_in sets blocks column) first
  IsPast-end block before end passed k from = grind (arith, nat_tests, passed k)

  pub IsLeast-found : (block n : ℕ) (before : Option ℕ) (s : ClassSet 1) → block < blocks → column * blocks + block < length sets → s ≡ get_or sets (column * blocks + block) s → first ≤ 64 * block + first_above before → Passed block before → n < 64 → IsNext (holds s) before n → IsLeast (marked_in sets blocks column) first (64 * block + n)
  IsLeast-found block n before s within there read begin passed in_word found =
      let low : first_above before ≤ n = from_above before n found.above in
      record {
        member = grind (arith, marked_at, member_at-read, found.member);
        from = omega arith;
        least = λ k from below. grind (arith, in_block block k s within there read, passed k, found.least (k - 64 * block), above_from);
      }

-- ---- the columns of a set, one after another

-- those that are done
abbrev pub done : (p : ℕ → Bool) → Option ℕ → (column : ℕ) → Bool
done p before column = nat_lt column (first_above before) && p column

-- a row of columns that are done, and what was marked before
abbrev pub MarkedSo : (old new : ℕ → ℕ → Bool) (p : ℕ → Bool) (row : ℕ) → Option ℕ → Type 0
MarkedSo old new p row before = (column k : ℕ) → new column k ≡ ((k == row && done p before column) || old column k)
