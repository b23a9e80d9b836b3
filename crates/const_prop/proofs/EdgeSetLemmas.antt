-- Which edges are in a set of edges, after one of its blocks is read or written, and in the search for the next.
use Rattle.std.proofs.Common.{◌≡◌, ◌≢◌, ℕ, zero, suc, ◌+◌, ◌-◌, ◌*◌, ◌/◌, ◌%◌, ◌<◌, ◌≤◌, false, not, ◌==◌, ◌||◌, ◌&&◌, List, [], ◌∷◌, length, set, get_or, refl, ap, ◌∙◌, sym, ⊎_elim, arith, Option, Some, None}
use Rattle.std.proofs.lemmas.Bool.{cases_eq, cases_lt}
use Rattle.std.proofs.lemmas.Bool.Decides.{nat_tests}
use Rattle.class_set.specs.ClassSet.{holds}
use Rattle.class_set.specs.Members.{IsAbove, IsNext, IsLast, IsLeast, IsPast, first_above}
use Rattle.class_set.specs.declared.ClassSet.{ClassSet}
use Rattle.const_prop.specs.EdgeSet.{block_holds, edge_holds}

-- a block that was read
pub block_holds-read : (blocks : List (ClassSet 1)) (block place : ℕ) (s : ClassSet 1) → block < length blocks → s ≡ get_or blocks block s → holds s place ≡ block_holds blocks block place
block_holds-read [] block place s within is = absurd (omega (arith, within))
block_holds-read (x ∷ blocks) zero place s within is = ap (λ y. holds y place) is
block_holds-read (x ∷ blocks) (suc block) place s within is = block_holds-read blocks block place s (omega arith) is

-- a block that was written
block_holds-set_same : (blocks : List (ClassSet 1)) (block place : ℕ) (s : ClassSet 1) → block < length blocks → block_holds (set blocks block s) block place ≡ holds s place
block_holds-set_same [] block place s within = absurd (omega (arith, within))
block_holds-set_same (x ∷ blocks) zero place s within = refl
block_holds-set_same (x ∷ blocks) (suc block) place s within = block_holds-set_same blocks block place s (omega arith)

block_holds-set_other : (blocks : List (ClassSet 1)) (block b place : ℕ) (s : ClassSet 1) → b ≢ block → block_holds (set blocks block s) b place ≡ block_holds blocks b place
block_holds-set_other [] block b place s differ = refl
block_holds-set_other (x ∷ blocks) zero zero place s differ = absurd (differ refl)
block_holds-set_other (x ∷ blocks) zero (suc b) place s differ = refl
block_holds-set_other (x ∷ blocks) (suc block) zero place s differ = refl
block_holds-set_other (x ∷ blocks) (suc block) (suc b) place s differ = block_holds-set_other blocks block b place s (λ same. differ (ap suc same))

-- past the blocks there is no edge
block_holds-past : (blocks : List (ClassSet 1)) (block place : ℕ) → length blocks ≤ block → block_holds blocks block place ≡ false
block_holds-past [] block place past = refl
block_holds-past (x ∷ blocks) zero place past = absurd (omega (arith, past))
block_holds-past (x ∷ blocks) (suc block) place past = block_holds-past blocks block place (omega arith)

-- a block and a place in it name one edge
same_place : (e edge : ℕ) → e / 64 ≡ edge / 64 → (e % 64 == edge % 64) ≡ (e == edge)
same_place e edge same = grind (arith, nat_tests)

other_block : (e edge : ℕ) → e / 64 ≢ edge / 64 → (e == edge) ≡ false
other_block e edge differ = grind (arith, nat_tests)

-- the block of the edge has it as well
pub edge_holds-more : (blocks : List (ClassSet 1)) (edge : ℕ) (old new : ClassSet 1) → edge / 64 < length blocks → old ≡ get_or blocks (edge / 64) old → ((k : ℕ) → holds new k ≡ (k == edge % 64 || holds old k)) → (e : ℕ) → edge_holds (set blocks (edge / 64) new) e ≡ (e == edge || edge_holds blocks e)
edge_holds-more blocks edge old new within read is e = ⊎_elim
    (λ (h : e / 64 ≡ edge / 64).
    let here : block_holds (set blocks (edge / 64) new) (edge / 64) (e % 64) ≡ holds new (e % 64) = block_holds-set_same blocks (edge / 64) (e % 64) new within in
    let before : holds old (e % 64) ≡ block_holds blocks (edge / 64) (e % 64) = block_holds-read blocks (edge / 64) (e % 64) old within read in
    let test : (e % 64 == edge % 64) ≡ (e == edge) = same_place e edge h in
    rw h (here ∙ is (e % 64) ∙ ap (λ t. t || holds old (e % 64)) test ∙ ap (λ t. (e == edge) || t) before))
    (λ (h : e / 64 ≢ edge / 64). rw (other_block e edge h) (block_holds-set_other blocks (edge / 64) (e / 64) (e % 64) new h))
    (cases_eq (e / 64) (edge / 64))

-- the block of the edge has it no more
pub edge_holds-less : (blocks : List (ClassSet 1)) (edge : ℕ) (old new : ClassSet 1) → edge / 64 < length blocks → old ≡ get_or blocks (edge / 64) old → ((k : ℕ) → holds new k ≡ (not (k == edge % 64) && holds old k)) → (e : ℕ) → edge_holds (set blocks (edge / 64) new) e ≡ (not (e == edge) && edge_holds blocks e)
edge_holds-less blocks edge old new within read is e = ⊎_elim
    (λ (h : e / 64 ≡ edge / 64).
    let here : block_holds (set blocks (edge / 64) new) (edge / 64) (e % 64) ≡ holds new (e % 64) = block_holds-set_same blocks (edge / 64) (e % 64) new within in
    let before : holds old (e % 64) ≡ block_holds blocks (edge / 64) (e % 64) = block_holds-read blocks (edge / 64) (e % 64) old within read in
    let test : (e % 64 == edge % 64) ≡ (e == edge) = same_place e edge h in
    rw h (here ∙ is (e % 64) ∙ ap (λ t. not t && holds old (e % 64)) test ∙ ap (λ t. not (e == edge) && t) before))
    (λ (h : e / 64 ≢ edge / 64). rw (other_block e edge h) (block_holds-set_other blocks (edge / 64) (e / 64) (e % 64) new h))
    (cases_eq (e / 64) (edge / 64))

-- a block without one place, as the difference from the set of that place
pub without_place : (old none alone new : ClassSet 1) (place : ℕ) → ((k : ℕ) → holds none k ≡ false) → ((k : ℕ) → holds alone k ≡ (k == place || holds none k)) → ((k : ℕ) → holds new k ≡ (holds old k && not (holds alone k))) → (k : ℕ) → holds new k ≡ (not (k == place) && holds old k)
without_place old none alone new place empty one less k =
    let is_empty : holds none k ≡ false = empty k in
    let is_one : holds alone k ≡ (k == place || holds none k) = one k in
    let is_less : holds new k ≡ (holds old k && not (holds alone k)) = less k in
    grind (arith, nat_tests)

-- an edge is found in its block
edge_holds-at : (blocks : List (ClassSet 1)) (block place : ℕ) → place < 64 → edge_holds blocks (64 * block + place) ≡ block_holds blocks block place
edge_holds-at blocks block place within =
    let number : (64 * block + place) / 64 ≡ block = omega arith in
    let rest : (64 * block + place) % 64 ≡ place = omega arith in
    rw (number, rest) refl

-- the places above one are those from the next on
above_from : (below : Option ℕ) (k : ℕ) → first_above below ≤ k → IsAbove below k
above_from None k from = tt
above_from (Some m) k from = omega (arith, from)

from_above : (below : Option ℕ) (k : ℕ) → IsAbove below k → first_above below ≤ k
from_above None k above = omega arith
from_above (Some m) k above = omega (arith, above)

-- no edge of the set stands from first up to a place in a block
abbrev pub Passed : List (ClassSet 1) → (first block : ℕ) → Option ℕ → Type 0
Passed blocks first block below = (k : ℕ) → first ≤ k → k < 64 * block + first_above below → edge_holds blocks k ≡ false

-- what the block says of an edge in it
in_block : (blocks : List (ClassSet 1)) (block k : ℕ) (s : ClassSet 1) → block < length blocks → s ≡ get_or blocks block s → 64 * block ≤ k → k < 64 * (block + 1) → holds s (k - 64 * block) ≡ edge_holds blocks k
in_block blocks block k s within read from below =
    let e : 64 * block + (k - 64 * block) ≡ k = omega arith in
    block_holds-read blocks block (k - 64 * block) s within read ∙ sym (edge_holds-at blocks block (k - 64 * block) (omega arith)) ∙ ap (edge_holds blocks) e

pub Passed-block : (blocks : List (ClassSet 1)) (first block : ℕ) (below : Option ℕ) (s : ClassSet 1) → block < length blocks → s ≡ get_or blocks block s → Passed blocks first block below → IsLast (holds s) below → Passed blocks first (block + 1) None
Passed-block blocks first block below s within read passed last k from before = ⊎_elim
    (λ (h : k < 64 * block + first_above below). passed k from h)
    (λ (h : 64 * block + first_above below ≤ k).
    let said : holds s (k - 64 * block) ≡ edge_holds blocks k = in_block blocks block k s within read (omega arith) (omega arith) in
    sym said ∙ last (k - 64 * block) (above_from below (k - 64 * block) (omega arith)))
    (cases_lt k (64 * block + first_above below))

pub IsPast-end : (blocks : List (ClassSet 1)) (first block : ℕ) (below : Option ℕ) → length blocks ≤ block → Passed blocks first block below → IsPast (edge_holds blocks) first
IsPast-end blocks first block below end passed k from = ⊎_elim
    (λ (h : k < 64 * block + first_above below). passed k from h)
    (λ (h : 64 * block + first_above below ≤ k). block_holds-past blocks (k / 64) (k % 64) (omega arith))
    (cases_lt k (64 * block + first_above below))

pub IsLeast-found : (blocks : List (ClassSet 1)) (first block place : ℕ) (below : Option ℕ) (s : ClassSet 1) → block < length blocks → s ≡ get_or blocks block s → first ≤ 64 * block + first_above below → Passed blocks first block below → place < 64 → IsNext (holds s) below place → IsLeast (edge_holds blocks) first (64 * block + place)
IsLeast-found blocks first block place below s within read begin passed in_word found =
    let low : first_above below ≤ place = from_above below place found.above in
    record {
      member = edge_holds-at blocks block place in_word ∙ sym (block_holds-read blocks block place s within read) ∙ found.member;
      from = omega arith;
      least = λ k from before. ⊎_elim
          (λ (h : k < 64 * block + first_above below). passed k from h)
          (λ (h : 64 * block + first_above below ≤ k).
          let said : holds s (k - 64 * block) ≡ edge_holds blocks k = in_block blocks block k s within read (omega arith) (omega arith) in
          sym said ∙ found.least (k - 64 * block) (above_from below (k - 64 * block) (omega arith)) (omega arith))
          (cases_lt k (64 * block + first_above below));
    }
