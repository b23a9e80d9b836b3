-- Marks that are set one by one, and after a firing.
use Rattle.std.proofs.Common.{◌≡◌, ◌⊎◌, ℕ, ◌+◌, ◌<◌, ◌≤◌, Bool, false, List, length, get_or, set, ap, ◌∙◌, arith, length-set}
use Rattle.std.proofs.lemmas.List.{get_or-set_same, get_or-set_other}
use Rattle.firing.specs.Marks.{AreMarks}
use Rattle.firing.specs.ReadySet.{has}

module _ (count : ℕ) (test : ℕ → Bool) where
  -- the marks below n
  pub record RightBelow (n : ℕ) (marks : List Bool) : Type 0 where
    pub room : length marks ≡ count
    pub right : (j : ℕ) → j < n → has marks j ≡ test j

  -- one mark is set
  set_keeps : (old new : List Bool) (k : ℕ) → k < length old → new ≡ set old k (test k) → (j : ℕ) → has old j ≡ test j → has new j ≡ test j
  set_keeps old new k inside is j right = grind (arith, get_or-set_same old, get_or-set_other old)

  set_here : (old new : List Bool) (k : ℕ) → k < length old → new ≡ set old k (test k) → has new k ≡ test k
  set_here old new k inside is = ap (λ xs. has xs k) is ∙ get_or-set_same old k (test k) false inside

  set_room : (old new : List Bool) (k : ℕ) → new ≡ set old k (test k) → length new ≡ length old
  set_room old new k is = ap length is ∙ length-set old k (test k)

  pub below_next : (k : ℕ) (old new : List Bool) → k < count → RightBelow k old → new ≡ set old k (test k) → RightBelow (k + 1) new
  below_next k old new node below is = grind (arith, set_room old new, set_here old new, set_keeps old new)

  pub below_all : (n : ℕ) (marks : List Bool) → count ≤ n → RightBelow n marks → AreMarks count test marks
  below_all n marks le below = record { room = below.room; right = λ j lt. below.right j (omega (arith, lt, le)) }

  -- the node that fired and the first i of a list were tested
  pub record RetestedTo (nodes : List ℕ) (i k : ℕ) (old new : List Bool) : Type 0 where
    pub same_room : length new ≡ length old
    pub either : (j : ℕ) → (has new j ≡ has old j) ⊎ (has new j ≡ test j)
    pub right : (p : ℕ) → p < i → has new (get_or nodes p 0) ≡ test (get_or nodes p 0)
    pub fired : has new k ≡ test k

-- a mark that was set by a test of something equal
pub same_mark : {R : Type 0} (test : R → ℕ → Bool) (rest other : R) (old new : List Bool) (k : ℕ) → other ≡ rest → new ≡ set old k (test other k) → new ≡ set old k (test rest k)
same_mark test rest other old new k same is = is ∙ ap (λ x. set old k (test x k)) same
