-- Sequences that are kept by links between neighbours.
use Rattle.std.specs.Prelude.{◌≡◌, ℕ, zero, suc, List, [], ◌∷◌, Option, Some, None}

-- the first of a sequence, or what comes after it where it is empty
abbrev pub first_of : List ℕ → Option ℕ → Option ℕ
first_of [] after = after
first_of (x ∷ xs) after = Some x

-- the last of a sequence, or what comes before it where it is empty
abbrev pub last_of : List ℕ → Option ℕ → Option ℕ
last_of [] before = before
last_of (x ∷ xs) before = last_of xs (Some x)

-- the sequence is linked both ways, between what comes before and after it
abbrev pub IsChain : (ℕ → Option ℕ) → (ℕ → Option ℕ) → Option ℕ → List ℕ → Option ℕ → Type 0
IsChain above below before [] after = Unit {0}
IsChain above below before (x ∷ xs) after = (above x ≡ before) × (below x ≡ first_of xs after) × IsChain above below (Some x) xs after

-- so many cells from a first one downwards
abbrev pub read : (ℕ → Option ℕ) → ℕ → Option ℕ → List ℕ
read below zero cell = []
read below (suc n) None = []
read below (suc n) (Some x) = x ∷ read below n (below x)
