-- The lines that a piece touches, as a row.
use Rattle.std.proofs.Common.{◌≡◌, ◌<◌, ◌≤◌, ◌+◌, ℕ, zero, suc, Bool, true, List, [], ◌∷◌, length, get_or, sym, subst, ◌∙◌, inl, inr, ⊎_elim, arith}
use Rattle.std.proofs.lemmas.Bool.{cases_lt}
use Rattle.std.proofs.lemmas.List.{get_or_read}
use Rattle.closed_walks.specs.Walk.{Holds}
use Rattle.const_prop.specs.Setting.{IsTouchedRow, AreTouched}
use Rattle.closed_walks.proofs.Held.{Holds-at}

pub touched_items : (nodes lines : ℕ) (touches : ℕ → ℕ → Bool) (rows : List (List ℕ)) (node at : ℕ) (row items : List ℕ) → AreTouched nodes lines touches rows → node < nodes → node ≡ at → row ≡ get_or rows node row → items ≡ row → IsTouchedRow touches lines at items
touched_items nodes lines touches rows node at row items are inside is read same =
    let found : items ≡ get_or rows node [] = same ∙ get_or_read rows node row (omega (arith, inside, are.size)) read [] in
    subst (λ (n : ℕ). IsTouchedRow touches lines n items) is (subst (IsTouchedRow touches lines node) (sym found) (are.are node inside))

-- a place of an item
pub record IsAt (xs : List ℕ) (e : ℕ) : Type 0 where
  pub place : ℕ
  pub within : place < length xs
  pub is : get_or xs place 0 ≡ e

pub at_Holds : (xs : List ℕ) (e : ℕ) → Holds xs e → IsAt xs e
at_Holds [] e h = absurd h
at_Holds (x ∷ xs) e (inl same) = record { place = zero; within = omega arith; is = same }
at_Holds (x ∷ xs) e (inr h) = let p : IsAt xs e = at_Holds xs e h in record { place = suc p.place; within = omega (arith, p.within); is = p.is }

pub touched_at : (touches : ℕ → ℕ → Bool) (lines at : ℕ) (items : List ℕ) (k : ℕ) → IsTouchedRow touches lines at items → k < length items → (get_or items k 0 < lines) × (touches at (get_or items k 0) ≡ true)
touched_at touches lines at items k row l = (row (get_or items k 0)).0 (Holds-at items k l)

pub line_at : (touches : ℕ → ℕ → Bool) (lines at : ℕ) (items : List ℕ) (line : ℕ) → IsTouchedRow touches lines at items → line < lines → touches at line ≡ true → IsAt items line
line_at touches lines at items line row l t = at_Holds items line ((row line).1 (l, t))

pub all-more : (P : ℕ → Type 0) (items : List ℕ) (i : ℕ) → P (get_or items i 0) → ((k : ℕ) → k < i → P (get_or items k 0)) → (k : ℕ) → k < i + 1 → P (get_or items k 0)
all-more P items i here before k l = ⊎_elim
    (λ (l : k < i). before k l)
    (λ (past : i ≤ k). subst (λ (n : ℕ). P (get_or items n 0)) (omega arith) here)
    (cases_lt k i)
