-- Lists of brackets: for each list number the sequence of its brackets, the top first.
use Rattle.std.specs.Prelude.{◌≡◌, ◌==◌, ◌*◌, ◌<◌, ◌⊎◌, ℕ, List, [], ◌∷◌, length, get_or, if◌then◌else◌}

-- the brackets of a list
abbrev pub list_at : List (List ℕ) → ℕ → List ℕ
list_at lists l = get_or lists l []

-- the bracket stands in this sequence
abbrev pub Stands : List ℕ → ℕ → Type 0
Stands [] x = ⊥
Stands (y ∷ ys) x = (y ≡ x) ⊎ Stands ys x

-- the bracket stands in no list
abbrev pub IsFree : List (List ℕ) → ℕ → Type 0
IsFree lists x = (l : ℕ) → Stands (list_at lists l) x → ⊥

-- a sequence without the first place of a bracket
abbrev pub without : List ℕ → ℕ → List ℕ
without [] x = []
without (y ∷ ys) x = if y == x then ys else y ∷ without ys x

-- each bracket stands once in the sequence
abbrev pub IsOnce : List ℕ → Type 0
IsOnce [] = Unit {0}
IsOnce (x ∷ xs) = (Stands xs x → ⊥) × IsOnce xs

-- Each bracket is in range, and stands at most once over all lists.
pub record AreApart (lists : List (List ℕ)) : Type 0 where
  pub in_range : (l x : ℕ) → Stands (list_at lists l) x → x < 2 * length lists
  pub once : (l : ℕ) → IsOnce (list_at lists l)
  pub one_list : (l m x : ℕ) → Stands (list_at lists l) x → Stands (list_at lists m) x → l ≡ m
