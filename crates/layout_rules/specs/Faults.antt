-- Where the first fault of a kind stands. Whether a statement has a fault depends on it and on the statements above it.
use Rattle.std.specs.Prelude.{ℕ, Bool, false, if◌then◌else◌, ◌||◌, List, [], ◌∷◌, ◌++◌, Option, Some, None}
use Rattle.std.specs.List.{list_any}
use Rattle.f77_tree.specs.declared.statements.Labelled.{Labelled}

-- the line of the first of these statements with the fault, where those stand above them
abbrev pub first_after : (fault : List Labelled → Labelled → Bool) → (above stmts : List Labelled) → Option ℕ
first_after fault above [] = None
first_after fault above (s ∷ rest) = if fault above s then Some s.line else first_after fault (above ++ s ∷ []) rest

-- the line of the first statement with the fault
abbrev pub first_line : (fault : List Labelled → Labelled → Bool) → List Labelled → Option ℕ
first_line fault stmts = first_after fault [] stmts

-- some item stands before it, or among `seen`
abbrev pub has_repeat : {A : Type 0} → (same : A → A → Bool) → (seen items : List A) → Bool
has_repeat same seen [] = false
has_repeat same seen (x ∷ rest) = list_any (same x) seen || has_repeat same (seen ++ x ∷ []) rest

abbrev pub answer_or : {B : Type 0} → Option B → Option B → Option B
answer_or (Some b) other = Some b
answer_or None other = other

-- the first answer that f gives
abbrev pub first_answer : {A B : Type 0} → (f : A → Option B) → List A → Option B
first_answer f [] = None
first_answer f (x ∷ rest) = answer_or (f x) (first_answer f rest)
