-- The search for the first fault of a kind, statement by statement. A loop over the statements keeps
-- `first_line fault stmts ≡ first_after fault (take i stmts) (drop i stmts)`, and what it knows of `take i stmts` tells
-- whether the statement at i has the fault.
use Rattle.std.proofs.Common.{◌≡◌, ℕ, ◌+◌, ◌<◌, ◌≤◌, Bool, true, false, ◌||◌, List, [], ◌∷◌, ◌++◌, length, get_or, take, drop, Option, Some, None, refl, sym, ap, ◌∙◌, add-one, drop-cons, append_assoc, append-nil, arith}
use Rattle.std.proofs.Math.Seq.{take-suc}
use Rattle.std.proofs.lemmas.List.{drop_all, flat_map_more}
use Rattle.std.proofs.lemmas.Option.{get_or_from_slice_get, slice_get-get_or}
use Rattle.std.specs.Prelude.{flat_map}
use Rattle.std.specs.List.{list_any}
use Rattle.f77_tree.specs.declared.statements.Labelled.{Labelled}
use Rattle.layout_rules.specs.Faults.{first_after, has_repeat, first_answer, answer_or}

answer_or_assoc : {B : Type 0} (a b c : Option B) → answer_or a (answer_or b c) ≡ answer_or (answer_or a b) c
answer_or_assoc None b c = refl
answer_or_assoc (Some x) b c = refl

-- an item that is looked up with any default is looked up with itself
pub item-is : {X : Type 0} (xs : List X) (k : ℕ) (d : X) → k < length xs → get_or xs k d ≡ get_or xs k (get_or xs k d)
item-is xs k d lt = sym (get_or_from_slice_get xs k (get_or xs k d) (get_or xs k d) (slice_get-get_or xs k d lt))

answer_or-none : {B : Type 0} (a : Option B) → a ≡ answer_or a None
answer_or-none None = refl
answer_or-none (Some x) = refl

flat_map_one : {X A : Type 0} (items : X → List A) (xs : List X) (x : X) → flat_map items xs ++ items x ≡ flat_map items (xs ++ x ∷ [])
flat_map_one items xs x = flat_map_more items [] xs x

-- ---- the first fault

-- the statement at i has no fault
pub first_after-next : (fault : List Labelled → Labelled → Bool) (stmts : List Labelled) (i : ℕ) (s : Labelled) → i < length stmts → s ≡ get_or stmts i s → fault (take i stmts) s ≡ false
    → first_after fault (take i stmts) (drop i stmts) ≡ first_after fault (take (i + 1) stmts) (drop (i + 1) stmts)
first_after-next fault stmts i s lt is none =
    rw (add-one, take-suc stmts i s lt, drop-cons stmts i s lt, ← is, none) refl

-- the statement at i has the fault
pub first_after-here : (fault : List Labelled → Labelled → Bool) (stmts : List Labelled) (i : ℕ) (s : Labelled) → i < length stmts → s ≡ get_or stmts i s → fault (take i stmts) s ≡ true
    → first_after fault (take i stmts) (drop i stmts) ≡ Some s.line
first_after-here fault stmts i s lt is some =
    rw (drop-cons stmts i s lt, ← is, some) refl

-- there is no further statement
pub first_after-end : (fault : List Labelled → Labelled → Bool) (stmts : List Labelled) (i : ℕ) → length stmts ≤ i → first_after fault (take i stmts) (drop i stmts) ≡ None
first_after-end fault stmts i le =
    ap (first_after fault (take i stmts)) (drop_all i stmts le)

-- ---- what was met before

-- one more of the items that a list has
pub has_repeat-append : {A : Type 0} (same : A → A → Bool) (seen xs ys : List A) → has_repeat same seen (xs ++ ys) ≡ (has_repeat same seen xs || has_repeat same (seen ++ xs) ys)
has_repeat-append same seen [] ys = ap (λ before. has_repeat same before ys) (sym (append-nil seen))
has_repeat-append same seen (x ∷ xs) ys =
    ap (λ rest. list_any (same x) seen || rest) (has_repeat-append same (seen ++ x ∷ []) xs ys)
    ∙ ap (λ before. list_any (same x) seen || (has_repeat same (seen ++ x ∷ []) xs || has_repeat same before ys)) (append_assoc seen (x ∷ []) xs)
    ∙ grind arith

-- the answer that an earlier item gives holds
pub first_answer-append : {A B : Type 0} (f : A → Option B) (xs ys : List A) → first_answer f (xs ++ ys) ≡ answer_or (first_answer f xs) (first_answer f ys)
first_answer-append f [] ys = refl
first_answer-append f (x ∷ xs) ys =
    ap (answer_or (f x)) (first_answer-append f xs ys) ∙ answer_or_assoc (f x) (first_answer f xs) (first_answer f ys)

-- one more item
pub first_answer-more : {A B : Type 0} (f : A → Option B) (before : Option B) (xs : List A) (i : ℕ) (x : A) → i < length xs → x ≡ get_or xs i x
    → answer_or (answer_or before (first_answer f (take i xs))) (f x) ≡ answer_or before (first_answer f (take (i + 1) xs))
first_answer-more f before xs i x lt is =
    sym (answer_or_assoc before (first_answer f (take i xs)) (f x))
    ∙ ap (answer_or before) (ap (answer_or (first_answer f (take i xs))) (answer_or-none (f x)) ∙ sym (first_answer-append f (take i xs) (x ∷ [])) ∙ ap (first_answer f) (sym (rw (add-one, take-suc xs i x lt, ← is) refl)))

-- the items of one more list
pub first_answer-flat_more : {X A B : Type 0} (f : A → Option B) (items : X → List A) (before : Option B) (xs : List X) (i : ℕ) (x : X) → i < length xs → x ≡ get_or xs i x
    → answer_or (answer_or before (first_answer f (flat_map items (take i xs)))) (first_answer f (items x)) ≡ answer_or before (first_answer f (flat_map items (take (i + 1) xs)))
first_answer-flat_more f items before xs i x lt is =
    let more : take (i + 1) xs ≡ take i xs ++ x ∷ [] = rw (add-one, take-suc xs i x lt, ← is) refl in
    sym (answer_or_assoc before (first_answer f (flat_map items (take i xs))) (first_answer f (items x)))
    ∙ ap (answer_or before) (sym (first_answer-append f (flat_map items (take i xs)) (items x)) ∙ ap (first_answer f) (flat_map_one items (take i xs) x ∙ ap (flat_map items) (sym more)))
