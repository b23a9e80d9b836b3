-- The first unit with a SUBROUTINE of a name, found unit by unit.
use Rattle.std.proofs.Common.{◌≡◌, ℕ, ◌+◌, ◌<◌, Bool, true, false, ◌||◌, List, length, take, get_or, Option, Some, None, refl, sym, ap, ◌∙◌}
use Rattle.std.specs.List.{list_any, slice_get}
use Rattle.std.proofs.lemmas.List.Folds.{list_any_more}
use Rattle.f77_tree.specs.declared.statements.Labelled.{Labelled}
use Rattle.layout_rules.specs.Faults.{answer_or}
use Rattle.program_units.specs.Units.{is_sub_of, unit_of}
use Rattle.program_units.specs.CallTable.{unit_if, unit_named}
use Rattle.program_units.proofs.FirstPlaces.{place-next, place-none}

pub named-next : (us : List (List Labelled)) (k : ℕ) (u : List Labelled) (name : List ℕ) (old new : Option ℕ) → k < length us → slice_get us k ≡ Some u → old ≡ unit_named (take k us) name
    → new ≡ answer_or old (unit_if (list_any (is_sub_of name) u) k) → new ≡ unit_named (take (k + 1) us) name
named-next us k u name old new inside there before is = place-next (λ (v : List Labelled). list_any (is_sub_of name) v) us k u old new inside there before is

pub named-none : (us : List (List Labelled)) (name : List ℕ) → unit_named us name ≡ None → length us ≡ unit_of us name
named-none us name none = place-none (λ (v : List Labelled). list_any (is_sub_of name) v) us none

-- ---- one of some items that pass

answer-or : (old : Option ℕ) (a b : Bool) (k : ℕ) → answer_or (answer_or old (unit_if a k)) (unit_if b k) ≡ answer_or old (unit_if (a || b) k)
answer-or (Some x) a b k = refl
answer-or None true b k = refl
answer-or None false b k = refl

pub note-more : {X : Type 0} (test : X → Bool) (xs : List X) (i k : ℕ) (x : X) (first old new : Option ℕ) → i < length xs → x ≡ get_or xs i x → old ≡ answer_or first (unit_if (list_any test (take i xs)) k)
    → new ≡ answer_or old (unit_if (test x) k) → new ≡ answer_or first (unit_if (list_any test (take (i + 1) xs)) k)
note-more {X} test xs i k x first old new inside stands before is =
    is
    ∙ ap (λ (o : Option ℕ). answer_or o (unit_if (test x) k)) before
    ∙ answer-or first (list_any test (take i xs)) (test x) k
    ∙ ap (λ (y : X). answer_or first (unit_if (list_any test (take i xs) || test y) k)) stands
    ∙ sym (ap (λ (b : Bool). answer_or first (unit_if b k)) (list_any_more test xs i x inside))
