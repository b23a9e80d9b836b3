-- What the refusals of units tell for the tables: the main program is no subroutine, and CALLs pass as many arguments as there are dummies.
use Rattle.std.proofs.Common.{◌≡◌, ℕ, suc, ◌+◌, ◌<◌, Bool, true, false, not, ◌||◌, ◌&&◌, cond, List, [], ◌∷◌, ◌++◌, length, Option, Some, None, if◌then◌else◌, refl, sym, ap, subst, ◌∙◌, arith}
use Rattle.std.specs.List.{list_all, list_any, slice_get}
use Rattle.std.specs.Option.{is_some}
use Rattle.std.proofs.lemmas.Bool.{and_parts, and_from, eq-eqb}
use Rattle.std.proofs.lemmas.List.Concat.{flat_map-cons}
use Rattle.f77_tree.specs.declared.statements.Labelled.{Labelled}
use Rattle.f77_tree.specs.declared.statements.Stmt.{Stmt}
use Rattle.f77_tree.specs.declared.statements.Stmt.TheVariants.{Program, Implicit, ImplicitNone, TypeOf, Dimension, Common, Equivalence, Init, Assign, Print, Take, Continue, Stop, GoTo, PickGoTo, SignIf, ThenIf', BlockIf, ElseIf, Else, EndIf, Do, Sub, CallTo, Back, End}
use Rattle.layout_rules.specs.Faults.{first_after, first_line}
use Rattle.program_units.specs.Refusals.{are_alike, calls_wrongly, differ, follows_end, has_bad_call, has_wrong_dummy, is_alike, is_out_of_unit, unit_below}
use Rattle.program_units.specs.Units.{Call, call_in, dummies_of, in_first, inner, is_end, is_named, is_return, is_sub_of, sub_dummies, sub_name, unit_at, unit_of, unit_or_none, units, passes}
use Rattle.unit_laws.proofs.SettledCopies.{pass_at}
use Rattle.program_units.proofs.UnitWalk.{follows-push}

-- ---- where there is no fault

pub no-fault : (fault : List Labelled → Labelled → Bool) (above : List Labelled) (s : Labelled) (rest : List Labelled) → first_after fault above (s ∷ rest) ≡ None → (fault above s ≡ false) × (first_after fault (above ++ s ∷ []) rest ≡ None)
no-fault fault above s rest none = by_test (fault above s) none
  where
    by_test : (b : Bool) → (if b then Some s.line else first_after fault (above ++ s ∷ []) rest) ≡ None → (b ≡ false) × (first_after fault (above ++ s ∷ []) rest ≡ None)
    by_test true is = let e : Some s.line ≡ None = is in absurd cc
    by_test false is = (refl, is)

pub or-parts : (a b : Bool) → (a || b) ≡ false → (a ≡ false) × (b ≡ false)
or-parts true b is = let e : true ≡ false = is in absurd cc
or-parts false b is = (refl, is)

-- ---- the main program is no subroutine

abbrev pub is_plain : Labelled → Bool
is_plain s = not (is_some (sub_name s.stmt))

pub plain-here : (above : List Labelled) (s : Labelled) → follows_end above ≡ false → is_out_of_unit above s ≡ false → is_plain s ≡ true
plain-here above s inside none =
    let first = (or-parts (differ (follows_end above) (is_some (sub_name s.stmt))) (not (list_any (λ a. is_end a.stmt) above) && is_return (inner s.stmt)) none).0 in
    let e : is_some (sub_name s.stmt) ≡ false = ap (λ (b : Bool). differ b (is_some (sub_name s.stmt))) (sym inside) ∙ first in
    ap not e

pub first-plain : (s : Labelled) (us : List (List Labelled)) → is_plain s ≡ true → list_all is_plain (unit_at us 0) ≡ true → list_all is_plain (unit_at (in_first s us) 0) ≡ true
first-plain s [] here all = and_from (is_plain s) true here refl
first-plain s (u ∷ us) here all = and_from (is_plain s) (list_all is_plain u) here all

pub main-plain : (stmts above : List Labelled) → follows_end above ≡ false → first_after is_out_of_unit above stmts ≡ None → list_all is_plain (unit_at (units stmts) 0) ≡ true
main-plain [] above inside none = refl
main-plain (s ∷ rest) above inside none =
    let parts = no-fault is_out_of_unit above s rest none in
    let here = plain-here above s inside parts.0 in
    by_end (is_end s.stmt) refl here (λ (not_end : follows_end (above ++ s ∷ []) ≡ false). main-plain rest (above ++ s ∷ []) not_end parts.1)
  where
    by_end : (b : Bool) → is_end s.stmt ≡ b → is_plain s ≡ true → (follows_end (above ++ s ∷ []) ≡ false → list_all is_plain (unit_at (units rest) 0) ≡ true) → list_all is_plain (unit_at (if b then (s ∷ []) ∷ units rest else in_first s (units rest)) 0) ≡ true
    by_end true is here later = and_from (is_plain s) true here refl
    by_end false is here later = first-plain s (units rest) here (later (follows-push above s ∙ is))

pub no-sub : (o : Option (List ℕ)) (name : List ℕ) → not (is_some o) ≡ true → is_named name o ≡ false
no-sub None name is = refl
no-sub (Some other) name is = let e : false ≡ true = is in absurd cc

pub none-named : (name : List ℕ) (stmts : List Labelled) → list_all is_plain stmts ≡ true → list_any (is_sub_of name) stmts ≡ false
none-named name [] all = refl
none-named name (s ∷ rest) all =
    let both = and_parts (is_plain s) (list_all is_plain rest) all in
    ap (λ (b : Bool). b || list_any (is_sub_of name) rest) (no-sub (sub_name s.stmt) name both.0) ∙ none-named name rest both.1

pub not-first : (name : List ℕ) (us : List (List Labelled)) → 0 < length us → list_any (is_sub_of name) (unit_at us 0) ≡ false → 0 < unit_of us name
not-first name [] some none = absurd (omega (arith, some))
not-first name (u ∷ us) some none = subst (λ (b : Bool). 0 < cond (not b) (1 + unit_of us name) 0) (sym none) (omega arith)

pub no-dummies : (s : Stmt) → not (is_some (sub_name s)) ≡ true → sub_dummies s ≡ []
no-dummies Program is = refl
no-dummies (Implicit a) is = refl
no-dummies ImplicitNone is = refl
no-dummies (TypeOf a b) is = refl
no-dummies (Dimension a) is = refl
no-dummies (Common a) is = refl
no-dummies (Equivalence a) is = refl
no-dummies (Init a) is = refl
no-dummies (Assign a b) is = refl
no-dummies (Print a) is = refl
no-dummies (Take a) is = refl
no-dummies Continue is = refl
no-dummies Stop is = refl
no-dummies (GoTo a) is = refl
no-dummies (PickGoTo a b) is = refl
no-dummies (SignIf a b c d) is = refl
no-dummies (ThenIf' a b c) is = refl
no-dummies (BlockIf a) is = refl
no-dummies (ElseIf a) is = refl
no-dummies Else is = refl
no-dummies EndIf is = refl
no-dummies (Do a b c d e) is = refl
no-dummies (Sub a b) is = let e : false ≡ true = is in absurd cc
no-dummies (CallTo a b) is = refl
no-dummies Back is = refl
no-dummies End is = refl

pub none-passed : (stmts : List Labelled) → list_all is_plain stmts ≡ true → dummies_of stmts ≡ []
none-passed [] all = refl
none-passed (s ∷ rest) all =
    let both = and_parts (is_plain s) (list_all is_plain rest) all in
    flat_map-cons (λ (a : Labelled). sub_dummies a.stmt) s rest ∙ ap (λ (xs : List (List ℕ)). xs ++ dummies_of rest) (no-dummies s.stmt both.0) ∙ none-passed rest both.1

-- ---- statements of units

pub units-all : (p : Labelled → Bool) (stmts : List Labelled) → list_all p stmts ≡ true → list_all (λ u. list_all p u) (units stmts) ≡ true
units-all p [] all = refl
units-all p (s ∷ rest) all =
    let both = and_parts (p s) (list_all p rest) all in
    by_end (is_end s.stmt) both.0 (units-all p rest both.1)
  where
    in-first : (us : List (List Labelled)) → p s ≡ true → list_all (λ u. list_all p u) us ≡ true → list_all (λ u. list_all p u) (in_first s us) ≡ true
    in-first [] here more = and_from (p s && true) true (and_from (p s) true here refl) refl
    in-first (u ∷ us) here more =
        let parts = and_parts (list_all p u) (list_all (λ v. list_all p v) us) more in
        and_from (p s && list_all p u) (list_all (λ v. list_all p v) us) (and_from (p s) (list_all p u) here parts.0) parts.1

    by_end : (b : Bool) → p s ≡ true → list_all (λ u. list_all p u) (units rest) ≡ true → list_all (λ u. list_all p u) (if b then (s ∷ []) ∷ units rest else in_first s (units rest)) ≡ true
    by_end true here more = and_from (p s && true) (list_all (λ u. list_all p u) (units rest)) (and_from (p s) true here refl) more
    by_end false here more = in-first (units rest) here more

pub unit-all : (p : Labelled → Bool) (us : List (List Labelled)) (k : ℕ) → list_all (λ u. list_all p u) us ≡ true → list_all p (unit_at us k) ≡ true
unit-all p us k all = by_unit (slice_get us k) refl
  where
    by_unit : (o : Option (List Labelled)) → slice_get us k ≡ o → list_all p (unit_or_none o) ≡ true
    by_unit None is = refl
    by_unit (Some u) is = pass_at (λ (v : List Labelled). list_all p v) us k u all is

-- ---- arguments

pub alike-lengths : (u v : List Labelled) (xs ys : List (List ℕ)) → are_alike u v xs ys ≡ true → length xs ≡ length ys
alike-lengths u v [] [] is = refl
alike-lengths u v [] (y ∷ ys) is = let e : false ≡ true = is in absurd cc
alike-lengths u v (x ∷ xs) [] is = let e : false ≡ true = is in absurd cc
alike-lengths u v (x ∷ xs) (y ∷ ys) is = ap suc (alike-lengths u v xs ys (and_parts (is_alike u v x y) (are_alike u v xs ys) is).1)

pub not-not : (b : Bool) → not b ≡ false → b ≡ true
not-not true is = refl
not-not false is = let e : true ≡ false = is in absurd cc

pub fit-call : (us : List (List Labelled)) (k : ℕ) (call : Option Call) → calls_wrongly us k call ≡ false → passes us call ≡ true
fit-call us k None right = refl
fit-call us k (Some call) right =
    let callee = unit_at us (unit_of us call.name) in
    eq-eqb (length call.arguments) (length (dummies_of callee)) (alike-lengths (unit_at us k) callee call.arguments (dummies_of callee) (not-not (are_alike (unit_at us k) callee call.arguments (dummies_of callee)) right))

pub fit-all : (us : List (List Labelled)) (above stmts : List Labelled) → first_after (has_bad_call us) above stmts ≡ None → list_all (λ s. passes us (call_in s.stmt)) stmts ≡ true
fit-all us above [] none = refl
fit-all us above (s ∷ rest) none =
    let parts = no-fault (has_bad_call us) above s rest none in
    let right = (or-parts (calls_wrongly us (unit_below above) (call_in s.stmt)) (has_wrong_dummy (unit_at us (unit_below above)) s.stmt) parts.0).0 in
    and_from (passes us (call_in s.stmt)) (list_all (λ a. passes us (call_in a.stmt)) rest) (fit-call us (unit_below above) (call_in s.stmt) right) (fit-all us (above ++ s ∷ []) rest parts.1)

-- ---- a text

module _ (stmts : List Labelled) where
  pub subs : first_line is_out_of_unit stmts ≡ None → 0 < length (units stmts) → (name : List ℕ) → 0 < unit_of (units stmts) name
  subs none some name = not-first name (units stmts) some (none-named name (unit_at (units stmts) 0) (main-plain stmts [] refl none))

  pub main-dummies : first_line is_out_of_unit stmts ≡ None → dummies_of (unit_at (units stmts) 0) ≡ []
  main-dummies none = none-passed (unit_at (units stmts) 0) (main-plain stmts [] refl none)

  pub fit : first_line (has_bad_call (units stmts)) stmts ≡ None → (k : ℕ) → list_all (λ s. passes (units stmts) (call_in s.stmt)) (unit_at (units stmts) k) ≡ true
  fit none k = unit-all (λ s. passes (units stmts) (call_in s.stmt)) (units stmts) k (units-all (λ s. passes (units stmts) (call_in s.stmt)) stmts (fit-all (units stmts) [] stmts none))
