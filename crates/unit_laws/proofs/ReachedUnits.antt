-- Each context that is reached is of a unit of the text, where there is a SUBROUTINE for each CALL.
use Rattle.std.proofs.Common.{◌≡◌, ℕ, zero, suc, ◌-◌, ◌<◌, Bool, true, false, not, ◌&&◌, ◌||◌, List, [], ◌∷◌, ◌++◌, length, Option, Some, None, if◌then◌else◌, refl, sym, ap, subst, ◌∙◌, arith}
use Rattle.std.specs.List.{list_all, list_any, slice_get}
use Rattle.f77_tree.specs.declared.statements.Labelled.{Labelled}
use Rattle.layout_rules.specs.Faults.{first_after, first_line}
use Rattle.program_units.specs.declared.sub_end.SubEnd.TheVariants.{NoSub}
use Rattle.program_units.specs.Contexts.{IsReached, called, main}
use Rattle.program_units.specs.Copies.{Context}
use Rattle.program_units.specs.OpenBlocks.{IsEnded}
use Rattle.program_units.specs.Refusals.{end_at, lacks_sub, lacks_sub_of, unit_refusal, unit_refusals}
use Rattle.program_units.specs.Texts.{IsText}
use Rattle.program_units.specs.Units.{Call, call_in, in_first, is_end, is_sub_of, unit_at, unit_of, unit_or_none, units}
use Rattle.unit_laws.proofs.NoAnswer.{no-end, none-at}
use Rattle.unit_laws.proofs.SettledCopies.{pass_at}
use Rattle.unit_laws.proofs.UnitSources.{IsUnit, text-unit}
use Rattle.program_units.proofs.Counting.{first-inside}

-- ---- units have the statements of their text

all-first : (p : Labelled → Bool) (s : Labelled) (us : List (List Labelled)) → list_all (list_all p) (in_first s us) ≡ (p s && list_all (list_all p) us)
all-first p s [] = by_test (p s)
  where
    by_test : (b : Bool) → ((b && true) && true) ≡ (b && true)
    by_test true = refl
    by_test false = refl
all-first p s (u ∷ us) = by_test (p s) (list_all p u) (list_all (list_all p) us)
  where
    by_test : (a b c : Bool) → ((a && b) && c) ≡ (a && (b && c))
    by_test true b c = refl
    by_test false b c = refl

any-first : (p : Labelled → Bool) (s : Labelled) (us : List (List Labelled)) → list_any (list_any p) (in_first s us) ≡ (p s || list_any (list_any p) us)
any-first p s [] = by_test (p s)
  where
    by_test : (b : Bool) → ((b || false) || false) ≡ (b || false)
    by_test true = refl
    by_test false = refl
any-first p s (u ∷ us) = by_test (p s) (list_any p u) (list_any (list_any p) us)
  where
    by_test : (a b c : Bool) → ((a || b) || c) ≡ (a || (b || c))
    by_test true b c = refl
    by_test false b c = refl

pub all-in-units : (p : Labelled → Bool) (stmts : List Labelled) → list_all (list_all p) (units stmts) ≡ list_all p stmts
all-in-units p [] = refl
all-in-units p (s ∷ rest) = by_end (is_end s.stmt) ∙ ap (λ (b : Bool). p s && b) (all-in-units p rest)
  where
    lone : (b : Bool) → (b && true) ≡ b
    lone true = refl
    lone false = refl

    by_end : (e : Bool) → list_all (list_all p) (if e then (s ∷ []) ∷ units rest else in_first s (units rest)) ≡ (p s && list_all (list_all p) (units rest))
    by_end true = ap (λ (b : Bool). b && list_all (list_all p) (units rest)) (lone (p s))
    by_end false = all-first p s (units rest)

pub any-in-units : (p : Labelled → Bool) (stmts : List Labelled) → list_any (list_any p) (units stmts) ≡ list_any p stmts
any-in-units p [] = refl
any-in-units p (s ∷ rest) = by_end (is_end s.stmt) ∙ ap (λ (b : Bool). p s || b) (any-in-units p rest)
  where
    lone : (b : Bool) → (b || false) ≡ b
    lone true = refl
    lone false = refl

    by_end : (e : Bool) → list_any (list_any p) (if e then (s ∷ []) ∷ units rest else in_first s (units rest)) ≡ (p s || list_any (list_any p) (units rest))
    by_end true = ap (λ (b : Bool). b || list_any (list_any p) (units rest)) (lone (p s))
    by_end false = any-first p s (units rest)

-- ---- a list that has an item of a kind: the first one's place

pub none-past : {X : Type 0} (xs : List X) (k : ℕ) → k < length xs → slice_get xs k ≡ None → ⊥
none-past [] k inside none = omega (arith, inside)
none-past (x ∷ xs) zero inside none = let e : Some x ≡ None = none in absurd cc
none-past (x ∷ xs) (suc k) inside none = none-past xs k (omega (arith, inside)) none

-- ---- no CALL lacks its SUBROUTINE

module _ (whole : List Labelled) where
  abbrev has : Labelled → Bool
  has s = not (lacks_sub_of whole (call_in s.stmt))

  pub none-lacks : (above stmts : List Labelled) → first_after (lacks_sub whole) above stmts ≡ None → list_all has stmts ≡ true
  none-lacks above [] none = refl
  none-lacks above (s ∷ rest) none = by_test (lacks_sub_of whole (call_in s.stmt)) none (none-lacks (above ++ s ∷ []) rest)
    where
      by_test : (b : Bool) → (if b then Some s.line else first_after (lacks_sub whole) (above ++ s ∷ []) rest) ≡ None → (first_after (lacks_sub whole) (above ++ s ∷ []) rest ≡ None → list_all has rest ≡ true) → (not b && list_all has rest) ≡ true
      by_test true no_line later = let e : Some s.line ≡ None = no_line in absurd cc
      by_test false no_line later = later no_line

  pub is-sub : (s : Labelled) (call : Call) → has s ≡ true → call_in s.stmt ≡ Some call → list_any (is_sub_of call.name) whole ≡ true
  is-sub s call has_it calls = by_test (list_any (is_sub_of call.name) whole) (sym (ap (λ (o : Option Call). not (lacks_sub_of whole o)) calls) ∙ has_it)
    where
      by_test : (b : Bool) → not (not b) ≡ true → b ≡ true
      by_test true e = refl
      by_test false e = e

module _ (stmts : List Labelled) (checked : Bool) (text : IsText stmts) (accepted : unit_refusal stmts checked ≡ None) where
  abbrev us : List (List Labelled)
  us = units stmts

  pub all-have : list_all (list_all (has stmts)) us ≡ true
  all-have =
      let none : first_line (lacks_sub stmts) stmts ≡ None = no-end NoSub (first_line (lacks_sub stmts) stmts) (none-at (unit_refusals stmts us checked) 3 (end_at NoSub (first_line (lacks_sub stmts) stmts)) accepted refl) in
      all-in-units (has stmts) stmts ∙ none-lacks stmts [] stmts none

  pub callee-inside : (k place : ℕ) (s : Labelled) (call : Call) → slice_get (unit_at us k) place ≡ Some s → call_in s.stmt ≡ Some call → unit_of us call.name < length us
  callee-inside k place s call there calls = by_unit (slice_get us k) refl there
    where
      by_unit : (o : Option (List Labelled)) → slice_get us k ≡ o → slice_get (unit_or_none o) place ≡ Some s → unit_of us call.name < length us
      by_unit None here in_it = let e : None ≡ Some s = in_it in absurd cc
      by_unit (Some u) here in_it =
          let mine : list_all (has stmts) u ≡ true = pass_at (list_all (has stmts)) us k u all-have here in
          let it : has stmts s ≡ true = pass_at (has stmts) u place s mine in_it in
          let named : list_any (is_sub_of call.name) stmts ≡ true = is-sub stmts s call it calls in
          first-inside (λ (v : List Labelled). list_any (is_sub_of call.name) v) us (any-in-units (is_sub_of call.name) stmts ∙ named)

  pub some-unit : 0 < length us
  some-unit = by_text stmts refl
    where
      by_text : (xs : List Labelled) → stmts ≡ xs → 0 < length us
      by_text [] is = let e : None ≡ Some text.ended.last = sym (ap (λ (ys : List Labelled). slice_get ys (length stmts - 1)) is) ∙ text.ended.stands in absurd cc
      by_text (s ∷ rest) is = subst (λ (ys : List Labelled). 0 < length (units ys)) (sym is) (by_end (is_end s.stmt) (units rest))
        where
          by_end : (e : Bool) (more : List (List Labelled)) → 0 < length (if e then (s ∷ []) ∷ units rest else in_first s more)
          by_end true more = omega arith
          by_end false [] = omega arith
          by_end false (u ∷ more) = omega arith

  pub unit-inside : (c : Context) (at : ℕ → ℕ) → IsReached us c at → c.unit < length us
  unit-inside _ _ main = some-unit
  unit-inside _ _ (called {c} {at} place s call reached is calls) = callee-inside c.unit place s call is calls

  pub unit-ended : (c : Context) (at : ℕ → ℕ) → IsReached us c at → IsEnded (unit_at us c.unit)
  unit-ended c at reached = by_unit (slice_get us c.unit) refl
    where
      by_unit : (o : Option (List Labelled)) → slice_get us c.unit ≡ o → IsEnded (unit_or_none o)
      by_unit None here = absurd (none-past us c.unit (unit-inside c at reached) here)
      by_unit (Some u) here = IsUnit.once (text-unit stmts text c.unit u here)
