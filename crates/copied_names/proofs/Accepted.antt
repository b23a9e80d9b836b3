-- In a text that is accepted, all names of subroutines have new names, and a subroutine's dummies stand in its first statement.
use Rattle.std.proofs.Common.{◌≡◌, ℕ, suc, ◌-◌, ◌≤◌, Bool, true, false, not, List, [], ◌∷◌, ◌++◌, length, take, append-nil, Ok, Option, Some, None, if◌then◌else◌, nat_lt, refl, sym, ap, subst, ◌∙◌, arith}
use Rattle.std.specs.List.{list_all, list_any, slice_get}
use Rattle.std.proofs.lemmas.Bool.{and_parts, and_from}
use Rattle.std.proofs.lemmas.List.Concat.{flat_map-cons}
use Rattle.f77_tree.specs.declared.programs.Program.{Program}
use Rattle.f77_tree.specs.declared.statements.Labelled.{Labelled}
use Rattle.f77_tree.specs.StatementGrammar.{is_of_subroutines}
use Rattle.layout_rules.specs.Faults.{first_after, first_answer, first_line}
use Rattle.program_units.specs.declared.entity.Entity.{Entity}
use Rattle.program_units.specs.declared.sub_end.SubEnd.{SubEnd}
use Rattle.program_units.specs.declared.sub_end.SubEnd.TheVariants.{TooManyNames, UnitOrder}
use Rattle.program_units.specs.NamedEntities.{AreAllNamed, is_declared}
use Rattle.program_units.specs.Names.{free_numbers, y_entities}
use Rattle.program_units.specs.Refusals.{end_at, expansion, follows_end, form_refusals, has_great_name, is_out_of_unit, list_unless, main_line_if, unit_refusal, unit_refusals}
use Rattle.program_units.specs.Texts.{IsText}
use Rattle.program_units.specs.Units.{dummies_of, in_first, is_end, sub_dummies, unit_at, unit_or_none, units}
use Rattle.unit_laws.proofs.AcceptedTables.{is_plain, main-plain, no-fault, none-passed}
use Rattle.unit_laws.proofs.FirstUnits.{first-unit}
use Rattle.entity_names.proofs.NamedEntities.{all-named, each-own}
use Rattle.unit_laws.proofs.NoAnswer.{form-none, no-end, none-at}
use Rattle.unit_laws.proofs.SettledCopies.{pass_at}
use Rattle.unit_laws.proofs.TextNames.{text-short}
use Rattle.program_units.proofs.UnitWalk.{follows-push}
use Rattle.f77_source.specs.Reading.{HasStatements, IsProgramOf, statements_in, statements_read}
use Rattle.f77_source.specs.Listed.{is_one_unit, listed, stays_in_unit}
use Rattle.copied_names.specs.CopiedNames.{first_dummies, HaveDummiesFirst}

-- ---- the dummies of a subroutine

-- only the first statement may be SUBROUTINE
abbrev begins_only : List Labelled → Bool
begins_only [] = true
begins_only (s ∷ rest) = list_all is_plain rest

tails : (stmts above : List Labelled) → first_after is_out_of_unit above stmts ≡ None → list_all begins_only (units stmts) ≡ true
tails [] above none = refl
tails (s ∷ rest) above none =
    let parts = no-fault is_out_of_unit above s rest none in
    by (is_end s.stmt) refl (tails rest (above ++ s ∷ []) parts.1) (λ (inside : follows_end (above ++ s ∷ []) ≡ false). main-plain rest (above ++ s ∷ []) inside parts.1)
  where
    first : (us : List (List Labelled)) → list_all begins_only us ≡ true → list_all is_plain (unit_at us 0) ≡ true → list_all begins_only (in_first s us) ≡ true
    first [] all plain = refl
    first (u ∷ us) all plain = and_from (list_all is_plain u) (list_all begins_only us) plain (and_parts (begins_only u) (list_all begins_only us) all).1

    by : (b : Bool) → is_end s.stmt ≡ b → list_all begins_only (units rest) ≡ true → (follows_end (above ++ s ∷ []) ≡ false → list_all is_plain (unit_at (units rest) 0) ≡ true) → list_all begins_only (if b then (s ∷ []) ∷ units rest else in_first s (units rest)) ≡ true
    by true is all plain = all
    by false is all plain = first (units rest) all (plain (follows-push above s ∙ is))

own-first : (u : List Labelled) → begins_only u ≡ true → dummies_of u ≡ first_dummies u
own-first [] is = refl
own-first (s ∷ rest) is = flat_map-cons (λ (a : Labelled). sub_dummies a.stmt) s rest ∙ ap (λ (xs : List (List ℕ)). sub_dummies s.stmt ++ xs) (none-passed rest is) ∙ append-nil (sub_dummies s.stmt)

dummies-first : (stmts : List Labelled) (checked : Bool) → first_answer (λ r. r) (form_refusals stmts (units stmts) checked) ≡ None → HaveDummiesFirst (units stmts)
dummies-first stmts checked formed = λ k some below. by k (slice_get (units stmts) k) refl
  where
    none : first_line is_out_of_unit stmts ≡ None
    none = no-end UnitOrder (first_line is_out_of_unit stmts) (none-at (form_refusals stmts (units stmts) checked) 0 (end_at UnitOrder (first_line is_out_of_unit stmts)) formed refl)

    by : (k : ℕ) (o : Option (List Labelled)) → slice_get (units stmts) k ≡ o → dummies_of (unit_or_none o) ≡ first_dummies (unit_or_none o)
    by k None at = refl
    by k (Some u) at = own-first u (pass_at (λ (v : List Labelled). begins_only v) (units stmts) k u (tails stmts [] none) at)

-- ---- a text that nothing refuses

not-great : (us : List (List Labelled)) (great : Bool) → main_line_if us great ≡ None → great ≡ false
not-great us true none = absurd cc
not-great us false none = refl

pub named-small : (stmts : List Labelled) (checked : Bool) → unit_refusal stmts checked ≡ None → has_great_name (units stmts) ≡ false
named-small stmts checked accepted =
    let us : List (List Labelled) = units stmts in
    let line : Option ℕ = main_line_if us (has_great_name us) in
    not-great us (has_great_name us) (no-end TooManyNames line (none-at (unit_refusals stmts us checked) 8 (end_at TooManyNames line) accepted refl))

-- ---- a text of one unit

no-own : (us : List (List Labelled)) → length us ≤ 1 → y_entities us ≡ []
no-own us few = by (y_entities us) refl
  where
    by : (es : List Entity) → y_entities us ≡ es → y_entities us ≡ []
    by [] is = is
    by (e ∷ rest) is = absurd (each-own us (λ f. ⊥) (λ k x some below own. omega (arith, some, below, few)) 0 e (ap (λ (es : List Entity). slice_get es 0) is))

pub alone-small : (us : List (List Labelled)) → length us ≤ 1 → has_great_name us ≡ false
alone-small us few = ap (λ (es : List Entity). list_any (nat_lt 99999) (take (length es) (free_numbers us (length es)))) (no-own us few)

pub alone-named : (stmts : List Labelled) → IsText stmts → length (units stmts) ≤ 1 → AreAllNamed (units stmts)
alone-named stmts text few = record {
  own = λ k some below x own. absurd (omega (arith, some, below, few));
  stored = λ k i s some below at is x among. absurd (omega (arith, some, below, few));
  places = λ block place put inside. (let first = first-unit (units stmts) block put in absurd (omega (arith, first.inside, first.behind_main, few)));
  declared = λ i e at. each-own (units stmts) (λ f. is_declared (units stmts) f ≡ true) (λ k x some below own. absurd (omega (arith, some, below, few))) i e at;
  short = text-short stmts text;
}

one-unit : (stmts : List Labelled) → list_all (λ s. stays_in_unit s.stmt) (take (length stmts - 1) stmts) ≡ true → length (units stmts) ≤ 1
one-unit [] stay = omega arith
one-unit (s ∷ []) stay = by (is_end s.stmt)
  where
    by : (b : Bool) → length (if b then (s ∷ []) ∷ [] else in_first s []) ≤ 1
    by true = omega arith
    by false = omega arith
one-unit (s ∷ t ∷ rest) stay = by (is_end s.stmt) refl (units (t ∷ rest)) (one-unit (t ∷ rest) parts.1)
  where
    same : list_all (λ a. stays_in_unit a.stmt) (s ∷ take (length (t ∷ rest) - 1) (t ∷ rest)) ≡ true
    same =
        let more : suc (length (t ∷ rest) - 1) ≡ length (s ∷ t ∷ rest) - 1 = omega arith in
        ap (λ (n : ℕ). list_all (λ a. stays_in_unit a.stmt) (take n (s ∷ t ∷ rest))) more ∙ stay

    parts : (stays_in_unit s.stmt ≡ true) × (list_all (λ a. stays_in_unit a.stmt) (take (length (t ∷ rest) - 1) (t ∷ rest)) ≡ true)
    parts = and_parts (stays_in_unit s.stmt) (list_all (λ a. stays_in_unit a.stmt) (take (length (t ∷ rest) - 1) (t ∷ rest))) same

    first : (us : List (List Labelled)) → length us ≤ 1 → length (in_first s us) ≤ 1
    first [] few = omega arith
    first (u ∷ us) few = few

    by : (b : Bool) → is_end s.stmt ≡ b → (us : List (List Labelled)) → length us ≤ 1 → length (if b then (s ∷ []) ∷ us else in_first s us) ≤ 1
    by true is us few = let e : not (is_end s.stmt) ≡ true = (and_parts (not (is_end s.stmt)) (not (is_of_subroutines s.stmt)) parts.0).0 in let no : false ≡ true = sym (ap not is) ∙ e in absurd cc
    by false is us few = first us few

no-refusal : (o : Option SubEnd) (made list : List Labelled) → list_unless o made ≡ Ok list → o ≡ None
no-refusal None made list is = refl
no-refusal (Some end) made list is = absurd cc

-- what an accepted text has
pub record IsAccepted (us : List (List Labelled)) : Type 0 where
  pub named : AreAllNamed us
  pub small : has_great_name us ≡ false
  pub first : HaveDummiesFirst us

module _ (stmts : List Labelled) (checked : Bool) (text : IsText stmts) (list : List Labelled) (is : listed stmts checked ≡ Ok list) where
  pub accepted : IsAccepted (units stmts)
  accepted = by (is_one_unit stmts) refl is
    where
      by : (b : Bool) → is_one_unit stmts ≡ b → (if b then Ok stmts else expansion stmts checked) ≡ Ok list → IsAccepted (units stmts)
      by true one made =
          let few : length (units stmts) ≤ 1 = one-unit stmts one in
          record {
            named = alone-named stmts text few;
            small = alone-small (units stmts) few;
            first = λ k some below. absurd (omega (arith, some, below, few));
          }
      by false several made =
          let none = no-refusal (unit_refusal stmts checked) _ list made in
          let formed = form-none stmts checked none in
          record { named = all-named stmts checked text formed; small = named-small stmts checked none; first = dummies-first stmts checked formed }

-- ---- its statements

pub same-read : (bytes : List ℕ) (stmts others : List Labelled) → statements_read bytes ≡ Ok stmts → HasStatements bytes others → stmts ≡ others
same-read bytes stmts others read has =
    let e : Ok stmts ≡ Ok others = sym read ∙ ap statements_in has.lines ∙ has.statements in
    cc

pub accepted-read : (bytes : List ℕ) (checked : Bool) (p : Program) (stmts read : List Labelled) → IsProgramOf bytes checked p → statements_read bytes ≡ Ok stmts → read ≡ stmts → IsAccepted (units read)
accepted-read bytes checked p stmts read of is same =
    subst (λ (ss : List Labelled). IsAccepted (units ss)) (sym (same ∙ same-read bytes stmts of.stmts is of.has)) (accepted of.stmts checked of.are.text of.are.list of.are.units)
