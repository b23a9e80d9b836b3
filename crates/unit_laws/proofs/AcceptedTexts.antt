-- What the refusals of a text leave for its list.
use Rattle.std.proofs.Common.{◌≡◌, ◌≢◌, ℕ, ◌<◌, ◌≤◌, Bool, true, false, not, List, [], ◌∷◌, length, Option, Some, None, if◌then◌else◌, refl, sym, ap, subst, ◌∙◌, arith}
use Rattle.std.specs.Prelude.{Result, Ok, Err, IfOk, IfErr, nat_lt}
use Rattle.std.specs.List.{list_all, list_any, range_with_len}
use Rattle.std.proofs.lemmas.Bool.{ltb-false}
use Rattle.std.proofs.lemmas.List.Sums.{prefix_len-le-length}
use Rattle.f77_tree.specs.declared.statements.Labelled.{Labelled}
use Rattle.layout_rules.specs.Faults.{first_answer, first_line}
use Rattle.layout_rules.specs.Source.{EndsWithEnd}
use Rattle.program_units.specs.declared.sub_end.SubEnd.{SubEnd}
use Rattle.program_units.specs.declared.sub_end.SubEnd.TheVariants.{UnitOrder, BadCall, NoMemory, Recursion}
use Rattle.program_units.specs.Expansion.{total_width, whole_list}
use Rattle.program_units.specs.Heights.{NoneCallsItself}
use Rattle.program_units.specs.Units.{AreFit, call_in, in_first, is_end, is_sub_of, reaches, unit_at, unit_of, units, passes}
use Rattle.program_units.specs.Refusals.{end_at, expansion, form_refusals, has_bad_call, has_great_name, is_out_of_unit, list_unless, recursion, size_refusals, unit_refusal}
use Rattle.unit_laws.proofs.AcceptedTables.{subs, main-dummies, fit}
use Rattle.unit_laws.proofs.NoAnswer.{each-none, in-range, no-end, no-line, none-at}
use Rattle.unit_laws.proofs.RefusalsMet.{form-told, size-told}
use Rattle.unit_laws.proofs.SizesMet.{none-great, none-wide}

-- ---- a text has a unit

pub some-unit : (stmts : List Labelled) → EndsWithEnd stmts → 0 < length (units stmts)
some-unit [] ended = let e : None ≡ Some ended.last = ended.stands in absurd cc
some-unit (s ∷ rest) ended = by (is_end s.stmt)
  where
    in-first : (us : List (List Labelled)) → 0 < length (in_first s us)
    in-first [] = omega arith
    in-first (u ∷ us) = omega arith

    by : (b : Bool) → 0 < length (if b then (s ∷ []) ∷ units rest else in_first s (units rest))
    by true = omega arith
    by false = in-first (units rest)

pub some-first : (us : List (List Labelled)) → 0 < unit_of us [] → 0 < length us
some-first us behind =
    let few = prefix_len-le-length (λ (u : List Labelled). not (list_any (is_sub_of []) u)) us in
    omega (arith, behind, few)

-- ---- no refusal of form

module _ (stmts : List Labelled) (checked : Bool) (ended : EndsWithEnd stmts) (us : List (List Labelled)) (is : us ≡ units stmts) (accepted : first_answer (λ r. r) (form_refusals stmts us checked) ≡ None) where
  abbrev entries : List (Option SubEnd)
  entries = form_refusals stmts us checked

  pub in-order : first_line is_out_of_unit stmts ≡ None
  in-order = no-end UnitOrder (first_line is_out_of_unit stmts) (none-at entries 0 (end_at UnitOrder (first_line is_out_of_unit stmts)) accepted refl)

  pub called : first_line (has_bad_call us) stmts ≡ None
  called = no-end BadCall (first_line (has_bad_call us) stmts) (none-at entries 4 (end_at BadCall (first_line (has_bad_call us) stmts)) accepted refl)

  sub-units : (name : List ℕ) → 0 < unit_of (units stmts) name
  sub-units = subs stmts in-order (some-unit stmts ended)

  fit-calls : (k : ℕ) → list_all (λ s. passes (units stmts) (call_in s.stmt)) (unit_at (units stmts) k) ≡ true
  fit-calls = fit stmts (ap (λ (vs : List (List Labelled)). first_line (has_bad_call vs) stmts) (sym is) ∙ called)

  fit-units : AreFit (units stmts)
  fit-units = record { subs = sub-units; dummies = main-dummies stmts in-order; fit = fit-calls }

  pub are-fit : AreFit us
  are-fit = subst AreFit (sym is) fit-units

  pub none-recurs : NoneCallsItself us
  none-recurs k below =
      let each : ℕ → Option ℕ = recursion us in
      let all : List ℕ = range_with_len 0 (length us) in
      let none : first_answer each all ≡ None = no-end Recursion (first_answer each all) (none-at entries 6 (end_at Recursion (first_answer each all)) accepted refl) in
      no-line (reaches us (length us) k k) (unit_at us k) (each-none each all none k k (in-range (length us) k below))

-- ---- no refusal of size

pub few-numbers : (us : List (List Labelled)) → first_answer (λ r. r) (size_refusals us) ≡ None → has_great_name us ≡ false
few-numbers us accepted = none-great us (nat_lt 4000 (total_width us)) (has_great_name us) accepted

pub few-statements : (us : List (List Labelled)) → first_answer (λ r. r) (size_refusals us) ≡ None → total_width us ≤ 4000
few-statements us accepted = ltb-false 4000 (total_width us) (none-wide us (nat_lt 4000 (total_width us)) (has_great_name us) accepted)

-- ---- the answer

pub refused : (o : Option SubEnd) (end : SubEnd) (list : List Labelled) → Some end ≡ o → Err end ≡ list_unless o list
refused o end list is = ap (λ (p : Option SubEnd). list_unless p list) is

pub listed : (o : Option SubEnd) (list found : List Labelled) → o ≡ None → found ≡ list → Ok found ≡ list_unless o list
listed o list found is same = ap Ok same ∙ ap (λ (p : Option SubEnd). list_unless p list) (sym is)

pub sized : (stmts : List Labelled) (us : List (List Labelled)) (checked : Bool) → us ≡ units stmts → first_answer (λ r. r) (form_refusals stmts us checked) ≡ None → list_unless (first_answer (λ r. r) (size_refusals us)) (whole_list us) ≡ expansion stmts checked
sized stmts us checked is none =
    let size : Option SubEnd = first_answer (λ r. r) (size_refusals us) in
    ap (λ (o : Option SubEnd). list_unless o (whole_list us)) (size-told stmts us checked is None (sym none) size refl refl)
    ∙ ap (λ (vs : List (List Labelled)). list_unless (unit_refusal stmts checked) (whole_list vs)) is

pub formed : (stmts : List Labelled) (us : List (List Labelled)) (checked : Bool) (end : SubEnd) → us ≡ units stmts → first_answer (λ r. r) (form_refusals stmts us checked) ≡ Some end → Err end ≡ expansion stmts checked
formed stmts us checked end is found = refused (unit_refusal stmts checked) end (whole_list (units stmts)) (form-told stmts us checked is (Some end) (sym found) refl)

pub accepted-of : (found is : Result (List Labelled) SubEnd) → found ≡ is → IfOk found (λ list. is ≡ Ok list)
accepted-of (Ok list) is same = sym same
accepted-of (Err end) is same = tt

pub refused-of : (found is : Result (List Labelled) SubEnd) → found ≡ is → IfErr found (λ end. end ≢ NoMemory → is ≡ Err end)
refused-of (Ok list) is same = tt
refused-of (Err end) is same = λ other. sym same
