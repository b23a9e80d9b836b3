-- The executables of a flat program by themselves: what each may be, how many there are, and where END stands.
use Rattle.std.proofs.Common.{◌≡◌, ℕ, zero, suc, ◌+◌, ◌-◌, ◌*◌, ◌≤◌, Bool, true, false, List, [], ◌∷◌, length, map, take, All, refl, sym, ap, ◌∙◌, subst, ⊎_elim, arith}
use Rattle.std.specs.Prelude.{slice_get, Option, Some, None, option_to_list, if◌then◌else◌, sum_by}
use Rattle.std.proofs.lemmas.List.{length-map}
use Rattle.std.proofs.lemmas.List.Sums.{sum_by-append}
use Rattle.f77_tree.specs.declared.programs.Exec.{Exec}
use Rattle.f77_tree.specs.declared.programs.ExecKind.{ExecKind}
use Rattle.f77_tree.specs.declared.programs.ExecKind.TheVariants.{Pass, End}
use Rattle.f77_tree.specs.declared.programs.NameInfo.{NameInfo}
use Rattle.f77_tree.specs.Control.{EndsWithEnd, targets_of}
use Rattle.f77_tree.specs.Declarations.{IsIntegerScalar}
use Rattle.f77_tree.specs.WellFormed.{IsExecutable}
use Rattle.f77_tree.proofs.AllLemmas.{All-get}
use Rattle.flat_programs.specs.declared.statements.Flat.{Flat}
use Rattle.flat_programs.specs.declared.statements.Flat.TheVariants.{Mark, Assignment, Output, LogicalIf, ArithmeticIf, ComputedGoTo, DoLoop, Jump, Finish}
use Rattle.flat_programs.specs.declared.statements.FlatLine.{FlatLine}
use Rattle.flat_programs.specs.Marks.{mark_at, is_end, loop_to, variable_in}
use Rattle.flat_programs.specs.Executables.{width, first_of, marked, leading, following, increment, executables_in, executables_at, executables}
use Rattle.flat_programs.specs.FlatForm.{IsFlat, IsProperFlat, AreProper, choices, range_end}
use Rattle.flat_programs.proofs.FlowLemmas.{first_of-next, first_of-most}
use Rattle.flat_programs.proofs.MarkLemmas.{item_at, take_next, take_whole}
use Rattle.flat_programs.proofs.CountedItems.{All-items}
use Rattle.flat_programs.proofs.Rows.{rows, rows-more}
use Rattle.flat_programs.proofs.ExecutableRows.{with_line, belongs, execs-length, leading-at}
use Rattle.flat_programs.proofs.FlatSuccessors.{first-exists, loop-of}

-- ---- each executable

module _ (names : List NameInfo) (flat : List FlatLine) (place : ℕ) where
  leading-proper : (stmt : Flat) → IsProperFlat names stmt → IsExecutable names (leading flat place stmt)
  leading-proper Mark is = is
  leading-proper (LogicalIf cond target) is = is
  leading-proper (Assignment target value) is = is
  leading-proper (Output items) is = is
  leading-proper (ArithmeticIf value below at above) is = is
  leading-proper (ComputedGoTo value targets) is = (is.0, let size = length-map targets (marked flat) in let some = is.1 in omega (arith, size, some))
  leading-proper (DoLoop end var first last step) is = is
  leading-proper (Jump target) is = is
  leading-proper Finish is = is

variable-proper : (names : List NameInfo) (l : FlatLine) (number : ℕ) → range_end l.stmt ≡ number ∷ [] → IsProperFlat names l.stmt → IsIntegerScalar names (variable_in (Some l))
variable-proper names l number ends is = by l.stmt ends is
  where
    by : (stmt : Flat) → range_end stmt ≡ number ∷ [] → IsProperFlat names stmt → IsIntegerScalar names (variable_in (Some (record { line = l.line; stmt = stmt })))
    by (DoLoop end var first last step) ends is = is.variable
    by Mark ends is = absurd cc
    by (LogicalIf cond target) ends is = absurd cc
    by (Assignment target value) ends is = absurd cc
    by (Output items) ends is = absurd cc
    by (ArithmeticIf value below at above) ends is = absurd cc
    by (ComputedGoTo value targets) ends is = absurd cc
    by (Jump target) ends is = absurd cc
    by Finish ends is = absurd cc

module _ (names : List NameInfo) (flat : List FlatLine) (form : IsFlat flat) (proper : AreProper names flat) where
  increment-proper : (place : ℕ) (kind : ExecKind) (b : Bool) → is_end flat (mark_at flat place) ≡ b → following flat place Mark ≡ Some kind → IsExecutable names kind
  increment-proper place kind true is follows =
      let d = loop_to flat (mark_at flat place) in
      let made = increment flat d (first_of flat (place + 1)) in
      let some : following flat place Mark ≡ Some made = ap (λ b. if b then Some made else None) is in
      let both : Some made ≡ Some kind = sym some ∙ follows in
      let same : made ≡ kind = cc in
      let r = loop-of flat form (mark_at flat place) is in
      let right = variable-proper names r.line (mark_at flat place) r.ends (All-get (λ (l : FlatLine). IsProperFlat names l.stmt) flat d r.line proper r.is) in
      let there : IsIntegerScalar names (variable_in (slice_get flat d)) = subst (λ (o : Option FlatLine). IsIntegerScalar names (variable_in o)) (sym r.is) right in
      subst (IsExecutable names) same there
  increment-proper place kind false is follows =
      let none : following flat place Mark ≡ None = ap (λ b. if b then Some (increment flat (loop_to flat (mark_at flat place)) (first_of flat (place + 1))) else None) is in
      let both : None ≡ Some kind = sym none ∙ follows in
      absurd cc

  following-proper : (place : ℕ) (stmt : Flat) (kind : ExecKind) → following flat place stmt ≡ Some kind → IsExecutable names kind
  following-proper place Mark kind follows = increment-proper place kind (is_end flat (mark_at flat place)) refl follows
  following-proper place (LogicalIf cond target) kind follows =
      let same : Pass (marked flat target) ≡ kind = cc in
      subst (IsExecutable names) same tt
  following-proper place (Assignment target value) kind follows = absurd cc
  following-proper place (Output items) kind follows = absurd cc
  following-proper place (ArithmeticIf value below at above) kind follows = absurd cc
  following-proper place (ComputedGoTo value targets) kind follows = absurd cc
  following-proper place (DoLoop end var first last step) kind follows = absurd cc
  following-proper place (Jump target) kind follows = absurd cc
  following-proper place Finish kind follows = absurd cc

  pub each-proper : All (λ exec. IsExecutable names exec.kind) (executables flat)
  each-proper = All-items (λ (exec : Exec). IsExecutable names exec.kind) (executables flat) (λ k exec at.
      let b = belongs flat k exec at in
      let right = All-get (λ (l : FlatLine). IsProperFlat names l.stmt) flat b.place b.line proper b.of.is in
      ⊎_elim
      (λ h. subst (IsExecutable names) h.1 (leading-proper names flat b.place b.line.stmt right))
      (λ h. following-proper b.place b.line.stmt exec.kind h.1)
      b.of.which)

-- ---- END

module _ (flat : List FlatLine) (form : IsFlat flat) where
  end-led : (place : ℕ) (stmt : Flat) → leading flat place stmt ≡ End → stmt ≡ Finish
  end-led place Finish is = refl
  end-led place Mark is = absurd cc
  end-led place (LogicalIf cond target) is = absurd cc
  end-led place (Assignment target value) is = absurd cc
  end-led place (Output items) is = absurd cc
  end-led place (ArithmeticIf value below at above) is = absurd cc
  end-led place (ComputedGoTo value targets) is = absurd cc
  end-led place (DoLoop end var first last step) is = absurd cc
  end-led place (Jump target) is = absurd cc

  none-follows : (b : Bool) (a : ExecKind) → (a ≡ End → ⊥) → (if b then Some a else None) ≡ Some End → ⊥
  none-follows true a other is = other cc
  none-follows false a other is = cc

  end-not-following : (place : ℕ) (stmt : Flat) → following flat place stmt ≡ Some End → ⊥
  end-not-following place Mark is = none-follows (is_end flat (mark_at flat place)) (increment flat (loop_to flat (mark_at flat place)) (first_of flat (place + 1))) (λ h. cc) is
  end-not-following place (LogicalIf cond target) is = cc
  end-not-following place (Assignment target value) is = cc
  end-not-following place (Output items) is = cc
  end-not-following place (ArithmeticIf value below at above) is = cc
  end-not-following place (ComputedGoTo value targets) is = cc
  end-not-following place (DoLoop end var first last step) is = cc
  end-not-following place (Jump target) is = cc
  end-not-following place Finish is = cc

  -- the statement END has one executable, and it is the last one
  finish-last : (place : ℕ) (l : FlatLine) → slice_get flat place ≡ Some l → l.stmt ≡ Finish → suc (first_of flat place) ≡ length (executables flat)
  finish-last place l is end =
      let ends = (form.ended place l is).0 end in
      let e : place + 1 ≡ length flat = omega (arith, ends) in
      let a = first_of-next flat place l is ∙ ap (λ (stmt : Flat). first_of flat place + width flat place stmt) end in
      let b = ap (first_of flat) e in
      let c = execs-length flat in
      omega (arith, a, b, c)

  end-from-kind : (k : ℕ) (exec : Exec) → slice_get (executables flat) k ≡ Some exec → exec.kind ≡ End → suc k ≡ length (executables flat)
  end-from-kind k exec at is =
      let b = belongs flat k exec at in
      ⊎_elim
      (λ h.
      let e = h.0 in
      let last = finish-last b.place b.line b.of.is (end-led b.place b.line.stmt (h.1 ∙ is)) in
      omega (arith, e, last))
      (λ h. absurd (end-not-following b.place b.line.stmt (h.1 ∙ ap Some is)))
      b.of.which

  kind-from-end : (k : ℕ) (exec : Exec) → slice_get (executables flat) k ≡ Some exec → suc k ≡ length (executables flat) → exec.kind ≡ End
  kind-from-end k exec at is =
      let m = length flat - 1 in
      let item = item_at flat m (omega (arith, form.some)) in
      let end : item.0.stmt ≡ Finish = (form.ended m item.0 item.1).1 (omega (arith, form.some)) in
      let last = finish-last m item.0 item.1 end in
      let there : k ≡ first_of flat m = omega (arith, is, last) in
      let one : Some (with_line item.0.line (leading flat m item.0.stmt)) ≡ Some exec = sym (leading-at flat m item.0 item.1) ∙ ap (slice_get (executables flat)) (sym there) ∙ at in
      let same : with_line item.0.line (leading flat m item.0.stmt) ≡ exec = cc in
      ap (λ (e : Exec). e.kind) (sym same) ∙ ap (leading flat m) end

  pub ends-with-end : EndsWithEnd (executables flat)
  ends-with-end = record {
    some = let less = first-exists flat form 0 form.some in omega (arith, less);
    last = λ k exec at. (end-from-kind k exec at, kind-from-end k exec at);
  }

-- ---- how many there are

module _ (flat : List FlatLine) where
  abbrev weight : Exec → ℕ
  weight exec = length (targets_of exec.kind)

  pub few-executables : length (executables flat) ≤ 2 * length flat
  few-executables = let a = execs-length flat in let b = first_of-most flat (length flat) in omega (arith, a, b)

  mark-targets : (line a b next : ℕ) (kind : ExecKind) (is : Bool) → length (targets_of kind) ≡ 0 → sum_by weight (map (with_line line) (Pass a ∷ option_to_list (if is then Some kind else None))) ≡ 0
  mark-targets line a b next kind true none = let n = none in omega (arith, n)
  mark-targets line a b next kind false none = refl

  in-targets : (place line : ℕ) (stmt : Flat) → sum_by weight (map (with_line line) (leading flat place stmt ∷ option_to_list (following flat place stmt))) ≡ length (choices stmt)
  in-targets place line Mark = mark-targets line (first_of flat place + 1) 0 0 (increment flat (loop_to flat (mark_at flat place)) (first_of flat (place + 1))) (is_end flat (mark_at flat place)) refl
  in-targets place line (ComputedGoTo value targets) = let size = length-map targets (marked flat) in omega (arith, size)
  in-targets place line (LogicalIf cond target) = refl
  in-targets place line (Assignment target value) = refl
  in-targets place line (Output items) = refl
  in-targets place line (ArithmeticIf value below at above) = refl
  in-targets place line (DoLoop end var first last step) = refl
  in-targets place line (Jump target) = refl
  in-targets place line Finish = refl

  at-targets : (place : ℕ) (l : FlatLine) → slice_get flat place ≡ Some l → sum_by weight (executables_at flat place) ≡ length (choices l.stmt)
  at-targets place l is = ap (λ (o : Option FlatLine). sum_by weight (executables_in flat place o)) is ∙ in-targets place l.line l.stmt

  abbrev choices_of : List FlatLine → ℕ
  choices_of = sum_by (λ l. length (choices l.stmt))

  row-targets : (n : ℕ) → n ≤ length flat → sum_by weight (rows (executables_at flat) n) ≡ choices_of (take n flat)
  row-targets zero le = refl
  row-targets (suc n) le =
      let add : n + 1 ≡ suc n = omega arith in
      let item = item_at flat n (omega (arith, le)) in
      let a = ap (sum_by weight) (rows-more (executables_at flat) n) ∙ sum_by-append weight (rows (executables_at flat) n) (executables_at flat n) in
      let b = at-targets n item.0 item.1 in
      let one : choices_of (item.0 ∷ []) ≡ length (choices item.0.stmt) = omega arith in
      let c = ap choices_of (take_next flat n item.0 item.1) ∙ sum_by-append (λ (l : FlatLine). length (choices l.stmt)) (take n flat) (item.0 ∷ []) in
      let less = row-targets n (omega (arith, le)) in
      subst (λ (m : ℕ). sum_by weight (rows (executables_at flat) m) ≡ choices_of (take m flat)) add (omega (arith, a, b, c, one, less))

  pub few-targets : sum_by weight (executables flat) ≡ choices_of flat
  few-targets = row-targets (length flat) (omega arith) ∙ ap choices_of (take_whole flat)
