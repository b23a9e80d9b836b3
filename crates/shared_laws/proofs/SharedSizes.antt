-- The shared form has as many labels of computed GO TOs as the flat program, and few statements where they are told to be few.
use Rattle.std.proofs.Common.{◌≡◌, ℕ, ◌+◌, ◌≤◌, false, List, [], ◌∷◌, ◌++◌, length, map, flat_map, sum_by, Option, Some, None, option_to_list, refl, ap, ◌∙◌, arith}
use Rattle.std.specs.Prelude.{slice_get}
use Rattle.std.specs.List.{range_with_len}
use Rattle.std.proofs.lemmas.List.{length-map}
use Rattle.std.proofs.lemmas.List.Sums.{sum_by-append, sum_by-cons, sum_by-le-sum_by}
use Rattle.list_laws.proofs.Counts.{sum_same}
use Rattle.f77_tree.specs.declared.expressions.Expr.{Expr}
use Rattle.f77_tree.specs.declared.programs.Exec.{Exec}
use Rattle.f77_tree.specs.declared.programs.ExecKind.{ExecKind}
use Rattle.f77_tree.specs.declared.programs.Program.{Program}
use Rattle.f77_tree.specs.Control.{targets_of}
use Rattle.f77_tree.specs.WellFormed.{AreExecs}
use Rattle.flat_programs.specs.declared.statements.Flat.{Flat}
use Rattle.flat_programs.specs.declared.statements.Flat.TheVariants.{Mark, Assignment, Output, LogicalIf, ArithmeticIf, ComputedGoTo, DoLoop, Jump, Finish}
use Rattle.flat_programs.specs.declared.statements.FlatLine.{FlatLine}
use Rattle.flat_programs.specs.Declarations.{declared}
use Rattle.flat_programs.specs.Executables.{executables, executables_at, executables_in, first_of, following, leading, marked}
use Rattle.flat_programs.specs.FlatForm.{choices, AreStatementsOf, HasFewStatements}
use Rattle.redundancy.specs.Available.{Availability}
use Rattle.shared_forms.specs.Shared.{due, kept_value, replaced_in, shared_flat, shared_lines, with_temporaries}
use Rattle.simplified_forms.specs.Simplified.{has_many_statements, most_statements}
use Rattle.shared_forms.proofs.SharedSpread.{part}
use Rattle.shared_laws.proofs.SharedTable.{at-most}
use Rattle.shared_forms.proofs.SpreadFlat.{image}

-- ---- sums

sum-joined : {X Y : Type 0} (w : Y → ℕ) (f : X → List Y) (xs : List X) → sum_by w (flat_map f xs) ≡ sum_by (λ x. sum_by w (f x)) xs
sum-joined w f [] = refl
sum-joined w f (x ∷ xs) =
    let e : sum_by w (f x ++ flat_map f xs) ≡ sum_by w (f x) + sum_by w (flat_map f xs) = sum_by-append w (f x) (flat_map f xs) in
    let h = sum_by-cons (λ y. sum_by w (f y)) x xs in
    let r = sum-joined w f xs in
    omega (arith, e, h, r)

-- ---- labels

abbrev labels : FlatLine → ℕ
labels l = length (choices l.stmt)

abbrev labels_in : Option FlatLine → ℕ
labels_in None = 0
labels_in (Some l) = labels l

abbrev targets : Exec → ℕ
targets exec = length (targets_of exec.kind)

module _ (flat : List FlatLine) where
  leading-targets : (place : ℕ) (stmt : Flat) → length (choices stmt) ≤ length (targets_of (leading flat place stmt))
  leading-targets place Mark = omega arith
  leading-targets place (Assignment target value) = omega arith
  leading-targets place (Output items) = omega arith
  leading-targets place (LogicalIf cond target) = omega arith
  leading-targets place (ArithmeticIf value below at above) = omega arith
  leading-targets place (ComputedGoTo value list) = let size = length-map list (marked flat) in omega (arith, size)
  leading-targets place (DoLoop end var first last step) = omega arith
  leading-targets place (Jump target) = omega arith
  leading-targets place Finish = omega arith

  targets-at : (place : ℕ) (o : Option FlatLine) → labels_in o ≤ sum_by targets (executables_in flat place o)
  targets-at place None = omega arith
  targets-at place (Some l) =
      let at : ExecKind → Exec = λ kind. record { line = l.line; kind = kind } in
      let more = map at (option_to_list (following flat place l.stmt)) in
      let both = sum_by-cons targets (at (leading flat place l.stmt)) more in
      let least = leading-targets place l.stmt in
      omega (arith, both, least)

  -- the labels of a flat program are no more than the targets of its executables
  pub labels-most : sum_by (λ place. labels_in (slice_get flat place)) (range_with_len 0 (length flat)) ≤ sum_by targets (executables flat)
  labels-most =
      let joined = sum-joined targets (executables_at flat) (range_with_len 0 (length flat)) in
      let least = sum_by-le-sum_by (λ place. labels_in (slice_get flat place)) (λ place. sum_by targets (executables_at flat place)) (range_with_len 0 (length flat)) (λ place. targets-at place (slice_get flat place)) in
      omega (arith, joined, least)

module _ (q : Program) (a : Availability) (number : Expr → Option ℕ) where
  front-labels : (line : ℕ) (ns : List ℕ) → sum_by labels (map (kept_value q a number line) ns) ≡ 0
  front-labels line [] = refl
  front-labels line (n ∷ ns) =
      let both : sum_by labels (kept_value q a number line n ∷ map (kept_value q a number line) ns) ≡ 0 + sum_by labels (map (kept_value q a number line) ns) = sum_by-cons labels (kept_value q a number line n) (map (kept_value q a number line) ns) in
      let rest = front-labels line ns in
      omega (arith, both, rest)

  choices-same : (stmt : Flat) → choices (replaced_in q a number stmt) ≡ choices stmt
  choices-same Mark = refl
  choices-same (Assignment target value) = refl
  choices-same (Output items) = refl
  choices-same (LogicalIf cond target) = refl
  choices-same (ArithmeticIf value below at above) = refl
  choices-same (ComputedGoTo value targets) = refl
  choices-same (DoLoop end var first last step) = refl
  choices-same (Jump target) = refl
  choices-same Finish = refl

  lines-labels : (first : ℕ) (o : Option FlatLine) → sum_by labels (shared_lines q a number first o) ≡ labels_in o
  lines-labels first None = refl
  lines-labels first (Some l) =
      let front = map (kept_value q a number l.line) (due q a number first) in
      let last = image (replaced_in q a number) l in
      let both = sum_by-append labels front (last ∷ []) in
      let one = sum_by-cons labels last [] in
      let none = front-labels l.line (due q a number first) in
      let same = ap length (choices-same l.stmt) in
      omega (arith, both, one, none, same)

  shared-labels : (flat : List FlatLine) → sum_by labels (shared_flat q a number flat) ≡ sum_by (λ place. labels_in (slice_get flat place)) (range_with_len 0 (length flat))
  shared-labels flat =
      sum-joined labels (part q a number flat) (range_with_len 0 (length flat))
      ∙ sum_same (λ place. sum_by labels (part q a number flat place)) (λ place. labels_in (slice_get flat place)) (range_with_len 0 (length flat)) (λ place m. lines-labels (first_of flat place) (slice_get flat place))

  few-lines : (n m : ℕ) → n + m ≤ most_statements → m ≤ 10000
  few-lines n m most = omega (arith, most)

  pub shared-few : (flat : List FlatLine) → AreStatementsOf q flat → AreExecs q.names q.execs q.loops → has_many_statements (with_temporaries q a number) (shared_flat q a number flat) ≡ false → HasFewStatements (shared_flat q a number flat)
  shared-few flat are execs few =
      let all = shared_flat q a number flat in
      let n = length (declared (with_temporaries q a number)) in
      let most : n + length all ≤ most_statements = at-most most_statements (n + length all) few in
      let same = shared-labels flat in
      let least = labels-most flat in
      let made = ap (λ (xs : List Exec). sum_by targets xs) are.execs in
      let bound = execs.target_count in
      record { statements = few-lines n (length all) most; choices = omega (arith, same, least, made, bound) }
