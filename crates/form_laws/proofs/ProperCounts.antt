-- How much a program asks whose statements don't ask too much: labels in computed GO TO, operations, executables.
use Rattle.std.proofs.Common.{◌≡◌, ℕ, zero, suc, ◌+◌, ◌≤◌, ◌||◌, Bool, true, false, not, cond, List, [], ◌∷◌, ◌++◌, length, take, get_or, All, Option, Some, None, refl, sym, ap, subst, ◌∙◌, append_assoc, append-nil, arith}
use Rattle.std.specs.Prelude.{nat_lt, sum_by, slice_get}
use Rattle.std.specs.List.{range_with_len}
use Rattle.std.proofs.lemmas.Bool.{or_parts}
use Rattle.std.proofs.lemmas.Bool.Decides.{nat_tests}
use Rattle.std.proofs.lemmas.List.{length-map, length-take-le, take_all}
use Rattle.std.proofs.lemmas.Option.{slice_get_within, slice_get-get_or}
use Rattle.std.proofs.lemmas.List.Sums.{sum_by-cons, sum_by-append, sum_by_more}
use Rattle.std.proofs.lemmas.List.Elements.{All-nil, All-cons}
use Rattle.f77_tree.specs.declared.programs.NameInfo.{NameInfo}
use Rattle.f77_tree.specs.declared.programs.ExecKind.{ExecKind}
use Rattle.f77_tree.specs.declared.programs.ExecKind.TheVariants.{DoNext}
use Rattle.f77_tree.specs.declared.programs.Exec.{Exec}
use Rattle.f77_tree.specs.declared.statements.Labelled.{Labelled}
use Rattle.f77_tree.specs.declared.statements.RawExpr.{RawExpr}
use Rattle.f77_tree.specs.declared.statements.Stmt.{Stmt, more_of-Stmt}
use Rattle.f77_tree.specs.declared.statements.Stmt.TheVariants.{Take, PickGoTo, ThenIf'}
use Rattle.f77_tree.specs.Control.{targets_of}
use Rattle.f77_tree.specs.Operations.{exec_operations, is_increment, others, statement_operations}
use Rattle.layout_rules.specs.Faults.{first_after, first_line}
use Rattle.layout_rules.specs.Executables.{own_executables, loops_to, first_of, labelled, beyond, taking, own_kinds, increments, kinds_at, executables_at, executables_if_any, executables}
use Rattle.layout_rules.specs.Counts.{labels_picked, items_taken, asks_too_much}
use Rattle.f77_tree.proofs.Equations.{All-flat}
use Rattle.layout_rules.proofs.StorageLines.{after_clear, after_next}
use Rattle.form_laws.proofs.ProperSums.{sum_by-flat_map, sum_by-map, sum_by-places}

-- the statement at a place has no fault
pub none_at : (fault : List Labelled → Labelled → Bool) (above stmts : List Labelled) (k : ℕ) (s : Labelled) → first_after fault above stmts ≡ None → slice_get stmts k ≡ Some s → fault (above ++ take k stmts) s ≡ false
none_at fault above [] k s none is = absurd cc
none_at fault above (x ∷ rest) zero s none is =
    let same : x ≡ s = cc in
    ap (λ (xs : List Labelled). fault xs s) (append-nil above) ∙ (ap (fault above) (sym same) ∙ after_clear fault above rest x none)
none_at fault above (x ∷ rest) (suc k) s none is =
    ap (λ (xs : List Labelled). fault xs s) (sym (append_assoc above (x ∷ []) (take k rest)))
    ∙ none_at fault (above ++ x ∷ []) rest k s (sym (after_next fault above rest x (after_clear fault above rest x none)) ∙ none) is

-- a sum that a fault keeps small, by the last statement
pub few_in_all : (fault : List Labelled → Labelled → Bool) (f : Labelled → ℕ) → ((above : List Labelled) (s : Labelled) → fault above s ≡ false → sum_by f above + f s ≤ 4000) → (stmts : List Labelled) → first_line fault stmts ≡ None → sum_by f stmts ≤ 4000
few_in_all fault f gives [] none = omega arith
few_in_all fault f gives (s ∷ rest) none =
    let stmts = s ∷ rest in
    let k = length rest in
    let few = gives (take k stmts) (get_or stmts k s) (none_at fault [] stmts k (get_or stmts k s) none (slice_get-get_or stmts k s (omega arith))) in
    let all : take (k + 1) stmts ≡ stmts = take_all (k + 1) stmts (omega arith) in
    omega (arith, few, sum_by_more f stmts k s (omega arith), ap (sum_by f) all)

module _ (names : List NameInfo) (checked : Bool) (whole : List Labelled) where
  -- ---- what a statement doesn't ask too much of

  pub record AsksLittle (above : List Labelled) (s : Labelled) : Type 0 where
    pub operations : statement_operations (executables_at names checked whole (length above) s) ≤ 500
    pub labels : sum_by (λ a. labels_picked a.stmt) above + labels_picked s.stmt ≤ 4000
    pub items : sum_by (λ a. items_taken a.stmt) above + items_taken s.stmt ≤ 4000

  within : (n most : ℕ) → nat_lt most n ≡ false → n ≤ most
  within n most h = grind (arith, nat_tests)

  pub little : (above : List Labelled) (s : Labelled) → asks_too_much names checked whole above s ≡ false → AsksLittle above s
  little above s h =
      let operations = statement_operations (executables_at names checked whole (length above) s) in
      let labels = sum_by (λ (a : Labelled). labels_picked a.stmt) above + labels_picked s.stmt in
      let items = sum_by (λ (a : Labelled). items_taken a.stmt) above + items_taken s.stmt in
      let both = or_parts (nat_lt 500 operations || nat_lt 4000 labels) (nat_lt 4000 items) h in
      let parts = or_parts (nat_lt 500 operations) (nat_lt 4000 labels) both.0 in
      record { operations = within operations 500 parts.0; labels = within labels 4000 parts.1; items = within items 4000 both.1 }

  -- ---- operations

  increment_few : (kind : ExecKind) → is_increment kind ≡ true → exec_operations kind ≤ 500
  increment_few (DoNext loop_no var body exit) h = omega arith
  increment_few _ h = absurd cc

  each_few : (execs : List Exec) → statement_operations execs ≤ 500 → All (λ exec. exec_operations exec.kind ≤ 500) execs
  each_few [] few = All-nil (λ (exec : Exec). exec_operations exec.kind ≤ 500)
  each_few (exec ∷ execs) few = by (is_increment exec.kind) refl few (each_few execs)
    where
      by : (b : Bool) → is_increment exec.kind ≡ b → sum_by (λ (e : Exec). exec_operations e.kind) (cond (not b) (exec ∷ others execs) (others execs)) ≤ 500 → (statement_operations execs ≤ 500 → All (λ exec. exec_operations exec.kind ≤ 500) execs) → All (λ exec. exec_operations exec.kind ≤ 500) (exec ∷ execs)
      by true is few more = All-cons (λ (e : Exec). exec_operations e.kind ≤ 500) exec execs (increment_few exec.kind is) (more few)
      by false is few more =
          let sum = sum_by-cons (λ (e : Exec). exec_operations e.kind) exec (others execs) in
          All-cons (λ (e : Exec). exec_operations e.kind ≤ 500) exec execs (omega (arith, sum, few)) (more (omega (arith, sum, few)))

  -- what holds of the executables of each statement holds of all
  pub each_executable : (P : Exec → Type 0) → ((place : ℕ) (s : Labelled) → slice_get whole place ≡ Some s → All P (executables_at names checked whole place s)) → All P (executables names checked whole)
  each_executable P holds = All-flat P (λ place. executables_if_any names checked whole place (slice_get whole place)) (range_with_len 0 (length whole)) (λ k d below. let place = get_or (range_with_len 0 (length whole)) k d in by place (slice_get whole place) refl)
    where
      by : (place : ℕ) (o : Option Labelled) → slice_get whole place ≡ o → All P (executables_if_any names checked whole place o)
      by place None is = All-nil P
      by place (Some s) is = holds place s is

  -- no executable takes more operations than a statement may ask
  pub executables-few_operations : first_line (asks_too_much names checked whole) whole ≡ None → All (λ exec. exec_operations exec.kind ≤ 500) (executables names checked whole)
  executables-few_operations none = each_executable (λ exec. exec_operations exec.kind ≤ 500) (λ place s is.
      let few = (little (take place whole) s (none_at (asks_too_much names checked whole) [] whole place s none is)).operations in
      each_few (executables_at names checked whole place s) (subst (λ n. statement_operations (executables_at names checked whole n s) ≤ 500) (length-take-le place whole (omega (arith, slice_get_within whole place s is))) few))

  -- ---- labels of computed GO TO

  abbrev targets : ExecKind → ℕ
  targets kind = length (targets_of kind)

  abbrev exec_targets : Exec → ℕ
  exec_targets exec = length (targets_of exec.kind)

  taking_targets : (index next : ℕ) (items : List RawExpr) → sum_by targets (taking names checked index next items) ≡ 0
  taking_targets index next [] = refl
  taking_targets index next (item ∷ []) = refl
  taking_targets index next (item ∷ another ∷ rest) =
      taking_targets (index + 1) next (another ∷ rest)

  own_targets : (place index next : ℕ) (stmt : Stmt) → sum_by targets (own_kinds names checked whole place index next stmt) ≡ labels_picked stmt
  own_targets place index next (Take items) = taking_targets index next items
  own_targets place index next (PickGoTo labels e) = let as_many = length-map labels (labelled whole) in omega (arith, as_many)
  own_targets place index next (ThenIf' condition shape (more_of-Stmt stmt rest)) = own_targets place (index + 1) next stmt
  own_targets place index next _ = refl

  increment_targets : (place index : ℕ) (ds : List ℕ) → sum_by targets (increments names whole place index ds) ≡ 0
  increment_targets place index [] = refl
  increment_targets place index (d ∷ outer) =
      increment_targets place (index + 1) outer

  targets_at : (place : ℕ) (s : Labelled) → sum_by exec_targets (executables_at names checked whole place s) ≡ labels_picked s.stmt
  targets_at place s =
      let own = own_kinds names checked whole place (first_of whole place) (beyond whole place s) s.stmt in
      let ends = increments names whole place (first_of whole place + own_executables s.stmt) (loops_to whole s.label) in
      let mapped = sum_by-map exec_targets (λ (kind : ExecKind). let exec : Exec = record { line = s.line; kind = kind } in exec) (kinds_at names checked whole place s) in
      let both = sum_by-append targets own ends in
      let first = own_targets place (first_of whole place) (beyond whole place s) s.stmt in
      let second = increment_targets place (first_of whole place + own_executables s.stmt) (loops_to whole s.label) in
      mapped ∙ both ∙ omega (arith, first, second)

  targets_at_place : (place : ℕ) (s : Labelled) → slice_get whole place ≡ Some s → sum_by exec_targets (executables_if_any names checked whole place (slice_get whole place)) ≤ labels_picked s.stmt
  targets_at_place place s is = omega (arith, ap (λ (o : Option Labelled). sum_by exec_targets (executables_if_any names checked whole place o)) is, targets_at place s)

  -- at most 4,000 labels stand in computed GO TO
  pub executables-few_targets : first_line (asks_too_much names checked whole) whole ≡ None → sum_by (λ exec. length (targets_of exec.kind)) (executables names checked whole) ≤ 4000
  executables-few_targets none =
      let parts = sum_by-flat_map exec_targets (λ place. executables_if_any names checked whole place (slice_get whole place)) (range_with_len 0 (length whole)) in
      let places = sum_by-places (λ place. sum_by exec_targets (executables_if_any names checked whole place (slice_get whole place))) (λ s. labels_picked s.stmt) whole targets_at_place in
      let few = few_in_all (asks_too_much names checked whole) (λ s. labels_picked s.stmt) (λ above s h. (little above s h).labels) whole none in
      omega (arith, parts, places, few)
