-- How many executables a statement has.
use Rattle.std.proofs.Common.{◌≡◌, ℕ, suc, ◌+◌, ◌<◌, Bool, true, false, List, [], ◌∷◌, ◌++◌, length, get_or, refl, sym, ap, ◌∙◌, arith, Option, Some, length-append, append_assoc, ◌*◌, ◌-◌, ◌^◌, ◌≤◌, ◌||◌, take, None, All}
use Rattle.std.specs.Prelude.{slice_get, sum_by, nat_lt}
use Rattle.std.proofs.lemmas.List.{map-append, length-map, take_all, length-reverse}
use Rattle.std.proofs.lemmas.Option.{slice_get_read, slice_get_within, get_or_from_slice_get}
use Rattle.std.proofs.lemmas.Bool.{or_parts, ltb-false}
use Rattle.std.proofs.lemmas.List.Sums.{sum_by-cons}
use Rattle.f77_tree.specs.declared.programs.Exec.{Exec}
use Rattle.f77_tree.specs.declared.programs.ExecKind.{ExecKind}
use Rattle.f77_tree.specs.declared.programs.NameInfo.{NameInfo}
use Rattle.f77_tree.specs.declared.statements.Labelled.{Labelled}
use Rattle.f77_tree.specs.declared.statements.RawExpr.{RawExpr}
use Rattle.f77_tree.specs.declared.statements.Stmt.{Stmt, more_of-Stmt}
use Rattle.f77_tree.specs.declared.statements.Stmt.TheVariants.{Take, ThenIf', CallTo, Back}
use Rattle.f77_tree.specs.StatementGrammar.{is_of_subroutines}
use Rattle.layout_rules.specs.Executables.{beyond, own_executables, own_kinds, taking, increments, loops_to, executables_with_ends, first_of, at_line, executables_if_any, executables_at, loops_above}
use Rattle.layout_rules.specs.Tables.{is_simple, has_simple_inner, IsUsable}
use Rattle.f77_tree.specs.Operations.{statement_operations}
use Rattle.layout_rules.specs.Faults.{first_line}
use Rattle.layout_rules.specs.Source.{IsSource}
use Rattle.layout_rules.specs.Counts.{asks_too_much, labels_picked, items_taken}
use Rattle.control_structure.proofs.OwnExecutables.{sum-more}
use Rattle.control_structure.proofs.LabelLemmas.{faultless}
use Rattle.control_structure.proofs.LoopTables.{loops_above-few}

module _ (names : List NameInfo) (checked : Bool) (whole : List Labelled) (place : ℕ) where
  -- READ has one for each item
  length-taking : (index next : ℕ) (targets : List RawExpr) → length (taking names checked index next targets) ≡ length targets
  length-taking index next [] = refl
  length-taking index next (target ∷ []) = refl
  length-taking index next (target ∷ another ∷ rest) = ap suc (length-taking (index + 1) next (another ∷ rest))

  length-simple : (index next : ℕ) (stmt : Stmt) → is_simple stmt ≡ true → length (own_kinds names checked whole place index next stmt) ≡ own_executables stmt
  length-simple index next (Take targets) e = length-taking index next targets
  length-simple index next (ThenIf' condition shape (more_of-Stmt stmt rest)) e = let h : false ≡ true = e in absurd cc
  length-simple index next (CallTo name arguments) e = let h : false ≡ true = e in absurd cc
  length-simple index next Back e = let h : false ≡ true = e in absurd cc
  length-simple index next _ e = refl

  pub length-own : (index next : ℕ) (stmt : Stmt) → has_simple_inner stmt ≡ true → is_of_subroutines stmt ≡ false → length (own_kinds names checked whole place index next stmt) ≡ own_executables stmt
  length-own index next (Take targets) inner none = length-taking index next targets
  length-own index next (ThenIf' condition shape (more_of-Stmt stmt rest)) inner none = omega (arith, length-simple (index + 1) next stmt inner)
  length-own index next (CallTo name arguments) inner none = let h : true ≡ false = none in absurd cc
  length-own index next Back inner none = let h : true ≡ false = none in absurd cc
  length-own index next _ inner none = refl

  pub length-increments : (index : ℕ) (ds : List ℕ) → length (increments names whole place index ds) ≡ length ds
  length-increments index [] = refl
  length-increments index (d ∷ ds) = ap suc (length-increments (index + 1) ds)

-- the executables of the statements up to and with one
pub first_of-next : (stmts : List Labelled) (place : ℕ) (s : Labelled) → place < length stmts → s ≡ get_or stmts place s → first_of stmts (place + 1) ≡ first_of stmts place + (own_executables s.stmt + length (loops_to stmts s.label))
first_of-next stmts place s inside is = sum-more (executables_with_ends stmts) stmts place s inside is

-- a statement's own executables, and after them its increments
pub record AreAll (names : List NameInfo) (checked : Bool) (whole : List Labelled) (place : ℕ) (s : Labelled) (old own : List Exec) : Type 0 where
  pub longer : length own ≡ first_of whole place + own_executables s.stmt
  pub all : own ++ at_line s.line (increments names whole place (length own) (loops_to whole s.label)) ≡ old ++ executables_if_any names checked whole place (slice_get whole place)
  pub index : length (own ++ at_line s.line (increments names whole place (length own) (loops_to whole s.label))) ≡ first_of whole (place + 1)

pub all-executables : (names : List NameInfo) (checked : Bool) (whole : List Labelled) (place : ℕ) (s : Labelled) (old own : List Exec) (next : ℕ) → place < length whole → s ≡ get_or whole place s → IsUsable whole s → length old ≡ first_of whole place → next ≡ beyond whole place s → own ≡ old ++ at_line s.line (own_kinds names checked whole place (length old) next s.stmt) → AreAll names checked whole place s old own
all-executables names checked whole place s old own next inside is usable index next_is own_is =
    let kinds : ℕ → ℕ → List ExecKind = λ i n. own_kinds names checked whole place i n s.stmt in
    let ends : ℕ → List ExecKind = λ i. increments names whole place i (loops_to whole s.label) in
    let line : ExecKind → Exec = λ kind. record { line = s.line; kind = kind } in
    let as_many : length (at_line s.line (kinds (length old) next)) ≡ own_executables s.stmt = length-map (kinds (length old) next) line ∙ length-own names checked whole place (length old) next s.stmt usable.inner usable.no_subroutine in
    let longer : length own ≡ first_of whole place + own_executables s.stmt = ap (λ (xs : List Exec). length xs) own_is ∙ length-append old (at_line s.line (kinds (length old) next)) ∙ omega (arith, as_many) in
    let many_ends : length (at_line s.line (ends (length own))) ≡ length (loops_to whole s.label) = length-map (ends (length own)) line ∙ length-increments names checked whole place (length own) (loops_to whole s.label) in
    let at : slice_get whole place ≡ Some s = slice_get_read whole (length whole) place s refl inside is in
    record {
      longer = longer;
      all =
          ap (λ (xs : List Exec). xs ++ at_line s.line (ends (length own))) own_is
          ∙ append_assoc old (at_line s.line (kinds (length old) next)) (at_line s.line (ends (length own)))
          ∙ ap (λ (xs : List Exec). old ++ xs) (sym (map-append line (kinds (length old) next) (ends (length own))))
          ∙ ap (λ i. old ++ at_line s.line (kinds i next ++ ends (length own))) index
          ∙ ap (λ n. old ++ at_line s.line (kinds (first_of whole place) n ++ ends (length own))) next_is
          ∙ ap (λ i. old ++ at_line s.line (kinds (first_of whole place) (beyond whole place s) ++ ends i)) longer
          ∙ ap (λ (o : Option Labelled). old ++ executables_if_any names checked whole place o) (sym at);
      index = length-append own (at_line s.line (ends (length own))) ∙ omega (arith, longer, many_ends, first_of-next whole place s inside is);
    }

-- ---- statements that don't ask too much have few executables

simple_few : (stmt : Stmt) → is_simple stmt ≡ true → own_executables stmt ≤ 1 + items_taken stmt
simple_few (Take targets) e = omega arith
simple_few (ThenIf' condition shape (more_of-Stmt stmt rest)) e = let h : false ≡ true = e in absurd cc
simple_few _ e = omega arith

pub own_few : (stmt : Stmt) → has_simple_inner stmt ≡ true → own_executables stmt ≤ 2 + items_taken stmt
own_few (Take targets) e = omega arith
own_few (ThenIf' condition shape (more_of-Stmt stmt rest)) e = omega (arith, simple_few stmt e)
own_few _ e = omega arith

loops_few : (stmts : List Labelled) (label : ℕ) → length (loops_to stmts label) ≤ length stmts
loops_few stmts label = omega (arith, length-reverse (loops_above stmts label (length stmts)), loops_above-few stmts label (length stmts))

sum-few : (f g : Labelled → ℕ) (stmts : List Labelled) → All (λ s. f s ≤ 4002 + g s) stmts → sum_by f stmts ≤ 4002 * length stmts + sum_by g stmts
sum-few f g [] are = omega arith
sum-few f g (s ∷ stmts) are =
    let here : f s ≤ 4002 + g s = are 0 s (omega arith) in
    omega (arith, here, sum_by-cons f s stmts, sum_by-cons g s stmts, sum-few f g stmts (λ k d below. are (suc k) d (omega arith)))

module _ (names : List NameInfo) (checked : Bool) (stmts : List Labelled) (source : IsSource stmts) (none : first_line (asks_too_much names checked stmts) stmts ≡ None) where
  -- there are few items of READ
  pub items_few : sum_by (λ s. items_taken s.stmt) stmts ≤ 4000
  items_few =
      let i = length stmts - 1 in
      let last = source.ended.last in
      let here = source.ended.stands in
      let inside = slice_get_within stmts i last here in
      let above = take i stmts in
      let modest = faultless (asks_too_much names checked stmts) [] stmts none i last here in
      let parts = or_parts (nat_lt 500 (statement_operations (executables_at names checked stmts (length above) last)) || nat_lt 4000 (sum_by (λ a. labels_picked a.stmt) above + labels_picked last.stmt)) (nat_lt 4000 (sum_by (λ a. items_taken a.stmt) above + items_taken last.stmt)) modest in
      let few = ltb-false 4000 (sum_by (λ a. items_taken a.stmt) above + items_taken last.stmt) parts.1 in
      let more = sum-more (λ (a : Labelled). items_taken a.stmt) stmts i last inside (sym (get_or_from_slice_get stmts i last last here)) in
      let all : take (i + 1) stmts ≡ stmts = take_all (i + 1) stmts (omega arith) in
      omega (arith, few, more, ap (sum_by (λ (a : Labelled). items_taken a.stmt)) all)

  pub executables_few : All (IsUsable stmts) stmts → sum_by (executables_with_ends stmts) stmts < 2 ^ 32
  executables_few usable =
      let f = executables_with_ends stmts in
      let g : Labelled → ℕ = λ s. items_taken s.stmt in
      let each : All (λ s. f s ≤ 4002 + g s) stmts = λ k d below. omega (arith, own_few (get_or stmts k d).stmt ((usable k d below).inner), loops_few stmts (get_or stmts k d).label, source.few) in
      omega (arith, sum-few f g stmts each, items_few, source.few)
