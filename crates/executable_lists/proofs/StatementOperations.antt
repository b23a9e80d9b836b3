-- The operations of a statement's executables are those that are told of the statement.
use Rattle.std.proofs.Common.{◌≡◌, ℕ, ◌+◌, Bool, true, false, not, ◌||◌, List, length, [], ◌∷◌, ◌++◌, map, refl, sym, ap, ◌∙◌, arith, ◌&&◌}
use Rattle.std.specs.Prelude.{sum_by, filter, nat_lt, nat_le}
use Rattle.std.proofs.lemmas.Bool.{lt-ltb, le-ltb, ltb-true, ltb-false}
use Rattle.std.proofs.lemmas.List.{map-append}
use Rattle.std.proofs.lemmas.List.Elements.{filter-append}
use Rattle.std.proofs.lemmas.List.Sums.{sum_by-append, sum_by-cons}
use Rattle.f77_tree.specs.declared.programs.Exec.{Exec}
use Rattle.f77_tree.specs.declared.programs.ExecKind.{ExecKind}
use Rattle.f77_tree.specs.declared.programs.ExecKind.TheVariants.{Assign as Assigned, Test}
use Rattle.f77_tree.specs.declared.programs.NameInfo.{NameInfo}
use Rattle.f77_tree.specs.declared.statements.Labelled.{Labelled}
use Rattle.f77_tree.specs.declared.statements.RawExpr.{RawExpr}
use Rattle.f77_tree.specs.declared.statements.Stmt.{Stmt, more_of-Stmt}
use Rattle.f77_tree.specs.declared.statements.Stmt.TheVariants.{Print, Take, ThenIf'}
use Rattle.f77_tree.specs.Kinds.{taken_as}
use Rattle.f77_tree.specs.Operations.{exec_operations, item_operations, is_increment, statement_operations}
use Rattle.control_structure.specs.Counted.{counted}
use Rattle.layout_rules.specs.Counts.{is_too_great, labels_picked, items_taken}
use Rattle.layout_rules.specs.Types.{kind_in}
use Rattle.layout_rules.specs.Resolved.{resolved, resolved_item, access_of}
use Rattle.layout_rules.specs.Executables.{kind_or_integer, own_kinds, own_executables, taking, increments, loops_to, first_of, beyond, at_line, executables_at}
use Rattle.control_structure.specs.OwnOperations.{own_operations, target_operations}

-- the sum over what a function makes
sum_by-map : {X Y : Type 0} (g : Y → ℕ) (f : X → Y) (xs : List X) → sum_by g (map f xs) ≡ sum_by (λ x. g (f x)) xs
sum_by-map g f [] = refl
sum_by-map g f (x ∷ xs) = let more = sum_by-map g f xs in let one = sum_by-cons g (f x) (map f xs) in let other = sum_by-cons (λ y. g (f y)) x xs in omega (arith, more, one, other)

abbrev asked : (line : ℕ) → List ExecKind → ℕ
asked line kinds = statement_operations (at_line line kinds)

asked-append : (line : ℕ) (xs ys : List ExecKind) → asked line (xs ++ ys) ≡ asked line xs + asked line ys
asked-append line xs ys =
    let at : ExecKind → Exec = λ kind. record { line = line; kind = kind } in
    let p : Exec → Bool = λ exec. not (is_increment exec.kind) in
    let f : Exec → ℕ = λ exec. exec_operations exec.kind in
    ap (λ (es : List Exec). sum_by f (filter p es)) (map-append at xs ys)
    ∙ ap (sum_by f) (filter-append p (map at xs) (map at ys))
    ∙ sum_by-append f (filter p (map at xs)) (filter p (map at ys))

module _ (names : List NameInfo) (checked : Bool) (whole : List Labelled) (place line : ℕ) where
  asked-increments : (index : ℕ) (ds : List ℕ) → asked line (increments names whole place index ds) ≡ 0
  asked-increments index [] = refl
  asked-increments index (d ∷ ds) = asked-increments (index + 1) ds

  asked-target : (target : RawExpr) (next : ℕ) → asked line (Assigned (access_of names checked target) (taken_as (kind_or_integer (kind_in names target))) next ∷ []) ≡ target_operations names checked target
  asked-target target next = omega arith

  asked-taking : (index next : ℕ) (targets : List RawExpr) → asked line (taking names checked index next targets) ≡ sum_by (target_operations names checked) targets
  asked-taking index next [] = refl
  asked-taking index next (target ∷ []) = refl
  asked-taking index next (target ∷ another ∷ rest) =
      let here = Assigned (access_of names checked target) (taken_as (kind_or_integer (kind_in names target))) (index + 1) in
      let more = asked-append line (here ∷ []) (taking names checked (index + 1) next (another ∷ rest)) in
      let sum = sum_by-cons (target_operations names checked) target (another ∷ rest) in
      omega (arith, more, sum, asked-target target (index + 1), asked-taking (index + 1) next (another ∷ rest))

  asked-own : (index next : ℕ) (stmt : Stmt) → asked line (own_kinds names checked whole place index next stmt) ≡ own_operations names checked stmt
  asked-own index next (Print items) = let sum = sum_by-map item_operations (resolved_item names checked) items in omega (arith, sum)
  asked-own index next (Take targets) = asked-taking index next targets
  asked-own index next (ThenIf' condition shape (more_of-Stmt stmt rest)) =
      let more = asked-append line (Test (resolved names checked condition) (index + 1) next ∷ []) (own_kinds names checked whole place (index + 1) next stmt) in
      omega (arith, more, asked-own (index + 1) next stmt)
  asked-own index next _ = omega arith

pub statement-operations : (names : List NameInfo) (checked : Bool) (whole : List Labelled) (place : ℕ) (s : Labelled) → statement_operations (executables_at names checked whole place s) ≡ own_operations names checked s.stmt
statement-operations names checked whole place s =
    let own = own_kinds names checked whole place (first_of whole place) (beyond whole place s) s.stmt in
    let ends = increments names whole place (first_of whole place + own_executables s.stmt) (loops_to whole s.label) in
    let more = asked-append s.line own ends in
    let none = asked-increments names checked whole place s.line (first_of whole place + own_executables s.stmt) (loops_to whole s.label) in
    let all = asked-own names checked whole place s.line (first_of whole place) (beyond whole place s) s.stmt in
    omega (arith, more, none, all)

-- ---- whether a statement asks too much, by counts of 32 bits

few-counted : (n : ℕ) → nat_lt 500 n ≡ nat_lt 500 (counted n)
few-counted n = by (nat_lt 500 n) refl
  where
    by : (b : Bool) → nat_lt 500 n ≡ b → nat_lt 500 n ≡ nat_lt 500 (counted n)
    by true is = is ∙ sym (lt-ltb 500 (counted n) (omega (arith, ltb-true 500 n is)))
    by false is = is ∙ sym (le-ltb 500 (counted n) (omega (arith, ltb-false 500 n is)))

pub great-counted : (names : List NameInfo) (checked : Bool) (whole above : List Labelled) (s : Labelled) (count labels before items : ℕ) → count ≡ counted (own_operations names checked s.stmt) → labels ≡ sum_by (λ a. labels_picked a.stmt) above + labels_picked s.stmt → before ≡ sum_by (λ a. items_taken a.stmt) above → items ≡ sum_by (λ a. items_taken a.stmt) above + items_taken s.stmt
    → is_too_great names checked whole above s ≡ (nat_lt 500 count || nat_lt 4000 labels || (nat_le before 4000 && nat_lt 4000 items))
great-counted names checked whole above s count labels before items count_is labels_is before_is items_is =
    let labels_all = sum_by (λ a. labels_picked a.stmt) above + labels_picked s.stmt in
    let items_above = sum_by (λ a. items_taken a.stmt) above in
    let tail : Bool = nat_le items_above 4000 && nat_lt 4000 (items_above + items_taken s.stmt) in
    ap (λ n. nat_lt 500 n || nat_lt 4000 labels_all || tail) (statement-operations names checked whole (length above) s)
    ∙ ap (λ b. b || nat_lt 4000 labels_all || tail) (few-counted (own_operations names checked s.stmt))
    ∙ ap (λ n. nat_lt 500 n || nat_lt 4000 labels_all || tail) (sym count_is)
    ∙ ap (λ n. nat_lt 500 count || nat_lt 4000 n || tail) (sym labels_is)
    ∙ ap (λ n. nat_lt 500 count || nat_lt 4000 labels || (nat_le n 4000 && nat_lt 4000 (items_above + items_taken s.stmt))) (sym before_is)
    ∙ ap (λ n. nat_lt 500 count || nat_lt 4000 labels || (nat_le before 4000 && nat_lt 4000 n)) (sym items_is)
