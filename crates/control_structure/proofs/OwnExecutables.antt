-- How many executables a statement has of its own.
use Rattle.std.proofs.Common.{◌≡◌, ℕ, ◌+◌, Bool, List, ◌∷◌, refl, ◌<◌, min, [], length, take, get_or, sym, ap, ◌∙◌, arith}
use Rattle.std.specs.Prelude.{sum_by}
use Rattle.std.proofs.lemmas.List.Sums.{sum_by_more, sum_by-cons}
use Rattle.f77_tree.specs.declared.programs.ExecKind.TheVariants.{Test}
use Rattle.f77_tree.specs.declared.programs.NameInfo.{NameInfo}
use Rattle.f77_tree.specs.declared.statements.Labelled.{Labelled}
use Rattle.f77_tree.specs.declared.statements.RawExpr.{RawExpr}
use Rattle.f77_tree.specs.declared.statements.Stmt.{Stmt}
use Rattle.f77_tree.specs.declared.statements.Stmt.TheVariants.{ThenIf}
use Rattle.layout_rules.specs.Resolved.{resolved}
use Rattle.layout_rules.specs.Executables.{own_executables, own_kinds}
use Rattle.layout_rules.specs.Tables.{is_simple, has_simple_inner}
use Rattle.op_table.specs.declared.Op.TheVariants.{Truth}
use Rattle.f77_tree.specs.declared.expressions.Expr.TheVariants.{Input, Apply}
use Rattle.f77_tree.specs.Operations.{operations}
use Rattle.f77_tree.proofs.OperationLaws.{operations-Apply}
use Rattle.layout_rules.specs.Counts.{labels_picked, items_taken}
use Rattle.control_structure.specs.Counted.{counted}
use Rattle.control_structure.specs.OwnOperations.{own_operations}

-- a condition has a test
pub guarded_own : (condition : RawExpr) (stmt : Stmt) → own_executables (ThenIf condition stmt) ≡ 1 + own_executables stmt
unfolding Rattle.f77_tree.specs.declared.statements.Stmt.TheBlock.hidden-the_row-Stmt-0 denote.Hole.Carrier.hidden
guarded_own condition stmt = refl

pub guarded_simple : (condition : RawExpr) (stmt : Stmt) → has_simple_inner (ThenIf condition stmt) ≡ is_simple stmt
unfolding Rattle.f77_tree.specs.declared.statements.Stmt.TheBlock.hidden-the_row-Stmt-0 denote.Hole.Carrier.hidden
guarded_simple condition stmt = refl

pub guarded_kinds : (names : List NameInfo) (checked : Bool) (whole : List Labelled) (place index next : ℕ) (condition : RawExpr) (stmt : Stmt) → own_kinds names checked whole place index next (ThenIf condition stmt) ≡ Test (resolved names checked condition) (index + 1) next ∷ own_kinds names checked whole place (index + 1) next stmt
unfolding Rattle.f77_tree.specs.declared.statements.Stmt.TheBlock.hidden-the_row-Stmt-0 denote.Hole.Carrier.hidden
guarded_kinds names checked whole place index next condition stmt = refl

-- ---- the operations, labels and items of statements

pub guarded_labels : (condition : RawExpr) (stmt : Stmt) → labels_picked (ThenIf condition stmt) ≡ labels_picked stmt
unfolding Rattle.f77_tree.specs.declared.statements.Stmt.TheBlock.hidden-the_row-Stmt-0 denote.Hole.Carrier.hidden
guarded_labels condition stmt = refl

pub guarded_items : (condition : RawExpr) (stmt : Stmt) → items_taken (ThenIf condition stmt) ≡ items_taken stmt
unfolding Rattle.f77_tree.specs.declared.statements.Stmt.TheBlock.hidden-the_row-Stmt-0 denote.Hole.Carrier.hidden
guarded_items condition stmt = refl

pub guarded_operations : (names : List NameInfo) (checked : Bool) (condition : RawExpr) (stmt : Stmt) → own_operations names checked (ThenIf condition stmt) ≡ 1 + operations (resolved names checked condition) + own_operations names checked stmt
unfolding Rattle.f77_tree.specs.declared.statements.Stmt.TheBlock.hidden-the_row-Stmt-0 denote.Hole.Carrier.hidden
guarded_operations names checked condition stmt = refl

-- a logical item takes one operator more
pub taken_logical : 2 ≡ operations (Apply Truth (Input ∷ []))
taken_logical =
    let whole = operations-Apply Truth (Input ∷ []) in
    let one = sum_by-cons operations Input [] in
    omega (arith, whole, one)

-- one term more
pub sum-more : {X : Type 0} (f : X → ℕ) (xs : List X) (i : ℕ) (x : X) → i < length xs → x ≡ get_or xs i x → sum_by f (take (i + 1) xs) ≡ sum_by f (take i xs) + f x
sum-more f xs i x inside is = sum_by_more f xs i x inside ∙ ap (λ y. sum_by f (take i xs) + f y) (sym is)

-- one count more
pub counted-more : {X : Type 0} (f : X → ℕ) (xs : List X) (i : ℕ) (x : X) (count here result : ℕ) → i < length xs → x ≡ get_or xs i x → count ≡ counted (sum_by f (take i xs)) → here ≡ counted (f x) → result ≡ min (count + here) 4294967295 → result ≡ counted (sum_by f (take (i + 1) xs))
counted-more f xs i x count here result inside is count_is here_is result_is = omega (arith, sum-more f xs i x inside is)
