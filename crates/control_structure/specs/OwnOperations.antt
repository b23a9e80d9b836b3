-- The operations of a statement, told of the statement itself.
use Rattle.std.specs.Prelude.{ℕ, ◌+◌, Bool, List, sum_by}
use Rattle.f77_tree.specs.declared.programs.NameInfo.{NameInfo}
use Rattle.f77_tree.specs.declared.statements.RawExpr.{RawExpr}
use Rattle.f77_tree.specs.declared.statements.RawItem.{RawItem}
use Rattle.f77_tree.specs.declared.statements.Stmt.{Stmt, more_of-Stmt}
use Rattle.f77_tree.specs.declared.statements.Stmt.TheVariants.{Assign, Print, Take, PickGoTo, SignIf, ThenIf', BlockIf, ElseIf, Do}
use Rattle.f77_tree.specs.Kinds.{taken_as}
use Rattle.f77_tree.specs.Operations.{operations, access_operations, item_operations}
use Rattle.layout_rules.specs.Types.{kind_in}
use Rattle.layout_rules.specs.Resolved.{resolved, resolved_item, resolved_step, access_of}
use Rattle.layout_rules.specs.Executables.{kind_or_integer}

-- an item of output over the table of names
abbrev pub printed_operations : List NameInfo → (checked : Bool) → RawItem → ℕ
printed_operations names checked item = item_operations (resolved_item names checked item)

-- an item of READ is stored, and taken as a value of its kind
abbrev pub target_operations : List NameInfo → (checked : Bool) → RawExpr → ℕ
target_operations names checked target =
    access_operations (access_of names checked target)
    + operations (taken_as (kind_or_integer (kind_in names target)))

-- the operations of a statement without the increments of the DOs that end at it
abbrev pub own_operations : List NameInfo → (checked : Bool) → Stmt → ℕ
own_operations names checked (Assign target value) = access_operations (access_of names checked target) + operations (resolved names checked value)
own_operations names checked (Print items) = sum_by (printed_operations names checked) items
own_operations names checked (Take targets) = sum_by (target_operations names checked) targets
own_operations names checked (PickGoTo labels e) = 1 + operations (resolved names checked e)
own_operations names checked (SignIf e negative zero positive) = 1 + operations (resolved names checked e)
own_operations names checked (ThenIf' condition shape (more_of-Stmt stmt rest)) =
    1 + operations (resolved names checked condition) + own_operations names checked stmt
own_operations names checked (BlockIf condition) = 1 + operations (resolved names checked condition)
own_operations names checked (ElseIf condition) = 1 + operations (resolved names checked condition)
own_operations names checked (Do label variable first last step) =
    4 + operations (resolved names checked first) + operations (resolved names checked last) + operations (resolved_step names checked step)
own_operations names checked _ = 0
