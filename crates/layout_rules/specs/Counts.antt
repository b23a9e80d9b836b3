-- How much a program and each of its statements may ask.
use Rattle.std.specs.Prelude.{ℕ, ◌+◌, Bool, ◌&&◌, ◌||◌, nat_le, nat_lt, List, length, sum_by}
use Rattle.f77_tree.specs.declared.statements.Labelled.{Labelled}
use Rattle.f77_tree.specs.declared.statements.Stmt.{Stmt, more_of-Stmt}
use Rattle.f77_tree.specs.declared.statements.Stmt.TheVariants.{Take, PickGoTo, ThenIf'}
use Rattle.f77_tree.specs.declared.programs.NameInfo.{NameInfo}
use Rattle.f77_tree.specs.Operations.{statement_operations}
use Rattle.layout_rules.specs.Executables.{executables_at}

-- the labels of a computed GO TO
abbrev pub labels_picked : Stmt → ℕ
labels_picked (PickGoTo labels index) = length labels
labels_picked (ThenIf' condition shape (more_of-Stmt stmt rest)) = labels_picked stmt
labels_picked _ = 0

-- the items of READ
abbrev pub items_taken : Stmt → ℕ
items_taken (Take targets) = length targets
items_taken (ThenIf' condition shape (more_of-Stmt stmt rest)) = items_taken stmt
items_taken _ = 0

-- the statement takes more than 500 operations
abbrev pub takes_many_operations : List NameInfo → (checked : Bool) → (whole above : List Labelled) → Labelled → Bool
takes_many_operations names checked whole above s = nat_lt 500 (statement_operations (executables_at names checked whole (length above) s))

-- there are more than 4,000 labels in computed GO TO up to and with the statement
abbrev pub picks_many_labels : (above : List Labelled) → Labelled → Bool
picks_many_labels above s = nat_lt 4000 (sum_by (λ a. labels_picked a.stmt) above + labels_picked s.stmt)

-- there are more than 4,000 items of READ up to and with the statement
abbrev pub takes_many_items : (above : List Labelled) → Labelled → Bool
takes_many_items above s = nat_lt 4000 (sum_by (λ a. items_taken a.stmt) above + items_taken s.stmt)

-- more than 500 operations, or more than 4,000 labels in computed GO TO up to and with the statement, or it is the one with
-- which the items of READ become more than 4,000
abbrev pub is_too_great : List NameInfo → (checked : Bool) → (whole above : List Labelled) → Labelled → Bool
is_too_great names checked whole above s =
    takes_many_operations names checked whole above s
    || picks_many_labels above s
    || (nat_le (sum_by (λ a. items_taken a.stmt) above) 4000 && takes_many_items above s)

-- more than 500 operations, or more than 4,000 labels in computed GO TO or items of READ up to and with the statement
abbrev pub asks_too_much : List NameInfo → (checked : Bool) → (whole above : List Labelled) → Labelled → Bool
asks_too_much names checked whole above s = takes_many_operations names checked whole above s || picks_many_labels above s || takes_many_items above s
