-- The executables of a program, statement by statement, and where control goes from each (ANSI X3.9-1978, section 11).
use Rattle.std.specs.Prelude.{ℕ, ◌+◌, ◌-◌, Bool, true, false, if◌then◌else◌, ◌&&◌, nat_lt, ◌==◌, List, [], ◌∷◌, ◌++◌, length, map, flat_map, filter, sum_by, reverse, take, drop, Option, Some, None, slice_get}
use Rattle.std.specs.List.{range_with_len}
use Rattle.f77_tree.specs.declared.declarations.Kind.{Kind}
use Rattle.f77_tree.specs.declared.declarations.Kind.TheVariants.{Integer}
use Rattle.f77_tree.specs.declared.programs.ExecKind.{ExecKind}
use Rattle.f77_tree.specs.declared.programs.ExecKind.TheVariants.{Assign as Assigned, Print as Printed, Pass, Test, Sign, Pick, DoStart, DoNext, End as Ended}
use Rattle.f77_tree.specs.declared.programs.Exec.{Exec}
use Rattle.f77_tree.specs.declared.statements.Labelled.{Labelled}
use Rattle.f77_tree.specs.declared.statements.RawExpr.{RawExpr}
use Rattle.f77_tree.specs.declared.statements.Stmt.{Stmt, more_of-Stmt}
use Rattle.f77_tree.specs.declared.statements.Stmt.TheVariants.{Assign, Print, Take, Continue, Stop, GoTo, PickGoTo, SignIf, ThenIf', BlockIf, ElseIf, Else, EndIf, Do, End}
use Rattle.f77_tree.specs.declared.programs.NameInfo.{NameInfo}
use Rattle.f77_tree.specs.Declarations.{index_of}
use Rattle.f77_tree.specs.Kinds.{taken_as}
use Rattle.layout_rules.specs.Types.{kind_in}
use Rattle.layout_rules.specs.Resolved.{resolved, resolved_item, resolved_step, access_of}
use Rattle.layout_rules.specs.Labels.{statement_of, is_executable, is_arm}
use Rattle.layout_rules.specs.Jumps.{end_of_block, end_of_arm}

-- ---- places of executables

-- how many executables a statement has of its own: a logical IF has a test and those of the statement after it, READ one for
-- each item, and ELSE none
abbrev pub own_executables : Stmt → ℕ
own_executables (ThenIf' condition shape (more_of-Stmt stmt rest)) = 1 + own_executables stmt
own_executables (Take targets) = length targets
own_executables Else = 0
own_executables stmt = if is_executable stmt then 1 else 0

abbrev pub is_do_to : ℕ → Stmt → Bool
is_do_to label (Do terminal variable first last step) = terminal == label
is_do_to label _ = false

abbrev pub is_do_in : ℕ → Option Labelled → Bool
is_do_in label None = false
is_do_in label (Some s) = is_do_to label s.stmt

-- the places of the DOs above this place whose ranges end at the statement with the label, in the order of the text
abbrev pub loops_above : List Labelled → (label place : ℕ) → List ℕ
loops_above stmts label place = filter (λ d. is_do_in label (slice_get stmts d)) (range_with_len 0 place)

-- the DOs whose ranges end at the statement with the label, the innermost first
abbrev pub loops_to : List Labelled → (label : ℕ) → List ℕ
loops_to stmts label = reverse (loops_above stmts label (length stmts))

-- how many executables a statement has, with the increments of the DOs that end at it
abbrev pub executables_with_ends : List Labelled → Labelled → ℕ
executables_with_ends stmts s = own_executables s.stmt + length (loops_to stmts s.label)

-- the index of the first executable of the statement at this place
abbrev pub first_of : List Labelled → ℕ → ℕ
first_of stmts place = sum_by (executables_with_ends stmts) (take place stmts)

-- ---- where control goes

-- the executable that control comes to where it falls to the statements at this place and after it: declarations, DATA too,
-- are passed over, and an ELSE IF or ELSE leads to the END IF
abbrev pub met_after : (whole stmts : List Labelled) → (place : ℕ) → ℕ
met_after whole [] place = first_of whole place
met_after whole (s ∷ rest) place =
    if is_arm s.stmt then first_of whole (end_of_block whole place)
    else if is_executable s.stmt then first_of whole place
    else met_after whole rest (place + 1)

abbrev pub met : List Labelled → ℕ → ℕ
met stmts place = met_after stmts (drop place stmts) place

-- the executable of the statement with this label
abbrev pub labelled : List Labelled → ℕ → ℕ
labelled stmts label = first_of stmts (statement_of stmts label)

-- where control goes after the statement at this place: to the increment of the innermost DO that ends there, else on
abbrev pub beyond : List Labelled → ℕ → Labelled → ℕ
beyond stmts place s =
    if nat_lt 0 (length (loops_to stmts s.label)) then first_of stmts place + own_executables s.stmt
    else met stmts (place + 1)

abbrev pub is_else_at : Option Labelled → Bool
is_else_at None = false
is_else_at (Some s) = is_arm s.stmt && (own_executables s.stmt == 0)

-- where a false condition of the IF or ELSE IF at this place leads: to the next ELSE IF or END IF, or after the ELSE
abbrev pub when_false : List Labelled → ℕ → ℕ
when_false stmts place =
    if is_else_at (slice_get stmts (end_of_arm stmts place)) then met stmts (end_of_arm stmts place + 1)
    else first_of stmts (end_of_arm stmts place)

-- ---- DO loops, numbered from 0 in the order of the text

abbrev pub is_do : Stmt → Bool
is_do (Do label variable first last step) = true
is_do _ = false

-- the number of the DO at this place
abbrev pub loop_number : List Labelled → ℕ → ℕ
loop_number stmts place = length (filter (λ s. is_do s.stmt) (take place stmts))

-- where control goes at the end of a DO whose increment is this executable: to the increment of the next DO that ends at the same
-- statement, or after the statement
abbrev pub exit_after : List Labelled → (terminal : ℕ) → (increment : ℕ) → (outer : List ℕ) → ℕ
exit_after stmts terminal increment [] = met stmts (terminal + 1)
exit_after stmts terminal increment (d ∷ outer) = increment + 1

-- the executable that increments the DO d, of those that end at a statement, from the innermost; the first of them has this one
abbrev pub exit_among : List Labelled → (terminal : ℕ) → (increment : ℕ) → List ℕ → (d : ℕ) → ℕ
exit_among stmts terminal increment [] d = met stmts (terminal + 1)
exit_among stmts terminal increment (inner ∷ outer) d =
    if inner == d then exit_after stmts terminal increment outer
    else exit_among stmts terminal (increment + 1) outer d

abbrev pub increments_at : List Labelled → (terminal : ℕ) → Option Labelled → ℕ
increments_at stmts terminal None = first_of stmts terminal
increments_at stmts terminal (Some s) = first_of stmts terminal + own_executables s.stmt

-- the executable that increments the innermost DO that ends at the statement at this place
abbrev pub first_increment : List Labelled → (terminal : ℕ) → ℕ
first_increment stmts terminal = increments_at stmts terminal (slice_get stmts terminal)

-- where control goes after the DO at the place d
abbrev pub exit_of : List Labelled → (label d : ℕ) → ℕ
exit_of stmts label d = exit_among stmts (statement_of stmts label) (first_increment stmts (statement_of stmts label)) (loops_to stmts label) d

-- ---- executables

abbrev pub kind_or_integer : Option Kind → Kind
kind_or_integer None = Integer
kind_or_integer (Some kind) = kind

-- READ assigns the next word of the data to an item
abbrev pub taken : List NameInfo → (checked : Bool) → RawExpr → (next : ℕ) → ExecKind
taken names checked target next = Assigned (access_of names checked target) (taken_as (kind_or_integer (kind_in names target))) next

-- and the next words to its items, one after another
abbrev pub taking : List NameInfo → (checked : Bool) → (index next : ℕ) → List RawExpr → List ExecKind
taking names checked index next [] = []
taking names checked index next (target ∷ []) = taken names checked target next ∷ []
taking names checked index next (target ∷ another ∷ rest) =
    taken names checked target (index + 1) ∷ taking names checked (index + 1) next (another ∷ rest)

-- the executables of the statement at this place, of which the first has this index, where control goes on to `next`
abbrev pub own_kinds : List NameInfo → (checked : Bool) → (whole : List Labelled) → (place index next : ℕ) → Stmt → List ExecKind
own_kinds names checked whole place index next (Assign target value) =
    Assigned (access_of names checked target) (resolved names checked value) next ∷ []
own_kinds names checked whole place index next (Print items) = Printed (map (resolved_item names checked) items) next ∷ []
own_kinds names checked whole place index next (Take targets) = taking names checked index next targets
own_kinds names checked whole place index next Continue = Pass next ∷ []
own_kinds names checked whole place index next EndIf = Pass next ∷ []
own_kinds names checked whole place index next Stop = Pass (first_of whole (length whole - 1)) ∷ []
own_kinds names checked whole place index next (GoTo label) = Pass (labelled whole label) ∷ []
own_kinds names checked whole place index next (PickGoTo labels e) = Pick (resolved names checked e) (map (labelled whole) labels) next ∷ []
own_kinds names checked whole place index next (SignIf e negative zero positive) =
    Sign (resolved names checked e) (labelled whole negative) (labelled whole zero) (labelled whole positive) ∷ []
own_kinds names checked whole place index next (ThenIf' condition shape (more_of-Stmt stmt rest)) =
    Test (resolved names checked condition) (index + 1) next ∷ own_kinds names checked whole place (index + 1) next stmt
own_kinds names checked whole place index next (BlockIf condition) =
    Test (resolved names checked condition) (met whole (place + 1)) (when_false whole place) ∷ []
own_kinds names checked whole place index next (ElseIf condition) =
    Test (resolved names checked condition) (met whole (place + 1)) (when_false whole place) ∷ []
own_kinds names checked whole place index next (Do label variable first last step) =
    DoStart (loop_number whole place) (index_of names variable) (resolved names checked first) (resolved names checked last)
    (resolved_step names checked step) (index + 1) (exit_of whole label place)
    ∷ []
own_kinds names checked whole place index next End = Ended ∷ []
own_kinds names checked whole place index next _ = []

abbrev pub do_variable : Stmt → List ℕ
do_variable (Do label variable first last step) = variable
do_variable _ = []

abbrev pub variable_of : Option Labelled → List ℕ
variable_of None = []
variable_of (Some s) = do_variable s.stmt

-- the increments of the DOs that end at the statement at this place, of which the first has this index
abbrev pub increments : List NameInfo → (whole : List Labelled) → (place index : ℕ) → List ℕ → List ExecKind
increments names whole place index [] = []
increments names whole place index (d ∷ outer) =
    DoNext (loop_number whole d) (index_of names (variable_of (slice_get whole d))) (first_of whole d + 1) (exit_after whole place index outer)
    ∷ increments names whole place (index + 1) outer

abbrev pub kinds_at : List NameInfo → (checked : Bool) → (whole : List Labelled) → (place : ℕ) → Labelled → List ExecKind
kinds_at names checked whole place s =
    own_kinds names checked whole place (first_of whole place) (beyond whole place s) s.stmt
    ++ increments names whole place (first_of whole place + own_executables s.stmt) (loops_to whole s.label)

abbrev pub at_line : (line : ℕ) → List ExecKind → List Exec
at_line line kinds = map (λ kind. record { line = line; kind = kind }) kinds

-- the executables of the statement at this place; each has its line
abbrev pub executables_at : List NameInfo → (checked : Bool) → (whole : List Labelled) → (place : ℕ) → Labelled → List Exec
executables_at names checked whole place s = at_line s.line (kinds_at names checked whole place s)

abbrev pub executables_if_any : List NameInfo → (checked : Bool) → (whole : List Labelled) → (place : ℕ) → Option Labelled → List Exec
executables_if_any names checked whole place None = []
executables_if_any names checked whole place (Some s) = executables_at names checked whole place s

-- all executables, in the order of the text
abbrev pub executables : List NameInfo → (checked : Bool) → List Labelled → List Exec
executables names checked whole =
    flat_map (λ place. executables_if_any names checked whole place (slice_get whole place)) (range_with_len 0 (length whole))
