-- The nesting of DO loops and blocks of IF: the statements are walked with a stack of what is open, the innermost first (ANSI
-- X3.9-1978, sections 11.6 to 11.10). An entry of the stack may tell more than what is open, as the place where it begins: `kind` is
-- what it tells of that, and `entry` makes one for what a statement opens.
use Rattle.std.specs.Prelude.{ℕ, Bool, true, false, if◌then◌else◌, ◌&&◌, ◌==◌, List, [], ◌∷◌, Option, Some, None}
use Rattle.std.specs.List.{list_any}
use Rattle.f77_tree.specs.declared.statements.Labelled.{Labelled}
use Rattle.layout_rules.specs.declared.nesting.Opened.{Opened}
use Rattle.layout_rules.specs.declared.nesting.Opened.TheVariants.{Loop, Block}
use Rattle.layout_rules.specs.declared.nesting.Role.{Role}
use Rattle.layout_rules.specs.declared.nesting.Role.TheVariants.{Declaration, BeginLoop, BeginBlock, NextArm, LastArm, EndBlock, Finish, Leave, Plain}
use Rattle.layout_rules.specs.Roles.{role_of, is_no_end}

-- a loop whose range ends at the label
abbrev pub is_loop_to : (label : ℕ) → Opened → Bool
is_loop_to label (Loop terminal) = terminal == label
is_loop_to label (Block is_last) = false

abbrev pub has_loop_to : {E : Type 0} (kind : E → Opened) → (label : ℕ) → List E → Bool
has_loop_to kind label stack = list_any (λ e. is_loop_to label (kind e)) stack

-- without the loops on top that end at the label
abbrev pub without_loops : {E : Type 0} (kind : E → Opened) → (label : ℕ) → List E → List E
without_loops kind label [] = []
without_loops kind label (top ∷ rest) = if is_loop_to label (kind top) then without_loops kind label rest else top ∷ rest

-- ---- what is open after a statement; none where the statement isn't nested right

-- after a statement that may end loops; none where a loop to its label is still open
abbrev pub after_ends : {E : Type 0} (kind : E → Opened) → (label : ℕ) → List E → Option (List E)
after_ends kind label stack = if has_loop_to kind label stack then None else Some stack

-- after the IF, ELSE IF or ELSE of a new arm, in place of the arm on top, which is this
abbrev pub arm_in_place : {E : Type 0} (entry : Opened → E) → (is_last : Bool) → Opened → List E → Option (List E)
arm_in_place entry is_last (Block false) rest = Some (entry (Block is_last) ∷ rest)
arm_in_place entry is_last (Block true) rest = None
arm_in_place entry is_last (Loop terminal) rest = None

abbrev pub after_arm : {E : Type 0} (kind : E → Opened) (entry : Opened → E) → (is_last : Bool) → List E → Option (List E)
after_arm kind entry is_last [] = None
after_arm kind entry is_last (top ∷ rest) = arm_in_place entry is_last (kind top) rest

-- after END IF, where this is on top
abbrev pub after_block : {E : Type 0} → Opened → List E → Option (List E)
after_block (Block is_last) rest = Some rest
after_block (Loop terminal) rest = None

abbrev pub after_end_if : {E : Type 0} (kind : E → Opened) → List E → Option (List E)
after_end_if kind [] = None
after_end_if kind (top ∷ rest) = after_block (kind top) rest

-- nothing is open at END
abbrev pub if_nothing : {E : Type 0} → List E → Option (List E)
if_nothing [] = Some []
if_nothing (top ∷ rest) = None

abbrev pub after_role : {E : Type 0} (kind : E → Opened) (entry : Opened → E) → Role → (label : ℕ) → List E → Option (List E)
after_role kind entry Declaration label stack = Some stack
after_role kind entry (BeginLoop terminal) label stack = Some (entry (Loop terminal) ∷ stack)
after_role kind entry BeginBlock label stack = Some (entry (Block false) ∷ stack)
after_role kind entry NextArm label stack = after_arm kind entry false stack
after_role kind entry LastArm label stack = after_arm kind entry true stack
after_role kind entry EndBlock label stack = after_end_if kind stack
after_role kind entry Finish label stack = if_nothing stack
after_role kind entry Leave label stack = after_ends kind label (without_loops kind label stack)
after_role kind entry Plain label stack = after_ends kind label (without_loops kind label stack)

abbrev pub stack_after : {E : Type 0} (kind : E → Opened) (entry : Opened → E) → Role → (label : ℕ) → List E → Option (List E)
stack_after kind entry role label stack = if has_loop_to kind label stack && is_no_end role then None else after_role kind entry role label stack

-- ---- the walk with what is open and no more

abbrev pub itself : Opened → Opened
itself opened = opened

abbrev pub open_after : Labelled → List Opened → Option (List Opened)
open_after s stack = stack_after itself itself (role_of s.stmt) s.label stack

-- the line, or what comes of what is open after the statement
abbrev pub line_or : ℕ → Option (List Opened) → (List Opened → Option ℕ) → Option ℕ
line_or line None next = Some line
line_or line (Some stack) next = next stack

-- the line of the first statement that isn't nested right, where these are open
abbrev pub first_unnested : List Opened → List Labelled → Option ℕ
first_unnested stack [] = None
first_unnested stack (s ∷ rest) = line_or s.line (open_after s stack) (λ beyond. first_unnested beyond rest)
