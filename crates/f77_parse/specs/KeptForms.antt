-- What the code keeps of the forms of statements.
use Rattle.std.specs.Prelude.{ℕ, Bool, if◌then◌else◌, nat_lt, List, [], ◌∷◌, length, codes, take_while, Option, Some, None}
use Rattle.std.specs.Str.{bytes_eq}
use Rattle.f77_tree.specs.declared.declarations.Kind.TheVariants.{Integer, Logical}
use Rattle.f77_tree.specs.declared.statements.RawExpr.{RawExpr, items-the_row-RawExpr}
use Rattle.f77_tree.specs.declared.statements.RawExpr.TheVariants.{Call'}
use Rattle.f77_tree.specs.declared.statements.Stmt.{Stmt}
use Rattle.f77_tree.specs.declared.statements.Stmt.TheVariants.{Program, Implicit, ImplicitNone, TypeOf, Dimension, Common, Equivalence, Init, Assign, Print, Take, Continue, Stop, GoTo, PickGoTo, SignIf, ThenIf, BlockIf, ElseIf, Else, EndIf, Do, Sub, CallTo, Back, End}
use Rattle.f77_tree.specs.Name.{is_figure}
use Rattle.f77_expr.specs.Reader.{after_prefix}
use Rattle.f77_parse.specs.Keeping.{Keeps, keep_then, where_prefix, skipped, kept_list, kept_parts, kept_ranges, wanted, begins, name_kept, few_digits_kept, expression_kept, label_kept, decl_kept, arrays_kept, first_part_kept, part_kept, group_kept, init_part_kept, next_init_part_kept, variable_kept, names_kept, character_constant_kept, item_kept}

-- a statement of what was read
abbrev pub as_stmt : {V : Type 0} → (V → Stmt) → Keeps V → Keeps Stmt
as_stmt f keeps = keep_then keeps (λ v bad rest. Some (f v, bad, rest))

unfoldable pub step_kept : Bool → List ℕ → Keeps (Option RawExpr)
step_kept bad text =
    where_prefix (after_prefix (codes ",") text)
    (λ beyond. keep_then (expression_kept bad beyond) (λ e bad_now rest. Some (Some e, bad_now, rest)))
    (Some (None, bad, text))

-- the bounds of a DO after its variable
unfoldable pub bounds_kept : (label : ℕ) → (variable : List ℕ) → Bool → List ℕ → Keeps Stmt
bounds_kept label variable bad text =
    keep_then (wanted (codes "=") bad text) (λ found bad_1 text_1.
    keep_then (expression_kept bad_1 text_1) (λ first bad_2 text_2.
    keep_then (wanted (codes ",") bad_2 text_2) (λ comma bad_3 text_3.
    keep_then (expression_kept bad_3 text_3) (λ last bad_4 text_4.
    as_stmt (λ step. Do label variable first last step) (step_kept bad_4 text_4)))))

unfoldable pub do_kept : Bool → List ℕ → Keeps Stmt
do_kept bad text =
    keep_then (wanted (codes "DO") bad text) (λ found bad_1 text_1.
    keep_then (label_kept bad_1 text_1) (λ label bad_2 text_2.
    keep_then (name_kept bad_2 (skipped (after_prefix (codes ",") text_2) text_2)) (λ variable bad_3 text_3.
    bounds_kept label variable bad_3 text_3)))

unfoldable pub assigned_kept : RawExpr → Bool → List ℕ → Keeps Stmt
assigned_kept target bad text =
    keep_then (wanted (codes "=") bad text) (λ found bad_now rest. as_stmt (λ value. Assign target value) (expression_kept bad_now rest))

unfoldable pub conditional_kept : RawExpr → Bool → List ℕ → Keeps Stmt
conditional_kept condition bad text =
    keep_then (variable_kept bad text) (λ target bad_now rest. as_stmt (λ stmt. ThenIf condition stmt) (assigned_kept target bad_now rest))

-- the item of a list that has one
abbrev pub the_only : List RawExpr → Option RawExpr
the_only (e ∷ []) = Some e
the_only _ = None

-- the condition of an IF that was read as an array element with one subscript
abbrev pub condition_in : RawExpr → Option RawExpr
condition_in (Call' name shape subs) = if bytes_eq name (codes "IF") then the_only (items-the_row-RawExpr _ subs) else None
condition_in _ = None

-- after the condition of an IF, where it is one
abbrev pub after_if_kept : Option RawExpr → Bool → List ℕ → Keeps Stmt
after_if_kept None bad text = None
after_if_kept (Some condition) bad text = conditional_kept condition bad text

unfoldable pub assignment_kept : Bool → List ℕ → Keeps Stmt
assignment_kept bad text =
    keep_then (variable_kept bad text) (λ target bad_now rest.
    if begins 61 rest then assigned_kept target bad_now rest else after_if_kept (condition_in target) bad_now rest)

unfoldable pub sign_labels_kept : RawExpr → Bool → List ℕ → Keeps Stmt
sign_labels_kept condition bad text =
    keep_then (label_kept bad text) (λ negative bad_1 text_1.
    keep_then (wanted (codes ",") bad_1 text_1) (λ found bad_2 text_2.
    keep_then (label_kept bad_2 text_2) (λ zero_label bad_3 text_3.
    keep_then (wanted (codes ",") bad_3 text_3) (λ found_too bad_4 text_4.
    as_stmt (λ positive. SignIf condition negative zero_label positive) (label_kept bad_4 text_4)))))

-- one of two, by whether anything is left
abbrev pub at_end : {V : Type 0} → List ℕ → Keeps V → Keeps V → Keeps V
at_end [] here others = here
at_end (c ∷ text) here others = others

unfoldable pub stop_kept : Bool → List ℕ → Keeps Stmt
stop_kept bad text =
    at_end text (Some (Stop, bad, []))
    (if begins 39 text then as_stmt (λ characters. Stop) (character_constant_kept bad text) else as_stmt (λ digits. Stop) (few_digits_kept bad text))

unfoldable pub go_to_kept : Bool → List ℕ → Keeps Stmt
go_to_kept bad text =
    where_prefix (after_prefix (codes "(") text)
    (λ inside. keep_then (kept_list label_kept bad inside) (λ labels bad_1 text_1.
    keep_then (wanted (codes ")") bad_1 text_1) (λ found bad_2 text_2.
    as_stmt (λ index. PickGoTo labels index) (expression_kept bad_2 (skipped (after_prefix (codes ",") text_2) text_2)))))
    (as_stmt (λ label. GoTo label) (label_kept bad text))

unfoldable pub items_after_kept : Bool → List ℕ → Keeps Stmt
items_after_kept bad text =
    at_end text (Some (Print [], bad, []))
    (keep_then (wanted (codes ",") bad text) (λ found bad_now rest. as_stmt (λ items. Print items) (kept_list item_kept bad_now rest)))

unfoldable pub items_or_none_kept : Bool → List ℕ → Keeps Stmt
items_or_none_kept bad text = at_end text (Some (Print [], bad, [])) (as_stmt (λ items. Print items) (kept_list item_kept bad text))

unfoldable pub targets_kept : Bool → List ℕ → Keeps Stmt
targets_kept bad text = as_stmt (λ targets. Take targets) (kept_list variable_kept bad text)

unfoldable pub call_kept : Bool → List ℕ → Keeps Stmt
call_kept bad text = keep_then (name_kept bad text) (λ name bad_now rest. as_stmt (λ arguments. CallTo name arguments) (names_kept bad_now rest))

unfoldable pub subroutine_kept : Bool → List ℕ → Keeps Stmt
subroutine_kept bad text = keep_then (name_kept bad text) (λ name bad_now rest. as_stmt (λ dummies. Sub name dummies) (names_kept bad_now rest))

-- output or input
unfoldable pub transfer_kept : Bool → List ℕ → Keeps Stmt
transfer_kept bad text =
    where_prefix (after_prefix (codes "PRINT*") text) (λ rest. items_after_kept bad rest)
    (where_prefix (after_prefix (codes "WRITE(*,*)") text) (λ rest. items_or_none_kept bad rest)
    (where_prefix (after_prefix (codes "WRITE(6,*)") text) (λ rest. items_or_none_kept bad rest)
    (where_prefix (after_prefix (codes "READ*,") text) (λ rest. targets_kept bad rest)
    (where_prefix (after_prefix (codes "READ(*,*)") text) (λ rest. targets_kept bad rest)
    (where_prefix (after_prefix (codes "READ(5,*)") text) (λ rest. targets_kept bad rest)
    None)))))

unfoldable pub simple_kept : Bool → List ℕ → Keeps Stmt
simple_kept bad text =
    where_prefix (after_prefix (codes "CONTINUE") text) (λ rest. Some (Continue, bad, rest))
    (where_prefix (after_prefix (codes "STOP") text) (λ rest. stop_kept bad rest)
    (where_prefix (after_prefix (codes "GOTO") text) (λ rest. go_to_kept bad rest)
    (where_prefix (after_prefix (codes "CALL") text) (λ rest. call_kept bad rest)
    (where_prefix (after_prefix (codes "RETURN") text) (λ rest. Some (Back, bad, rest))
    (transfer_kept bad text)))))

unfoldable pub condition_kept : Bool → List ℕ → Keeps RawExpr
condition_kept bad text =
    keep_then (expression_kept bad text) (λ e bad_now rest. keep_then (wanted (codes ")") bad_now rest) (λ found bad_then more. Some (e, bad_then, more)))

unfoldable pub guarded_kept : Bool → List ℕ → Keeps Stmt
guarded_kept bad text =
    where_prefix (after_prefix (codes "IF(") text)
    (λ inside. keep_then (condition_kept bad inside) (λ inner bad_now rest. sign_labels_kept inner bad_now rest))
    (simple_kept bad text)

unfoldable pub if_kept : Bool → List ℕ → Keeps Stmt
if_kept bad text =
    keep_then (condition_kept bad text) (λ condition bad_now rest.
    if nat_lt 0 (length (take_while is_figure rest)) then sign_labels_kept condition bad_now rest
    else where_prefix (after_prefix (codes "THEN") rest) (λ more. Some (BlockIf condition, bad_now, more))
    (as_stmt (λ stmt. ThenIf condition stmt) (guarded_kept bad_now rest)))

unfoldable pub else_if_kept : Bool → List ℕ → Keeps Stmt
else_if_kept bad text =
    keep_then (condition_kept bad text) (λ condition bad_now rest. as_stmt (λ found. ElseIf condition) (wanted (codes "THEN") bad_now rest))

-- ---- by the keyword

unfoldable pub executable_kept : Bool → List ℕ → Keeps Stmt
executable_kept bad text =
    where_prefix (after_prefix (codes "ENDIF") text) (λ rest. Some (EndIf, bad, rest))
    (where_prefix (after_prefix (codes "END") text) (λ rest. Some (End, bad, rest))
    (where_prefix (after_prefix (codes "ELSEIF(") text) (λ rest. else_if_kept bad rest)
    (where_prefix (after_prefix (codes "ELSE") text) (λ rest. Some (Else, bad, rest))
    (where_prefix (after_prefix (codes "IF(") text) (λ rest. if_kept bad rest)
    (simple_kept bad text)))))

unfoldable pub storage_kept : Bool → List ℕ → Keeps Stmt
storage_kept bad text =
    where_prefix (after_prefix (codes "DIMENSION") text) (λ rest. as_stmt (λ decls. Dimension decls) (arrays_kept bad rest))
    (where_prefix (after_prefix (codes "COMMON") text) (λ rest. as_stmt (λ parts. Common parts) (kept_parts first_part_kept part_kept bad rest))
    (where_prefix (after_prefix (codes "EQUIVALENCE") text) (λ rest. as_stmt (λ groups. Equivalence groups) (kept_list group_kept bad rest))
    (where_prefix (after_prefix (codes "DATA") text) (λ rest. as_stmt (λ parts. Init parts) (kept_parts init_part_kept next_init_part_kept bad rest))
    (executable_kept bad text))))

unfoldable pub keyword_kept : Bool → List ℕ → Keeps Stmt
keyword_kept bad text =
    where_prefix (after_prefix (codes "PROGRAM") text) (λ rest. as_stmt (λ name. Program) (name_kept bad rest))
    (where_prefix (after_prefix (codes "SUBROUTINE") text) (λ rest. subroutine_kept bad rest)
    (where_prefix (after_prefix (codes "IMPLICITNONE") text) (λ rest. Some (ImplicitNone, bad, rest))
    (where_prefix (after_prefix (codes "IMPLICIT") text) (λ rest. as_stmt (λ ranges. Implicit ranges) (kept_ranges bad rest))
    (where_prefix (after_prefix (codes "INTEGER") text) (λ rest. as_stmt (λ decls. TypeOf Integer decls) (kept_list decl_kept bad rest))
    (where_prefix (after_prefix (codes "LOGICAL") text) (λ rest. as_stmt (λ decls. TypeOf Logical decls) (kept_list decl_kept bad rest))
    (storage_kept bad text))))))

-- ---- whole statements

unfoldable pub equated_kept : (has_comma : Bool) → Bool → List ℕ → Keeps Stmt
equated_kept has_comma bad text = if has_comma then do_kept bad text else assignment_kept bad text

unfoldable pub form_kept : (has_equals has_comma : Bool) → Bool → List ℕ → Keeps Stmt
form_kept has_equals has_comma bad text = if has_equals then equated_kept has_comma bad text else keyword_kept bad text

-- what is kept, where nothing is left
abbrev pub kept_whole : {V : Type 0} → Keeps V → Keeps V
kept_whole keeps = keep_then keeps (λ v bad rest. at_end rest (Some (v, bad, [])) None)
