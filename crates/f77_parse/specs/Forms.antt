-- Readers of whole statements, on lists: what the code computes. Whether an equals sign or a comma stands outside all brackets
-- and character constants, and else the keyword, tell the form.
use Rattle.std.specs.Prelude.{ℕ, Bool, false, not, ◌&&◌, ◌||◌, ◌==◌, if◌then◌else◌, nat_le, List, [], ◌∷◌, length, codes, Option, Some, None}
use Rattle.std.specs.List.{list_all}
use Rattle.std.specs.Str.{bytes_eq}
use Rattle.f77_tree.specs.declared.declarations.Kind.{Kind}
use Rattle.f77_tree.specs.declared.declarations.Kind.TheVariants.{Integer, Logical}
use Rattle.f77_tree.specs.Name.{is_figure}
use Rattle.f77_tree.specs.Grammar.{Written, Arguments}
use Rattle.f77_tree.specs.StatementGrammar.{WrittenStatement, WrittenStop, PrintForm, ReadForm, has_dims}
use Rattle.f77_expr.specs.Piece.{Open, nothing_open, open_after}
use Rattle.f77_expr.specs.Reader.{Reads, read_as, and_then_read, after_prefix}
use Rattle.f77_parse.specs.Parts.{after, then_prefix, where_it, number_at, name_at, names_at, list_at, bracketed_at, parts_to_end, letters_at, decl_at, first_part_at, part_at, group_at, data_after, data_at, comma_at, expression_at_start, variable_at, characters_at, item_at}

-- ---- what stands outside brackets and character constants

abbrev pub stands_free_from : Open → ℕ → List ℕ → Bool
stands_free_from open_now c [] = false
stands_free_from open_now c (d ∷ text) = ((d == c) && not open_now.quoted && (open_now.brackets == 0)) || stands_free_from (open_after open_now d) c text

-- a character stands outside all brackets and character constants
abbrev pub stands_free : ℕ → List ℕ → Bool
stands_free c text = stands_free_from nothing_open c text

-- ---- whole texts

-- what was read, where nothing is left
abbrev pub whole : {A : Type 0} → Reads A → Option A
whole None = None
whole (Some (a, [])) = Some a
whole (Some (a, c ∷ rest)) = None

-- ---- a comma and an equals sign stand free: DO

abbrev pub step_at : List ℕ → Reads (Option Written)
step_at [] = Some (None, [])
step_at (c ∷ text) = if c == 44 then read_as (λ w. Some w) (expression_at_start text) else Some (None, c ∷ text)

abbrev pub do_at : List ℕ → Reads WrittenStatement
do_at text = after (codes "DO") (λ after_do.
    and_then_read (λ label rest.
    let comma = comma_at rest in
    and_then_read (λ variable first_text.
    and_then_read (λ first last_text.
    and_then_read (λ last step_text.
    read_as (λ step. WrittenStatement.do_loop label comma.0 variable first last step) (step_at step_text))
    (after (codes ",") (λ next. expression_at_start next) last_text))
    (after (codes "=") (λ next. expression_at_start next) first_text))
    (name_at comma.1))
    (number_at after_do)) text

-- ---- an equals sign stands free, and no comma: an assignment, or one after IF

-- the value of an assignment
abbrev pub assigned_at : Written → List ℕ → Reads WrittenStatement
assigned_at target text = after (codes "=") (λ next. read_as (λ value. WrittenStatement.assignment target value) (expression_at_start next)) text

-- the condition of an IF that was read as an array element with one subscript
abbrev pub condition_of : Written → Option Written
condition_of (Written.call name (Arguments.last w)) = if bytes_eq name (codes "IF") then Some w else None
condition_of _ = None

abbrev pub conditional_at : List ℕ → Option Written → Reads WrittenStatement
conditional_at text None = None
conditional_at text (Some condition) = read_as (λ s. WrittenStatement.logical_if condition s) (and_then_read (λ target rest. assigned_at target rest) (variable_at text))

-- after a variable
abbrev pub equals_after : Written → List ℕ → Reads WrittenStatement
equals_after w [] = None
equals_after w (c ∷ text) = if c == 61 then assigned_at w (c ∷ text) else conditional_at (c ∷ text) (condition_of w)

abbrev pub equals_at : List ℕ → Reads WrittenStatement
equals_at text = and_then_read (λ w rest. equals_after w rest) (variable_at text)

-- ---- no equals sign stands free: the keyword tells the form

-- this form after its keyword, else what the others read
abbrev pub form_or : (List ℕ → Reads WrittenStatement) → Option (List ℕ) → Reads WrittenStatement → Reads WrittenStatement
form_or form None others = others
form_or form (Some rest) others = form rest

-- a form of which nothing but the keyword is written
abbrev pub alone : WrittenStatement → List ℕ → Reads WrittenStatement
alone s rest = Some (s, rest)

-- three labels
abbrev pub sign_labels_at : Written → List ℕ → Reads WrittenStatement
sign_labels_at w text =
    and_then_read (λ negative second.
    and_then_read (λ zero third.
    read_as (λ positive. WrittenStatement.arithmetic_if w negative zero positive)
    (after (codes ",") (λ next. number_at next) third))
    (after (codes ",") (λ next. number_at next) second))
    (number_at text)

abbrev pub stop_at : List ℕ → Reads WrittenStatement
stop_at [] = Some (WrittenStatement.stop WrittenStop.Nothing_shown, [])
stop_at (c ∷ text) =
    if c == 39
    then read_as (λ characters. WrittenStatement.stop (WrittenStop.Shown characters)) (characters_at (c ∷ text))
    else read_as (λ digits. WrittenStatement.stop (WrittenStop.Digits digits)) (where_it (λ digits. nat_le (length digits) 5) (number_at (c ∷ text)))

abbrev pub computed_at : List (List ℕ) → List ℕ → Reads WrittenStatement
computed_at labels text = let comma = comma_at text in read_as (λ w. WrittenStatement.computed_go_to labels comma.0 w) (expression_at_start comma.1)

abbrev pub go_to_at : List ℕ → Reads WrittenStatement
go_to_at [] = None
go_to_at (c ∷ text) =
    if c == 40
    then and_then_read (λ labels rest. computed_at labels rest) (bracketed_at number_at (c ∷ text))
    else read_as (λ label. WrittenStatement.go_to label) (number_at (c ∷ text))

-- items after a comma, or none
abbrev pub items_after : List ℕ → Reads WrittenStatement
items_after [] = Some (WrittenStatement.print PrintForm.Print_star [], [])
items_after (c ∷ text) = if c == 44 then read_as (λ items. WrittenStatement.print PrintForm.Print_star items) (list_at item_at text) else None

abbrev pub items_at : PrintForm → List ℕ → Reads WrittenStatement
items_at form [] = Some (WrittenStatement.print form [], [])
items_at form (c ∷ text) = read_as (λ items. WrittenStatement.print form items) (list_at item_at (c ∷ text))

abbrev pub targets_at : ReadForm → List ℕ → Reads WrittenStatement
targets_at form text = read_as (λ targets. WrittenStatement.read form targets) (list_at variable_at text)

-- a name, and names between brackets or nothing
abbrev pub named_at : (List ℕ → Option (List (List ℕ)) → WrittenStatement) → List ℕ → Reads WrittenStatement
named_at made text = and_then_read (λ name rest. read_as (λ names. made name names) (names_at rest)) (name_at text)

abbrev pub call_at : List ℕ → Reads WrittenStatement
call_at text = named_at (λ name arguments. WrittenStatement.call_of name arguments) text

-- a form that may stand after a condition
abbrev pub simple_at : List ℕ → Reads WrittenStatement
simple_at text =
    form_or (alone WrittenStatement.continue) (after_prefix (codes "CONTINUE") text)
    (form_or stop_at (after_prefix (codes "STOP") text)
    (form_or go_to_at (after_prefix (codes "GOTO") text)
    (form_or call_at (after_prefix (codes "CALL") text)
    (form_or (alone WrittenStatement.go_back) (after_prefix (codes "RETURN") text)
    (form_or items_after (after_prefix (codes "PRINT*") text)
    (form_or (items_at PrintForm.Write_star) (after_prefix (codes "WRITE(*,*)") text)
    (form_or (items_at PrintForm.Write_six) (after_prefix (codes "WRITE(6,*)") text)
    (form_or (targets_at ReadForm.Read_star) (after_prefix (codes "READ*,") text)
    (form_or (targets_at ReadForm.Read_unit_star) (after_prefix (codes "READ(*,*)") text)
    (form_or (targets_at ReadForm.Read_five) (after_prefix (codes "READ(5,*)") text)
    None))))))))))

-- a condition, with the bracket that closes it
abbrev pub condition_at : List ℕ → Reads Written
condition_at text = then_prefix (codes ")") (expression_at_start text)

-- an arithmetic IF after its opening bracket
abbrev pub inner_if_at : List ℕ → Reads WrittenStatement
inner_if_at text = and_then_read (λ w rest. sign_labels_at w rest) (condition_at text)

-- what stands after the condition of an IF: labels, THEN, or a statement
abbrev pub after_condition : Written → List ℕ → Reads WrittenStatement
after_condition w [] = None
after_condition w (c ∷ text) =
    if is_figure c then sign_labels_at w (c ∷ text)
    else form_or (alone (WrittenStatement.block_if w)) (after_prefix (codes "THEN") (c ∷ text))
    (read_as (λ s. WrittenStatement.logical_if w s) (form_or inner_if_at (after_prefix (codes "IF(") (c ∷ text)) (simple_at (c ∷ text))))

abbrev pub if_at : List ℕ → Reads WrittenStatement
if_at text = and_then_read (λ w rest. after_condition w rest) (condition_at text)

abbrev pub else_if_at : List ℕ → Reads WrittenStatement
else_if_at text = then_prefix (codes "THEN") (read_as (λ w. WrittenStatement.else_if w) (condition_at text))

abbrev pub subroutine_at : List ℕ → Reads WrittenStatement
subroutine_at text = named_at (λ name dummies. WrittenStatement.subroutine name dummies) text

abbrev pub implicit_at : List ℕ → Reads WrittenStatement
implicit_at text = read_as (λ letters. WrittenStatement.implicit letters) (list_at letters_at text)

abbrev pub typed_at : Kind → List ℕ → Reads WrittenStatement
typed_at kind text = read_as (λ decls. WrittenStatement.typed kind decls) (list_at decl_at text)

abbrev pub dimension_at : List ℕ → Reads WrittenStatement
dimension_at text = read_as (λ decls. WrittenStatement.dimension decls) (where_it (λ decls. list_all has_dims decls) (list_at decl_at text))

abbrev pub common_at : List ℕ → Reads WrittenStatement
common_at text = and_then_read (λ first rest. read_as (λ others. WrittenStatement.common (first ∷ others)) (parts_to_end (length rest) part_at rest)) (first_part_at text)

abbrev pub equivalence_at : List ℕ → Reads WrittenStatement
equivalence_at text = read_as (λ groups. WrittenStatement.equivalence groups) (list_at group_at text)

abbrev pub data_statement_at : List ℕ → Reads WrittenStatement
data_statement_at text = and_then_read (λ first rest. read_as (λ others. WrittenStatement.init (first ∷ others)) (parts_to_end (length rest) data_at rest)) (data_after false text)

-- a statement by its keyword: one that begins with another's stands before it
abbrev pub keyword_at : List ℕ → Reads WrittenStatement
keyword_at text =
    form_or (λ rest. read_as (λ n. WrittenStatement.program n) (name_at rest)) (after_prefix (codes "PROGRAM") text)
    (form_or subroutine_at (after_prefix (codes "SUBROUTINE") text)
    (form_or (alone WrittenStatement.implicit_none) (after_prefix (codes "IMPLICITNONE") text)
    (form_or implicit_at (after_prefix (codes "IMPLICIT") text)
    (form_or (typed_at Integer) (after_prefix (codes "INTEGER") text)
    (form_or (typed_at Logical) (after_prefix (codes "LOGICAL") text)
    (form_or dimension_at (after_prefix (codes "DIMENSION") text)
    (form_or common_at (after_prefix (codes "COMMON") text)
    (form_or equivalence_at (after_prefix (codes "EQUIVALENCE") text)
    (form_or data_statement_at (after_prefix (codes "DATA") text)
    (form_or (alone WrittenStatement.end_if) (after_prefix (codes "ENDIF") text)
    (form_or (alone WrittenStatement.end) (after_prefix (codes "END") text)
    (form_or else_if_at (after_prefix (codes "ELSEIF(") text)
    (form_or (alone WrittenStatement.else) (after_prefix (codes "ELSE") text)
    (form_or if_at (after_prefix (codes "IF(") text)
    (simple_at text)))))))))))))))

-- ---- statements

abbrev pub form_at : List ℕ → Reads WrittenStatement
form_at text = if stands_free 61 text then (if stands_free 44 text then do_at text else equals_at text) else keyword_at text

-- the statement that a whole text is
abbrev pub statement_at : List ℕ → Option WrittenStatement
statement_at text = whole (form_at text)
