-- Assignments and DO are read as they are written.
use Rattle.std.proofs.Common.{◌≡◌, ◌==◌, ℕ, Bool, true, false, List, [], ◌∷◌, ◌++◌, Option, Some, None, codes, refl, ap, ◌∙◌, append_assoc, arith}
use Rattle.std.proofs.lemmas.Bool.{not-true}
use Rattle.f77_tree.specs.Name.{is_name}
use Rattle.f77_tree.specs.Grammar.{Written, Arguments, IsGrammatical, spelling}
use Rattle.f77_tree.specs.StatementGrammar.{in_brackets, comma_if, IsVariable, step_text, IsStep, WrittenStatement, statement_text, IsStatement}
use Rattle.f77_expr.specs.Reader.{read_as, and_then_read}
use Rattle.f77_expr.proofs.EachRead.{if_false}
use Rattle.f77_parse.specs.Parts.{name_at, ends_expression, bracketed_or_none, variable_of, expression_at_start, variable_at}
use Rattle.f77_parse.specs.Forms.{step_at, do_at, assigned_at, condition_of, conditional_at, equals_after, equals_at}
use Rattle.f77_parse.proofs.Followers.{other_not_at_start, not_at_start, no_figure}
use Rattle.f77_parse.proofs.PartExpressions.{variable_capital_prefix, expression_reads, expression_listed, variable_reads}
use Rattle.f77_parse.proofs.PartLists.{bracketed_reads}
use Rattle.f77_parse.proofs.PartNumbers.{name_capital_prefix, capital_other, capital_no_figure, name_not_at_start, number_reads, name_reads}
use Rattle.f77_parse.proofs.PartReaders.{comma_reads}
use Rattle.f77_parse.proofs.FormsReads.{to_the_end}
use Rattle.f77_parse.proofs.FormsFree.{do_spelling}
use Rattle.f77_parse.proofs.FormsSoundAssigned.{step_part, last_part, first_part, variable_part}

-- no variable begins with an equals sign
variable_no_equals : (w : Written) (text : List ℕ) → IsVariable w → not_at_start 61 (spelling w ++ text) ≡ true
variable_no_equals w text h = other_not_at_start 61 (spelling w ++ text) (capital_other 61 (spelling w ++ text) (variable_capital_prefix w text h) (omega arith))

-- ---- assignments

-- the target of an assignment, with what stands after it
target_reads : (target value : Written) → IsVariable target → variable_at (statement_text (WrittenStatement.assignment target value)) ≡ Some (target, 61 ∷ spelling value)
target_reads target value h = ap variable_at (append_assoc (spelling target) (codes "=") (spelling value)) ∙ variable_reads target (61 ∷ spelling value) h refl

value_reads : (target value : Written) → IsGrammatical value → assigned_at target (61 ∷ spelling value) ≡ Some (WrittenStatement.assignment target value, [])
value_reads target value h = ap (read_as (λ value. WrittenStatement.assignment target value)) (to_the_end expression_at_start (spelling value) value (expression_reads value [] h refl))

pub assignment_reads : (target value : Written) → IsVariable target → IsGrammatical value → equals_at (statement_text (WrittenStatement.assignment target value)) ≡ Some (WrittenStatement.assignment target value, [])
assignment_reads target value h value_h = ap (and_then_read (λ w rest. equals_after w rest)) (target_reads target value h) ∙ value_reads target value value_h

-- a condition after IF is like a subscript
condition_like : (w : Written) (text : List ℕ) → IsGrammatical w → variable_at (codes "IF" ++ in_brackets (spelling w) ++ text) ≡ Some (Written.call (codes "IF") (Arguments.last w), text)
condition_like w text h =
    ap (and_then_read (λ name rest. read_as (λ subs. variable_of name subs) (bracketed_or_none expression_at_start rest))) (name_reads (codes "IF") (in_brackets (spelling w) ++ text) refl refl)
    ∙ ap (read_as (λ subs. variable_of (codes "IF") subs)) (bracketed_reads expression_listed (w ∷ []) text (omega arith) (h, tt))

-- after it stands no equals sign
conditional_after : (w : Written) (text : List ℕ) (s : WrittenStatement) → not_at_start 61 text ≡ true → and_then_read (λ target rest. assigned_at target rest) (variable_at text) ≡ Some (s, []) → equals_after (Written.call (codes "IF") (Arguments.last w)) text ≡ Some (WrittenStatement.logical_if w s, [])
conditional_after w [] s none e = absurd cc
conditional_after w (c ∷ text) s none e =
    if_false (c == 61) (assigned_at (Written.call (codes "IF") (Arguments.last w)) (c ∷ text)) (conditional_at (c ∷ text) (condition_of (Written.call (codes "IF") (Arguments.last w)))) (not-true (c == 61) none)
    ∙ ap (read_as (λ s. WrittenStatement.logical_if w s)) e

pub conditional_reads : (w target value : Written) → IsGrammatical w → IsVariable target → IsGrammatical value → equals_at (statement_text (WrittenStatement.logical_if w (WrittenStatement.assignment target value))) ≡ Some (WrittenStatement.logical_if w (WrittenStatement.assignment target value), [])
conditional_reads w target value h target_h value_h =
    let text : List ℕ = statement_text (WrittenStatement.assignment target value) in
    ap (and_then_read (λ v rest. equals_after v rest)) (condition_like w text h)
    ∙ conditional_after w text (WrittenStatement.assignment target value)
    (ap (not_at_start 61) (append_assoc (spelling target) (codes "=") (spelling value)) ∙ variable_no_equals target (61 ∷ spelling value) target_h)
    (ap (and_then_read (λ v rest. assigned_at v rest)) (target_reads target value target_h) ∙ value_reads target value value_h)

-- ---- DO

step_reads : (step : Option Written) → IsStep step → step_at (step_text step) ≡ Some (step, [])
step_reads None h = refl
step_reads (Some w) h = ap (read_as (λ w. Some w)) (to_the_end expression_at_start (spelling w) w (expression_reads w [] h refl))

step_ends : (step : Option Written) → ends_expression (step_text step) ≡ true
step_ends None = refl
step_ends (Some w) = refl

comma_no_figure : (comma : Bool) (variable text : List ℕ) → is_name variable ≡ true → no_figure (comma_if comma ++ (variable ++ text)) ≡ true
comma_no_figure true variable text h = refl
comma_no_figure false variable text h = capital_no_figure (variable ++ text) (name_capital_prefix variable text h)

pub do_reads : (label : List ℕ) (comma : Bool) (variable : List ℕ) (first last : Written) (step : Option Written) → IsStatement (WrittenStatement.do_loop label comma variable first last step) → do_at (statement_text (WrittenStatement.do_loop label comma variable first last step)) ≡ Some (WrittenStatement.do_loop label comma variable first last step, [])
do_reads label comma variable first last step h =
    let after_first : List ℕ = spelling last ++ step_text step in
    let after_variable : List ℕ = spelling first ++ (44 ∷ after_first) in
    ap do_at (do_spelling label comma variable first last step)
    ∙ ap (and_then_read (λ label rest. variable_part label rest)) (number_reads label (comma_if comma ++ (variable ++ (61 ∷ after_variable))) h.0 (comma_no_figure comma variable (61 ∷ after_variable) h.1))
    ∙ ap (λ (at : Bool × List ℕ). and_then_read (λ variable rest. first_part label at.0 variable rest) (name_at at.1)) (comma_reads comma (variable ++ (61 ∷ after_variable)) (name_not_at_start 44 variable (61 ∷ after_variable) h.1 (omega arith)))
    ∙ ap (and_then_read (λ variable rest. first_part label comma variable rest)) (name_reads variable (61 ∷ after_variable) h.1 refl)
    ∙ ap (and_then_read (λ first rest. last_part label comma variable first rest)) (expression_reads first (44 ∷ after_first) h.2 refl)
    ∙ ap (and_then_read (λ last rest. step_part label comma variable first last rest)) (expression_reads last (step_text step) h.3 (step_ends step))
    ∙ ap (read_as (λ step. WrittenStatement.do_loop label comma variable first last step)) (step_reads step h.4)
