-- Assignments, those after the condition of an IF, and DO: what is kept of them.
use Rattle.std.proofs.Common.{◌≡◌, ◌==◌, ◌||◌, ℕ, Bool, true, false, List, [], ◌∷◌, Option, Some, None, if◌then◌else◌, codes, refl, sym, ap, ◌∙◌}
use Rattle.std.specs.Str.{bytes_eq}
use Rattle.std.proofs.Math.Bool.{or_assoc}
use Rattle.f77_tree.specs.declared.statements.RawExpr.{RawExpr}
use Rattle.f77_tree.specs.declared.statements.RawExpr.TheVariants.{Call}
use Rattle.f77_tree.specs.declared.statements.Stmt.{Stmt}
use Rattle.f77_tree.specs.declared.statements.Stmt.TheVariants.{Assign, ThenIf, Do}
use Rattle.f77_tree.specs.Grammar.{Written, Arguments, spelling, has_great_number}
use Rattle.f77_tree.specs.StatementGrammar.{WrittenStatement, has_bad_constant, is_bad_label, step_is_great, is_variable, IsVariable}
use Rattle.f77_expr.specs.Answers.{kept, kept_arguments}
use Rattle.f77_expr.specs.Reader.{read_as, and_then_read, after_prefix}
use Rattle.f77_parse.specs.Parts.{beyond, comma_at, number_at, name_at, expression_at_start, variable_at}
use Rattle.f77_parse.specs.Forms.{assigned_at, condition_of, conditional_at, equals_after, equals_at, step_at, do_at}
use Rattle.f77_parse.specs.Keeping.{Keeps, keep_then, skipped, wanted, begins, name_kept, label_kept, expression_kept, variable_kept}
use Rattle.f77_parse.specs.KeptForms.{as_stmt, assigned_kept, conditional_kept, condition_in, after_if_kept, assignment_kept, step_kept, bounds_kept, do_kept}
use Rattle.f77_parse.specs.KeptValues.{kept_label, kept_step, kept_statement}
use Rattle.f77_parse.proofs.Followers.{IsAtStart}
use Rattle.f77_parse.proofs.PartExpressions.{variable_sound}
use Rattle.f77_parse.proofs.FormsSoundAssigned.{step_part, last_part, first_part, variable_part}
use Rattle.f77_parse.proofs.FollowLemmas.{told, never_bad, no_flag, or_none, then_told, then_each_told, as_told, as_then, wanted_told, if_told, character_told, skipped_comma}
use Rattle.f77_parse.proofs.Conditions.{condition_call}
use Rattle.f77_parse.proofs.FollowNumbers.{name_told, label_told, expression_told}
use Rattle.f77_parse.proofs.FollowItems.{variable_told}
use Rattle.f77_parse.proofs.FollowFormsSimple.{told_statement}

-- ---- assignments

assigned_told : (start : Bool) (target : Written) (text : List ℕ) → assigned_kept (kept target) (start || has_great_number target) text ≡ told_statement start (assigned_at target text)
unfolding assigned_kept
assigned_told start target text =
    let bad = start || has_great_number target in
    wanted_told kept_statement has_bad_constant start (λ o. beyond (λ next. read_as (λ value. WrittenStatement.assignment target value) (expression_at_start next)) o) (λ found bad_now rest. as_stmt (λ value. Assign (kept target) value) (expression_kept bad_now rest)) (codes "=") bad text refl
    (λ rest. as_told kept has_great_number bad kept_statement has_bad_constant start (λ value. WrittenStatement.assignment target value) (λ value. Assign (kept target) value) (expression_at_start rest) (expression_kept bad rest) (expression_told bad rest)
    (λ value. refl) (λ value. or_assoc start (has_great_number target) (has_great_number value)))

conditional_told : (start : Bool) (condition : Written) (text : List ℕ) → conditional_kept (kept condition) (start || has_great_number condition) text ≡ told_statement start (conditional_at text (Some condition))
unfolding conditional_kept
conditional_told start condition text =
    let bad = start || has_great_number condition in
    then_told kept has_great_number bad kept_statement has_bad_constant start (λ target rest. read_as (λ s. WrittenStatement.logical_if condition s) (assigned_at target rest)) (λ target bad_now rest. as_stmt (λ stmt. ThenIf (kept condition) stmt) (assigned_kept target bad_now rest)) (variable_at text) (variable_kept bad text) (variable_told bad text)
    (λ target rest. as_told kept_statement has_bad_constant bad kept_statement has_bad_constant start (λ s. WrittenStatement.logical_if condition s) (λ stmt. ThenIf (kept condition) stmt) (assigned_at target rest) (assigned_kept (kept target) (bad || has_great_number target) rest) (assigned_told bad target rest)
    (λ s. refl) (λ s. or_assoc start (has_great_number condition) (has_bad_constant s)))
    ∙ ap (told_statement start) (sym (as_then (λ s. WrittenStatement.logical_if condition s) (λ target rest. assigned_at target rest) (variable_at text)))

-- several subscripts are no condition
no_only : (name : List ℕ) (e f : RawExpr) (es : List RawExpr) (bad : Bool) (text : List ℕ) → after_if_kept (condition_in (Call name (e ∷ f ∷ es))) bad text ≡ None
no_only name e f es bad text = ap (λ (o : Option RawExpr). after_if_kept o bad text) (condition_call name (e ∷ f ∷ es)) ∙ by (bytes_eq name (codes "IF"))
  where
    by : (b : Bool) → after_if_kept (if b then None else None) bad text ≡ None
    by true = refl
    by false = refl

-- after a variable that may be IF with a condition
condition_told : (start : Bool) (w : Written) (text : List ℕ) → is_variable w ≡ true → after_if_kept (condition_in (kept w)) (start || has_great_number w) text ≡ told_statement start (conditional_at text (condition_of w))
condition_told start (Written.name name) text is = refl
condition_told start (Written.call name (Arguments.last condition)) text is =
    ap (λ (o : Option RawExpr). after_if_kept o (start || has_great_number condition) text) (condition_call name (kept condition ∷ [])) ∙ by (bytes_eq name (codes "IF"))
  where
    by : (b : Bool) → after_if_kept (if b then Some (kept condition) else None) (start || has_great_number condition) text ≡ told_statement start (conditional_at text (if b then Some condition else None))
    by true = conditional_told start condition text
    by false = refl
condition_told start (Written.call name (Arguments.before w (Arguments.last last))) text is = no_only name (kept w) (kept last) [] (start || has_great_number (Written.call name (Arguments.before w (Arguments.last last)))) text
condition_told start (Written.call name (Arguments.before w (Arguments.before next more))) text is = no_only name (kept w) (kept next) (kept_arguments more) (start || has_great_number (Written.call name (Arguments.before w (Arguments.before next more)))) text
condition_told start (Written.number digits) text is = absurd cc
condition_told start (Written.truth b) text is = absurd cc
condition_told start (Written.bracketed w) text is = absurd cc
condition_told start (Written.plus w) text is = absurd cc
condition_told start (Written.minus w) text is = absurd cc
condition_told start (Written.negation w) text is = absurd cc
condition_told start (Written.binary op a b) text is = absurd cc

-- nothing is no assignment
no_condition : (condition : Option RawExpr) (bad : Bool) → after_if_kept condition bad [] ≡ None
unfolding conditional_kept
no_condition None bad = refl
no_condition (Some condition) bad = ap (λ (k : Keeps RawExpr). keep_then k (λ target bad_now rest. as_stmt (λ stmt. ThenIf condition stmt) (assigned_kept target bad_now rest))) (variable_told bad [])

after_variable : (start : Bool) (w : Written) (text : List ℕ) → is_variable w ≡ true → (if begins 61 text then assigned_kept (kept w) (start || has_great_number w) text else after_if_kept (condition_in (kept w)) (start || has_great_number w) text) ≡ told_statement start (equals_after w text)
after_variable start w [] is = no_condition (condition_in (kept w)) (start || has_great_number w)
after_variable start w (c ∷ text) is =
    if_told kept_statement has_bad_constant start (c == 61) (assigned_at w (c ∷ text)) (conditional_at (c ∷ text) (condition_of w))
    (assigned_kept (kept w) (start || has_great_number w) (c ∷ text)) (after_if_kept (condition_in (kept w)) (start || has_great_number w) (c ∷ text))
    (assigned_told start w (c ∷ text)) (condition_told start w (c ∷ text) is)

pub equals_told : (bad : Bool) (text : List ℕ) → assignment_kept bad text ≡ told_statement bad (equals_at text)
unfolding assignment_kept
equals_told bad text =
    then_each_told kept has_great_number bad kept_statement has_bad_constant bad (λ w rest. IsAtStart IsVariable spelling text w rest) (λ w rest. equals_after w rest)
    (λ target bad_now rest. if begins 61 rest then assigned_kept target bad_now rest else after_if_kept (condition_in target) bad_now rest) (variable_at text) (variable_kept bad text) (variable_told bad text) (variable_sound text)
    (λ w rest is. after_variable bad w rest is.0.variable)

-- ---- DO

step_told : (bad : Bool) (text : List ℕ) → step_kept bad text ≡ told kept_step step_is_great bad (step_at text)
unfolding step_kept
step_told bad [] = no_flag None bad []
step_told bad (c ∷ text) =
    character_told kept_step step_is_great bad 44 c text (read_as (λ w. Some w) (expression_at_start text)) (Some (None, c ∷ text))
    (λ rest. keep_then (expression_kept bad rest) (λ e bad_now more. Some (Some e, bad_now, more))) (Some (None, bad, c ∷ text))
    (as_told kept has_great_number bad kept_step step_is_great bad (λ w. Some w) (λ e. Some e) (expression_at_start text) (expression_kept bad text) (expression_told bad text) (λ w. refl) (λ w. refl))
    (no_flag None bad (c ∷ text))

four_flags : (start label first last step : Bool) → ((((start || label) || first) || last) || step) ≡ (start || (label || first || last || step))
four_flags true label first last step = refl
four_flags false label first last step = refl

bounds_told : (start : Bool) (label : List ℕ) (comma : Bool) (variable text : List ℕ) → bounds_kept (kept_label label) variable (start || is_bad_label label) text ≡ told_statement start (first_part label comma variable text)
unfolding bounds_kept
bounds_told start label comma variable text =
    let bad_1 = start || is_bad_label label in
    wanted_told kept_statement has_bad_constant start (λ o. and_then_read (λ first rest. last_part label comma variable first rest) (beyond (λ next. expression_at_start next) o)) (λ found bad text_1. keep_then (expression_kept bad text_1) (λ first bad_2 text_2. from_last first bad_2 text_2)) (codes "=") bad_1 text refl
    (λ text_1. then_told kept has_great_number bad_1 kept_statement has_bad_constant start (λ first rest. last_part label comma variable first rest) (λ first bad_2 text_2. from_last first bad_2 text_2) (expression_at_start text_1) (expression_kept bad_1 text_1) (expression_told bad_1 text_1)
    (λ first text_2.
    let bad_2 = bad_1 || has_great_number first in
    wanted_told kept_statement has_bad_constant start (λ o. and_then_read (λ last rest. step_part label comma variable first last rest) (beyond (λ next. expression_at_start next) o)) (λ found bad text_3. keep_then (expression_kept bad text_3) (λ last bad_3 text_4. from_step (kept first) last bad_3 text_4)) (codes ",") bad_2 text_2 refl
    (λ text_3. then_told kept has_great_number bad_2 kept_statement has_bad_constant start (λ last rest. step_part label comma variable first last rest) (λ last bad_3 text_4. from_step (kept first) last bad_3 text_4) (expression_at_start text_3) (expression_kept bad_2 text_3) (expression_told bad_2 text_3)
    (λ last text_4.
    let bad_3 = bad_2 || has_great_number last in
    as_told kept_step step_is_great bad_3 kept_statement has_bad_constant start (λ step. WrittenStatement.do_loop label comma variable first last step) (λ step. Do (kept_label label) variable (kept first) (kept last) step) (step_at text_4) (step_kept bad_3 text_4) (step_told bad_3 text_4)
    (λ step. refl) (λ step. four_flags start (is_bad_label label) (has_great_number first) (has_great_number last) (step_is_great step))))))
  where
    from_step : RawExpr → RawExpr → Bool → List ℕ → Keeps Stmt
    from_step first last bad text_4 = as_stmt (λ step. Do (kept_label label) variable first last step) (step_kept bad text_4)

    from_last : RawExpr → Bool → List ℕ → Keeps Stmt
    from_last first bad text_2 = keep_then (wanted (codes ",") bad text_2) (λ found bad_2 text_3. keep_then (expression_kept bad_2 text_3) (λ last bad_3 text_4. from_step first last bad_3 text_4))

variable_part_told : (start : Bool) (label text : List ℕ) → keep_then (name_kept (start || is_bad_label label) (skipped (after_prefix (codes ",") text) text)) (λ variable bad rest. bounds_kept (kept_label label) variable bad rest) ≡ told_statement start (variable_part label text)
variable_part_told start label text =
    let comma = comma_at text in
    let bad = start || is_bad_label label in
    ap (λ (more : List ℕ). keep_then (name_kept bad more) (λ variable bad_now rest. bounds_kept (kept_label label) variable bad_now rest)) (skipped_comma text)
    ∙ then_told (λ (name : List ℕ). name) never_bad bad kept_statement has_bad_constant start (λ variable rest. first_part label comma.0 variable rest) (λ variable bad_now rest. bounds_kept (kept_label label) variable bad_now rest) (name_at comma.1) (name_kept bad comma.1) (name_told bad comma.1)
    (λ variable rest. ap (λ (b : Bool). bounds_kept (kept_label label) variable b rest) (or_none bad) ∙ bounds_told start label comma.0 variable rest)

pub do_told : (bad : Bool) (text : List ℕ) → do_kept bad text ≡ told_statement bad (do_at text)
unfolding do_kept
do_told bad text =
    wanted_told kept_statement has_bad_constant bad (λ o. beyond (λ next. and_then_read (λ label rest. variable_part label rest) (number_at next)) o)
    (λ found bad_1 text_1. keep_then (label_kept bad_1 text_1) (λ label bad_2 text_2. after_label label bad_2 text_2)) (codes "DO") bad text refl
    (λ text_1. then_told kept_label is_bad_label bad kept_statement has_bad_constant bad (λ label rest. variable_part label rest) (λ label bad_2 text_2. after_label label bad_2 text_2) (number_at text_1) (label_kept bad text_1) (label_told bad text_1)
    (λ label rest. variable_part_told bad label rest))
  where
    after_label : ℕ → Bool → List ℕ → Keeps Stmt
    after_label label bad_2 text_2 = keep_then (name_kept bad_2 (skipped (after_prefix (codes ",") text_2) text_2)) (λ variable bad_3 text_3. bounds_kept label variable bad_3 text_3)
