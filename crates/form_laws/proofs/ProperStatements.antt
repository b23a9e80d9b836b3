-- Statements that are read from a text: their expressions, their texts and their lists.
use Rattle.std.proofs.Common.{◌≡◌, ℕ, ◌<◌, ◌≤◌, ◌||◌, true, false, List, [], ◌∷◌, ◌++◌, length, map, All, Option, Some, None, refl, sym, subst, ◌∙◌, arith}
use Rattle.std.specs.Prelude.{codes, flat_map}
use Rattle.std.specs.List.{list_all, list_any}
use Rattle.std.proofs.lemmas.Bool.{and_parts, or_parts}
use Rattle.std.proofs.lemmas.Bool.Decides.{nat_tests}
use Rattle.std.proofs.lemmas.List.{length-map}
use Rattle.std.proofs.lemmas.List.Folds.{list_all-append}
use Rattle.std.proofs.lemmas.List.Elements.{All-nil, All-cons}
use Rattle.f77_tree.specs.declared.statements.RawExpr.{RawExpr}
use Rattle.f77_tree.specs.declared.statements.Stmt.{Stmt}
use Rattle.f77_tree.specs.declared.statements.Stmt.TheVariants.{ThenIf}
use Rattle.f77_tree.specs.WellFormed.{IsText}
use Rattle.f77_tree.specs.Grammar.{Written, reading, spelling, has_great_number, number_of}
use Rattle.f77_tree.specs.StatementGrammar.{WrittenStatement, WrittenItem, Expression, Characters, PrintForm, Print_star, Write_star, Write_six, IsStatement, IsVariable, IsItem, IsStep, IsGiven, statement_of, statement_text, is_simple, has_bad_constant, is_bad_label, is_printable, item_of, item_text, item_is_great, step_of, step_is_great, print_text, after_commas, with_commas, in_brackets, character_text, characters_text}
use Rattle.layout_rules.specs.ReadExpressions.{IsReading}
use Rattle.layout_rules.specs.ReadStatements.{IsReadItem, IsReadStep, is_guarded, IsReadStatement}
use Rattle.layout_rules.proofs.FlatParts.{before_map, read_each}
use Rattle.form_laws.proofs.ProperReading.{reading-IsReading}

-- ---- characters

abbrev Shows : List ℕ → Type 0
Shows text = list_all is_printable text ≡ true

before_after : (xs ys : List ℕ) → Shows (xs ++ ys) → Shows xs × Shows ys
before_after xs ys h = and_parts (list_all is_printable xs) (list_all is_printable ys) (sym (list_all-append is_printable xs ys) ∙ h)

character : (c : ℕ) → Shows (character_text c) → (32 ≤ c) × (c ≤ 126)
character c h = (grind (arith, nat_tests), grind (arith, nat_tests))

characters : (cs : List ℕ) → Shows (flat_map character_text cs) → All (λ c. (32 ≤ c) × (c ≤ 126)) cs
characters [] h = All-nil (λ c. (32 ≤ c) × (c ≤ 126))
characters (c ∷ cs) h =
    let parts = before_after (character_text c) (flat_map character_text cs) h in
    All-cons (λ c. (32 ≤ c) × (c ≤ 126)) c cs (character c parts.0) (characters cs parts.1)

character_constant : (cs : List ℕ) → 1 ≤ length cs → Shows (characters_text cs) → IsText cs
character_constant cs some h =
    let inner = before_after (flat_map character_text cs) (codes "'") h in
    record { some = some; printable = characters cs inner.0 }

with_commas_each : (texts : List (List ℕ)) → Shows (with_commas texts) → All Shows texts
with_commas_each [] h = All-nil Shows
with_commas_each (text ∷ []) h = All-cons Shows text [] h (All-nil Shows)
with_commas_each (text ∷ next ∷ more) h =
    let parts = before_after (text ++ codes ",") (with_commas (next ∷ more)) h in
    All-cons Shows text (next ∷ more) (before_after text (codes ",") parts.0).0 (with_commas_each (next ∷ more) parts.1)

after_commas_each : (texts : List (List ℕ)) → Shows (after_commas texts) → All Shows texts
after_commas_each [] h = All-nil Shows
after_commas_each (text ∷ more) h =
    let parts = before_after text (after_commas more) h in
    All-cons Shows text more parts.0 (after_commas_each more parts.1)

printed_each : (form : PrintForm) (texts : List (List ℕ)) → Shows (print_text form texts) → All Shows texts
printed_each Print_star texts h = after_commas_each texts h
printed_each Write_star texts h = with_commas_each texts h
printed_each Write_six texts h = with_commas_each texts h

-- ---- lists

read_items : (items : List WrittenItem) → All IsItem items → list_any item_is_great items ≡ false → All Shows (map item_text items) → All IsReadItem (map item_of items)
read_items items are few shown =
    read_each (λ item. IsItem item × Shows (item_text item)) item_is_great item_of IsReadItem (λ item is great. one item is.0 great is.1) items (λ k d lt. (are k d lt, before_map Shows item_text items shown k d lt)) few
  where
    one : (item : WrittenItem) → IsItem item → item_is_great item ≡ false → Shows (item_text item) → IsReadItem (item_of item)
    one (Expression w) is few shown = reading-IsReading w is few
    one (Characters cs) is few shown = character_constant cs is shown

read_targets : (targets : List Written) → All IsVariable targets → list_any has_great_number targets ≡ false → All IsReading (map reading targets)
read_targets targets are few = read_each IsVariable has_great_number reading IsReading (λ w is great. reading-IsReading w is.grammatical great) targets are few

read_step : (step : Option Written) → IsStep step → step_is_great step ≡ false → IsReadStep (step_of step)
read_step None is few = tt
read_step (Some w) is few = reading-IsReading w is few

a_label : (digits : List ℕ) → is_bad_label digits ≡ false → 0 < number_of digits
a_label digits h = grind (arith, nat_tests)

-- ---- statements

simple_unguarded : (s : WrittenStatement) → is_simple s ≡ true → is_guarded (statement_of s) ≡ false
unfolding Rattle.f77_tree.specs.declared.statements.Stmt.TheBlock.hidden-the_row-Stmt-0 denote.Hole.Carrier.hidden
simple_unguarded (WrittenStatement.logical_if w s) h = absurd cc
simple_unguarded _ h = refl

read_if : (condition : RawExpr) (stmt : Stmt) → IsReading condition → IsReadStatement stmt → is_guarded stmt ≡ false → IsReadStatement (ThenIf condition stmt)
unfolding Rattle.f77_tree.specs.declared.statements.Stmt.TheBlock.hidden-the_row-Stmt-0 denote.Hole.Carrier.hidden
read_if condition stmt reads beyond unguarded = (reads, beyond, unguarded)

after_condition : (w s : List ℕ) → Shows (codes "IF" ++ in_brackets w ++ s) → Shows s
after_condition w s h = (before_after (in_brackets w) s h).1

read_statement : (w : WrittenStatement) → IsStatement w → has_bad_constant w ≡ false → Shows (statement_text w) → IsReadStatement (statement_of w)
read_statement (WrittenStatement.assignment target value) is few shown =
    let parts = or_parts (has_great_number target) (has_great_number value) few in
    (reading-IsReading target is.0.grammatical parts.0, reading-IsReading value is.1 parts.1)
read_statement (WrittenStatement.print form items) is few shown = read_items items is few (printed_each form (map item_text items) shown)
read_statement (WrittenStatement.read form targets) is few shown = read_targets targets is.1 few
read_statement (WrittenStatement.computed_go_to labels comma w) is few shown =
    let parts = or_parts (list_any is_bad_label labels) (has_great_number w) few in
    let as_many = length-map labels number_of in
    let some = is.0 in
    (omega (arith, as_many, some), reading-IsReading w is.2 parts.1)
read_statement (WrittenStatement.arithmetic_if w negative zero positive) is few shown =
    let parts = or_parts (has_great_number w) (list_any is_bad_label (negative ∷ zero ∷ positive ∷ [])) few in
    reading-IsReading w is.0 parts.0
read_statement (WrittenStatement.logical_if w s) is few shown =
    let parts = or_parts (has_great_number w) (has_bad_constant s) few in
    read_if (reading w) (statement_of s) (reading-IsReading w is.0 parts.0) (read_statement s is.1 parts.1 (after_condition (spelling w) (statement_text s) shown)) (simple_unguarded s is.2)
read_statement (WrittenStatement.block_if w) is few shown = reading-IsReading w is few
read_statement (WrittenStatement.else_if w) is few shown = reading-IsReading w is few
read_statement (WrittenStatement.do_loop label comma variable first last step) is few shown =
    let with_last = or_parts (is_bad_label label || has_great_number first || has_great_number last) (step_is_great step) few in
    let with_first = or_parts (is_bad_label label || has_great_number first) (has_great_number last) with_last.0 in
    let parts = or_parts (is_bad_label label) (has_great_number first) with_first.0 in
    (reading-IsReading first is.2 parts.1, reading-IsReading last is.3 with_first.1, read_step step is.4 with_last.1, a_label label parts.0)
read_statement _ is few shown = tt

pub given-IsReadStatement : (stmt : Stmt) → IsGiven stmt → IsReadStatement stmt
given-IsReadStatement stmt given =
    let read = given.is_read in
    let shown : Shows (statement_text read.written) = subst Shows (sym read.spells.is) given.printable in
    subst IsReadStatement read.is (read_statement read.written read.spells.grammatical read.constants shown)
