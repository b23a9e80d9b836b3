-- Forms that may stand after a condition, and SUBROUTINE: what is kept of them.
use Rattle.std.proofs.Common.{◌≡◌, ◌==◌, ◌&&◌, ◌||◌, ℕ, Bool, true, false, List, [], ◌∷◌, length, drop, take_while, map, Option, Some, None, if◌then◌else◌, codes, refl, sym, ap, ◌∙◌}
use Rattle.std.specs.Prelude.{nat_lt, nat_le}
use Rattle.std.specs.List.{list_any}
use Rattle.std.proofs.Math.Bool.{or_assoc}
use Rattle.f77_tree.specs.declared.statements.Stmt.{Stmt}
use Rattle.f77_tree.specs.declared.statements.Stmt.TheVariants.{Print, Take, Continue, Stop, GoTo, PickGoTo, Sub, CallTo, Back}
use Rattle.f77_tree.specs.Name.{is_figure}
use Rattle.f77_tree.specs.Grammar.{has_great_number}
use Rattle.f77_tree.specs.StatementGrammar.{WrittenStatement, WrittenStop, PrintForm, ReadForm, has_bad_constant, is_bad_label, item_is_great, names_of}
use Rattle.f77_expr.specs.Answers.{kept}
use Rattle.f77_expr.specs.Reader.{Reads, read_as, and_then_read, after_prefix}
use Rattle.f77_parse.specs.Parts.{beyond, then_prefix, where_it, comma_at, name_at, names_at, number_at, list_at, item_at, variable_at, expression_at_start, characters_at}
use Rattle.f77_parse.specs.Forms.{form_or, alone, stop_at, computed_at, go_to_at, items_after, items_at, targets_at, named_at, call_at, simple_at, subroutine_at}
use Rattle.f77_parse.specs.Keeping.{Keeps, keep_then, where_prefix, skipped, wanted, name_kept, names_kept, few_digits_kept, label_kept, character_constant_kept, expression_kept, kept_list, item_kept, variable_kept}
use Rattle.f77_parse.specs.KeptForms.{as_stmt, stop_kept, go_to_kept, items_after_kept, items_or_none_kept, targets_kept, call_kept, subroutine_kept, transfer_kept, simple_kept}
use Rattle.f77_parse.specs.KeptValues.{kept_label, kept_item, kept_statement}
use Rattle.f77_parse.proofs.FollowLemmas.{told, never_bad, no_flag, flag_last, then_told, as_told, then_then, prefix_told, wanted_told, if_told, one_prefix, wanted_character_told, skipped_comma}
use Rattle.f77_parse.proofs.FollowLists.{list_told}
use Rattle.f77_parse.proofs.FollowNumbers.{name_told, label_told, expression_told}
use Rattle.f77_parse.proofs.FollowItems.{variable_told, names_told, item_told, character_constant_told}

-- what is kept of a statement
abbrev pub told_statement : Bool → Reads WrittenStatement → Keeps Stmt
told_statement bad x = told kept_statement has_bad_constant bad x

-- one form or others
pub form_told : (bad : Bool) (form : List ℕ → Reads WrittenStatement) (prefix : Option (List ℕ)) (others : Reads WrittenStatement) (there : List ℕ → Keeps Stmt) (others_kept : Keeps Stmt) → ((rest : List ℕ) → there rest ≡ told_statement bad (form rest)) → others_kept ≡ told_statement bad others → where_prefix prefix there others_kept ≡ told_statement bad (form_or form prefix others)
form_told bad form prefix others there others_kept here h = prefix_told kept_statement has_bad_constant bad (λ o. form_or form o others) there others_kept prefix here h

-- ---- STOP

few_told : (bad : Bool) (text : List ℕ) → as_stmt (λ digits. Stop) (few_digits_kept bad text) ≡ told_statement bad (read_as (λ digits. WrittenStatement.stop (WrittenStop.Digits digits)) (where_it (λ digits. nat_le (length digits) 5) (number_at text)))
unfolding few_digits_kept
few_told bad text = here (nat_lt 0 (length digits))
  where
    digits : List ℕ
    digits = take_while is_figure text

    by : (few : Bool) → as_stmt {V = Unit {0}} (λ found. Stop) (if few then Some (tt, bad, drop (length digits) text) else None) ≡ told_statement bad (read_as (λ digits. WrittenStatement.stop (WrittenStop.Digits digits)) (if few then Some (digits, drop (length digits) text) else None))
    by true = no_flag Stop bad (drop (length digits) text)
    by false = refl

    here : (some : Bool) → as_stmt {V = Unit {0}} (λ found. Stop) (if some && nat_le (length digits) 5 then Some (tt, bad, drop (length digits) text) else None) ≡ told_statement bad (read_as (λ digits. WrittenStatement.stop (WrittenStop.Digits digits)) (and_then_read (λ a rest. if nat_le (length a) 5 then Some (a, rest) else None) (if some then Some (digits, drop (length digits) text) else None)))
    here true = by (nat_le (length digits) 5)
    here false = refl

stop_told : (bad : Bool) (text : List ℕ) → stop_kept bad text ≡ told_statement bad (stop_at text)
unfolding stop_kept
stop_told bad [] = no_flag Stop bad []
stop_told bad (c ∷ text) =
    if_told kept_statement has_bad_constant bad (c == 39) (read_as (λ characters. WrittenStatement.stop (WrittenStop.Shown characters)) (characters_at (c ∷ text))) (read_as (λ digits. WrittenStatement.stop (WrittenStop.Digits digits)) (where_it (λ digits. nat_le (length digits) 5) (number_at (c ∷ text))))
    (as_stmt (λ characters. Stop) (character_constant_kept bad (c ∷ text))) (as_stmt (λ digits. Stop) (few_digits_kept bad (c ∷ text)))
    (as_told (λ (characters : List ℕ). characters) never_bad bad kept_statement has_bad_constant bad (λ characters. WrittenStatement.stop (WrittenStop.Shown characters)) (λ characters. Stop) (characters_at (c ∷ text)) (character_constant_kept bad (c ∷ text)) (character_constant_told bad (c ∷ text)) (λ characters. refl) (λ characters. refl))
    (few_told bad (c ∷ text))

-- ---- GO TO

computed_told : (bad : Bool) (labels : List (List ℕ)) (text : List ℕ) → as_stmt (λ index. PickGoTo (map kept_label labels) index) (expression_kept (bad || list_any is_bad_label labels) (skipped (after_prefix (codes ",") text) text)) ≡ told_statement bad (computed_at labels text)
computed_told bad labels text =
    let comma = comma_at text in
    let bad_now = bad || list_any is_bad_label labels in
    ap (λ (more : List ℕ). as_stmt (λ index. PickGoTo (map kept_label labels) index) (expression_kept bad_now more)) (skipped_comma text)
    ∙ as_told kept has_great_number bad_now kept_statement has_bad_constant bad (λ w. WrittenStatement.computed_go_to labels comma.0 w) (λ index. PickGoTo (map kept_label labels) index) (expression_at_start comma.1) (expression_kept bad_now comma.1) (expression_told bad_now comma.1)
    (λ w. refl) (λ w. or_assoc bad (list_any is_bad_label labels) (has_great_number w))

-- labels in brackets
abbrev inside_kept : Bool → List ℕ → Keeps Stmt
inside_kept bad inside = keep_then (kept_list label_kept bad inside) (λ labels bad_1 text_1. keep_then (wanted (codes ")") bad_1 text_1) (λ found bad_2 text_2. as_stmt (λ index. PickGoTo labels index) (expression_kept bad_2 (skipped (after_prefix (codes ",") text_2) text_2))))

inside_told : (bad : Bool) (inside : List ℕ) → inside_kept bad inside ≡ told_statement bad (and_then_read (λ labels rest. computed_at labels rest) (then_prefix (codes ")") (list_at (λ next. number_at next) inside)))
inside_told bad inside =
    then_told (map kept_label) (list_any is_bad_label) bad kept_statement has_bad_constant bad (λ labels rest. and_then_read (λ labels more. computed_at labels more) (beyond (λ more. Some (labels, more)) (after_prefix (codes ")") rest)))
    (λ labels bad_1 text_1. keep_then (wanted (codes ")") bad_1 text_1) (λ found bad_2 text_2. as_stmt (λ index. PickGoTo labels index) (expression_kept bad_2 (skipped (after_prefix (codes ",") text_2) text_2))))
    (list_at (λ next. number_at next) inside) (kept_list label_kept bad inside) (list_told kept_label is_bad_label (λ next. number_at next) label_kept label_told bad inside)
    (λ labels rest. wanted_told kept_statement has_bad_constant bad (λ o. and_then_read (λ labels more. computed_at labels more) (beyond (λ more. Some (labels, more)) o)) (λ found bad_2 text_2. as_stmt (λ index. PickGoTo (map kept_label labels) index) (expression_kept bad_2 (skipped (after_prefix (codes ",") text_2) text_2))) (codes ")") (bad || list_any is_bad_label labels) rest refl
    (λ more. computed_told bad labels more))
    ∙ ap (told_statement bad) (sym (then_then (λ labels rest. computed_at labels rest) (λ labels rest. beyond (λ more. Some (labels, more)) (after_prefix (codes ")") rest)) (list_at (λ next. number_at next) inside)))

one_label : (bad : Bool) (text : List ℕ) → as_stmt (λ label. GoTo label) (label_kept bad text) ≡ told_statement bad (read_as (λ label. WrittenStatement.go_to label) (number_at text))
one_label bad text = as_told kept_label is_bad_label bad kept_statement has_bad_constant bad (λ label. WrittenStatement.go_to label) (λ label. GoTo label) (number_at text) (label_kept bad text) (label_told bad text) (λ label. refl) (λ label. refl)

go_to_told : (bad : Bool) (text : List ℕ) → go_to_kept bad text ≡ told_statement bad (go_to_at text)
unfolding go_to_kept
go_to_told bad [] = one_label bad []
go_to_told bad (c ∷ text) =
    ap (λ (o : Option (List ℕ)). where_prefix o (λ inside. inside_kept bad inside) (as_stmt (λ label. GoTo label) (label_kept bad (c ∷ text)))) (one_prefix 40 c text)
    ∙ by (c == 40)
    ∙ ap (λ (o : Option (List ℕ)). told_statement bad (if c == 40 then and_then_read (λ labels rest. computed_at labels rest) (beyond go o) else read_as (λ label. WrittenStatement.go_to label) (number_at (c ∷ text)))) (sym (one_prefix 40 c text))
  where
    go : List ℕ → Reads (List (List ℕ))
    go inside = then_prefix (codes ")") (list_at (λ next. number_at next) inside)

    by : (b : Bool) → where_prefix (if b then Some text else None) (λ inside. inside_kept bad inside) (as_stmt (λ label. GoTo label) (label_kept bad (c ∷ text))) ≡ told_statement bad (if b then and_then_read (λ labels rest. computed_at labels rest) (beyond go (if b then Some text else None)) else read_as (λ label. WrittenStatement.go_to label) (number_at (c ∷ text)))
    by true = inside_told bad text
    by false = one_label bad (c ∷ text)

-- ---- items of output, and variables of input

items_told : (form : PrintForm) (bad : Bool) (text : List ℕ) → as_stmt (λ items. Print items) (kept_list item_kept bad text) ≡ told_statement bad (read_as (λ items. WrittenStatement.print form items) (list_at item_at text))
items_told form bad text =
    as_told (map kept_item) (list_any item_is_great) bad kept_statement has_bad_constant bad (λ items. WrittenStatement.print form items) (λ items. Print items) (list_at item_at text) (kept_list item_kept bad text) (list_told kept_item item_is_great item_at item_kept item_told bad text) (λ items. refl) (λ items. refl)

items_after_told : (bad : Bool) (text : List ℕ) → items_after_kept bad text ≡ told_statement bad (items_after text)
unfolding items_after_kept
items_after_told bad [] = no_flag (Print []) bad []
items_after_told bad (c ∷ text) =
    wanted_character_told kept_statement has_bad_constant bad 44 c text (read_as (λ items. WrittenStatement.print PrintForm.Print_star items) (list_at item_at text)) (λ found bad_now rest. as_stmt (λ items. Print items) (kept_list item_kept bad_now rest)) bad
    (items_told PrintForm.Print_star bad text)

items_or_none_told : (form : PrintForm) (bad : Bool) (text : List ℕ) → items_or_none_kept bad text ≡ told_statement bad (items_at form text)
unfolding items_or_none_kept
items_or_none_told form bad [] = no_flag (Print []) bad []
items_or_none_told form bad (c ∷ text) = items_told form bad (c ∷ text)

targets_told : (form : ReadForm) (bad : Bool) (text : List ℕ) → targets_kept bad text ≡ told_statement bad (targets_at form text)
unfolding targets_kept
targets_told form bad text =
    as_told (map kept) (list_any has_great_number) bad kept_statement has_bad_constant bad (λ targets. WrittenStatement.read form targets) (λ targets. Take targets) (list_at variable_at text) (kept_list variable_kept bad text) (list_told kept has_great_number variable_at variable_kept variable_told bad text) (λ targets. refl) (λ targets. refl)

-- ---- subroutines

named_told : (made : List ℕ → Option (List (List ℕ)) → WrittenStatement) (stmt : List ℕ → List (List ℕ) → Stmt) → ((name : List ℕ) (names : Option (List (List ℕ))) → stmt name (names_of names) ≡ kept_statement (made name names)) → ((name : List ℕ) (names : Option (List (List ℕ))) → has_bad_constant (made name names) ≡ false) → (bad : Bool) (text : List ℕ) → keep_then (name_kept bad text) (λ name bad_now rest. as_stmt (λ names. stmt name names) (names_kept bad_now rest)) ≡ told_statement bad (named_at made text)
named_told made stmt same good bad text =
    then_told (λ (name : List ℕ). name) never_bad bad kept_statement has_bad_constant bad (λ name rest. read_as (made name) (names_at rest)) (λ name bad_now rest. as_stmt (λ names. stmt name names) (names_kept bad_now rest)) (name_at text) (name_kept bad text) (name_told bad text)
    (λ name rest. as_told names_of never_bad (bad || false) kept_statement has_bad_constant bad (made name) (λ names. stmt name names) (names_at rest) (names_kept (bad || false) rest) (names_told (bad || false) rest)
    (λ names. same name names) (λ names. flag_last bad false ∙ ap (λ (b : Bool). bad || b) (sym (good name names))))

call_told : (bad : Bool) (text : List ℕ) → call_kept bad text ≡ told_statement bad (call_at text)
unfolding call_kept
call_told bad text = named_told (λ name arguments. WrittenStatement.call_of name arguments) (λ name arguments. CallTo name arguments) (λ name arguments. refl) (λ name arguments. refl) bad text

pub subroutine_told : (bad : Bool) (text : List ℕ) → subroutine_kept bad text ≡ told_statement bad (subroutine_at text)
unfolding subroutine_kept
subroutine_told bad text = named_told (λ name dummies. WrittenStatement.subroutine name dummies) (λ name dummies. Sub name dummies) (λ name dummies. refl) (λ name dummies. refl) bad text

-- ---- by the keyword

pub simple_told : (bad : Bool) (text : List ℕ) → simple_kept bad text ≡ told_statement bad (simple_at text)
unfolding simple_kept transfer_kept
simple_told bad text =
    form_told bad (alone WrittenStatement.continue) (after_prefix (codes "CONTINUE") text) _ (λ rest. Some (Continue, bad, rest)) _ (λ rest. no_flag Continue bad rest)
    (form_told bad stop_at (after_prefix (codes "STOP") text) _ (λ rest. stop_kept bad rest) _ (λ rest. stop_told bad rest)
    (form_told bad go_to_at (after_prefix (codes "GOTO") text) _ (λ rest. go_to_kept bad rest) _ (λ rest. go_to_told bad rest)
    (form_told bad call_at (after_prefix (codes "CALL") text) _ (λ rest. call_kept bad rest) _ (λ rest. call_told bad rest)
    (form_told bad (alone WrittenStatement.go_back) (after_prefix (codes "RETURN") text) _ (λ rest. Some (Back, bad, rest)) _ (λ rest. no_flag Back bad rest)
    (form_told bad items_after (after_prefix (codes "PRINT*") text) _ (λ rest. items_after_kept bad rest) _ (λ rest. items_after_told bad rest)
    (form_told bad (items_at PrintForm.Write_star) (after_prefix (codes "WRITE(*,*)") text) _ (λ rest. items_or_none_kept bad rest) _ (λ rest. items_or_none_told PrintForm.Write_star bad rest)
    (form_told bad (items_at PrintForm.Write_six) (after_prefix (codes "WRITE(6,*)") text) _ (λ rest. items_or_none_kept bad rest) _ (λ rest. items_or_none_told PrintForm.Write_six bad rest)
    (form_told bad (targets_at ReadForm.Read_star) (after_prefix (codes "READ*,") text) _ (λ rest. targets_kept bad rest) _ (λ rest. targets_told ReadForm.Read_star bad rest)
    (form_told bad (targets_at ReadForm.Read_unit_star) (after_prefix (codes "READ(*,*)") text) _ (λ rest. targets_kept bad rest) _ (λ rest. targets_told ReadForm.Read_unit_star bad rest)
    (form_told bad (targets_at ReadForm.Read_five) (after_prefix (codes "READ(5,*)") text) None (λ rest. targets_kept bad rest) None (λ rest. targets_told ReadForm.Read_five bad rest)
    refl))))))))))
