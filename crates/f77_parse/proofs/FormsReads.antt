-- Simple forms are read as they are written.
use Rattle.std.proofs.Common.{◌≡◌, ◌==◌, ℕ, ◌≤◌, Bool, true, false, List, [], ◌∷◌, ◌++◌, length, map, nat_le, All, Some, None, refl, sym, ap, ◌∙◌, append_assoc, append-nil, arith}
use Rattle.std.proofs.lemmas.Bool.{and_parts, ne_eqb, ltb-true}
use Rattle.std.specs.List.{list_all}
use Rattle.f77_tree.specs.Grammar.{Written, IsGrammatical, is_number, spelling}
use Rattle.f77_tree.specs.StatementGrammar.{with_commas, in_brackets, comma_if, WrittenItem, item_text, IsItem, PrintForm, print_text, ReadForm, WrittenStop, stop_text, is_stop, IsVariable, characters_text, WrittenStatement, statement_text, IsStatement}
use Rattle.f77_expr.specs.Reader.{Reads, read_as, and_then_read}
use Rattle.f77_expr.proofs.EachRead.{if_true, if_false}
use Rattle.f77_parse.specs.Parts.{where_it, number_at, list_at, bracketed_at, expression_at_start, variable_at, characters_at, item_at}
use Rattle.f77_parse.specs.Forms.{stop_at, computed_at, go_to_at, items_after, items_at, targets_at, simple_at}
use Rattle.f77_parse.proofs.Followers.{not_at_start, other_not_at_start}
use Rattle.f77_parse.proofs.PartExpressions.{expression_no_comma, expression_reads, variables_reads}
use Rattle.f77_parse.proofs.PartItems.{characters_reads, items_reads}
use Rattle.f77_parse.proofs.PartLists.{after_commas_is}
use Rattle.f77_parse.proofs.PartNames.{named_reads}
use Rattle.f77_parse.proofs.PartNumbers.{number_from, number_reads, labels_reads}
use Rattle.f77_parse.proofs.PartReaders.{comma_reads}

-- up to the end of a text
pub to_the_end : {A : Type 0} (reader : List ℕ → Reads A) (text : List ℕ) (a : A) → reader (text ++ []) ≡ Some (a, []) → reader text ≡ Some (a, [])
to_the_end reader text a e = ap reader (sym (append-nil text)) ∙ e

-- ---- STOP

stop_reads : (shown : WrittenStop) → is_stop shown ≡ true → stop_at (stop_text shown) ≡ Some (WrittenStatement.stop shown, [])
stop_reads WrittenStop.Nothing_shown h = refl
stop_reads (WrittenStop.Digits []) h = absurd cc
stop_reads (WrittenStop.Digits (d ∷ more)) h =
    let both = and_parts (is_number (d ∷ more)) (nat_le (length (d ∷ more)) 5) h in
    let from : 48 ≤ d = number_from d more both.0 in
    if_false (d == 39) _ (read_as (λ digits. WrittenStatement.stop (WrittenStop.Digits digits)) (where_it (λ digits. nat_le (length digits) 5) (number_at (d ∷ more)))) (ne_eqb d 39 (λ e. omega arith))
    ∙ ap (λ x. read_as (λ digits. WrittenStatement.stop (WrittenStop.Digits digits)) (where_it (λ digits. nat_le (length digits) 5) x)) (to_the_end number_at (d ∷ more) (d ∷ more) (number_reads (d ∷ more) [] both.0 refl))
    ∙ ap (read_as (λ digits. WrittenStatement.stop (WrittenStop.Digits digits))) (if_true (nat_le (length (d ∷ more)) 5) (Some (d ∷ more, [])) None both.1)
stop_reads (WrittenStop.Shown characters) h =
    ap (read_as (λ shown. WrittenStatement.stop (WrittenStop.Shown shown)))
    (to_the_end characters_at (characters_text characters) characters (characters_reads characters [] (ltb-true 0 (length characters) h) refl))

-- ---- GO TO

go_to_reads : (label : List ℕ) → is_number label ≡ true → go_to_at label ≡ Some (WrittenStatement.go_to label, [])
go_to_reads [] h = absurd cc
go_to_reads (d ∷ more) h =
    let from : 48 ≤ d = number_from d more h in
    if_false (d == 40) (and_then_read (λ labels rest. computed_at labels rest) (bracketed_at number_at (d ∷ more))) (read_as (λ label. WrittenStatement.go_to label) (number_at (d ∷ more))) (ne_eqb d 40 (λ e. omega arith))
    ∙ ap (read_as (λ label. WrittenStatement.go_to label)) (to_the_end number_at (d ∷ more) (d ∷ more) (number_reads (d ∷ more) [] h refl))

computed_reads : (labels : List (List ℕ)) (comma : Bool) (w : Written) → 1 ≤ length labels → list_all is_number labels ≡ true → IsGrammatical w → go_to_at (in_brackets (with_commas labels) ++ comma_if comma ++ spelling w) ≡ Some (WrittenStatement.computed_go_to labels comma w, [])
computed_reads labels comma w some all h =
    ap go_to_at (append_assoc (in_brackets (with_commas labels)) (comma_if comma) (spelling w))
    ∙ ap (and_then_read (λ labels rest. computed_at labels rest)) (labels_reads labels (comma_if comma ++ spelling w) some all)
    ∙ ap (λ (at : Bool × List ℕ). read_as (λ v. WrittenStatement.computed_go_to labels at.0 v) (expression_at_start at.1)) (comma_reads comma (spelling w) (ap (not_at_start 44) (sym (append-nil (spelling w))) ∙ other_not_at_start 44 (spelling w ++ []) (expression_no_comma w [] h)))
    ∙ ap (read_as (λ v. WrittenStatement.computed_go_to labels comma v)) (to_the_end expression_at_start (spelling w) w (expression_reads w [] h refl))

-- ---- PRINT, WRITE and READ

items_read : (items : List WrittenItem) → 1 ≤ length items → All IsItem items → list_at item_at (with_commas (map item_text items)) ≡ Some (items, [])
items_read items some all = to_the_end (list_at item_at) (with_commas (map item_text items)) items (items_reads items [] some all refl refl)

-- a list that is read is not nothing
listed_items : (form : PrintForm) (text : List ℕ) (items : List WrittenItem) → list_at item_at text ≡ Some (items, []) → items_at form text ≡ Some (WrittenStatement.print form items, [])
listed_items form [] items e = absurd cc
listed_items form (c ∷ text) items e = ap (read_as (λ items. WrittenStatement.print form items)) e

write_reads : (form : PrintForm) (items : List WrittenItem) → All IsItem items → items_at form (with_commas (map item_text items)) ≡ Some (WrittenStatement.print form items, [])
write_reads form [] all = refl
write_reads form (i ∷ more) all = listed_items form (with_commas (map item_text (i ∷ more))) (i ∷ more) (items_read (i ∷ more) (omega arith) all)

print_reads : (form : PrintForm) (items : List WrittenItem) → All IsItem items → simple_at (print_text form (map item_text items)) ≡ Some (WrittenStatement.print form items, [])
print_reads PrintForm.Print_star [] all = refl
print_reads PrintForm.Print_star (i ∷ more) all =
    ap items_after (after_commas_is (item_text i) (map item_text more))
    ∙ ap (read_as (λ items. WrittenStatement.print PrintForm.Print_star items)) (items_read (i ∷ more) (omega arith) all)
print_reads PrintForm.Write_star items all = write_reads PrintForm.Write_star items all
print_reads PrintForm.Write_six items all = write_reads PrintForm.Write_six items all

targets_read : (form : ReadForm) (targets : List Written) → 1 ≤ length targets → All IsVariable targets → targets_at form (with_commas (map spelling targets)) ≡ Some (WrittenStatement.read form targets, [])
targets_read form targets some all =
    ap (read_as (λ targets. WrittenStatement.read form targets)) (to_the_end (list_at variable_at) (with_commas (map spelling targets)) targets (variables_reads targets [] some all refl refl))

-- ---- all of them

-- a simple form with a keyword of its own
abbrev pub has_own_keyword : WrittenStatement → Bool
has_own_keyword (WrittenStatement.print form items) = true
has_own_keyword (WrittenStatement.read form targets) = true
has_own_keyword WrittenStatement.continue = true
has_own_keyword (WrittenStatement.stop shown) = true
has_own_keyword (WrittenStatement.go_to label) = true
has_own_keyword (WrittenStatement.computed_go_to labels comma w) = true
has_own_keyword (WrittenStatement.call_of name arguments) = true
has_own_keyword WrittenStatement.go_back = true
has_own_keyword _ = false

pub simple_reads : (s : WrittenStatement) → IsStatement s → has_own_keyword s ≡ true → simple_at (statement_text s) ≡ Some (s, [])
simple_reads (WrittenStatement.print form items) h own = print_reads form items h
simple_reads (WrittenStatement.read ReadForm.Read_star targets) h own = targets_read ReadForm.Read_star targets h.0 h.1
simple_reads (WrittenStatement.read ReadForm.Read_unit_star targets) h own = targets_read ReadForm.Read_unit_star targets h.0 h.1
simple_reads (WrittenStatement.read ReadForm.Read_five targets) h own = targets_read ReadForm.Read_five targets h.0 h.1
simple_reads WrittenStatement.continue h own = refl
simple_reads (WrittenStatement.stop shown) h own = stop_reads shown h
simple_reads (WrittenStatement.go_to label) h own = go_to_reads label h
simple_reads (WrittenStatement.computed_go_to labels comma w) h own = computed_reads labels comma w h.0 h.1 h.2
simple_reads (WrittenStatement.call_of name arguments) h own = named_reads (λ name arguments. WrittenStatement.call_of name arguments) name arguments h.0 h.1
simple_reads WrittenStatement.go_back h own = refl
simple_reads _ h own = absurd cc
