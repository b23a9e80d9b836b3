-- What the readers of whole statements read is of the grammar, and its text stands before the rest.
use Rattle.std.proofs.Common.{◌≡◌, ◌==◌, ℕ, ◌≤◌, true, List, [], ◌∷◌, ◌++◌, length, map, nat_le, All, Option, Some, None, codes, refl, sym, ap, subst, ◌∙◌, append_assoc, append-nil, arith}
use Rattle.std.proofs.lemmas.Bool.{and_from, eqb-true, lt-ltb}
use Rattle.std.proofs.lemmas.List.Elements.{All-nil}
use Rattle.std.specs.List.{list_all}
use Rattle.f77_tree.specs.Grammar.{IsGrammatical, is_number, spelling}
use Rattle.f77_tree.specs.StatementGrammar.{with_commas, in_brackets, comma_if, WrittenItem, item_text, IsItem, PrintForm, print_text, ReadForm, read_text, WrittenStop, stop_text, names_text, IsVariable, WrittenStatement, statement_text, is_simple, IsStatement}
use Rattle.f77_expr.specs.Reader.{Reads, read_as, and_then_read, after_prefix}
use Rattle.f77_expr.proofs.EachRead.{Each, each_if, each_then, each_as}
use Rattle.f77_expr.proofs.Prefixes.{prefix_is}
use Rattle.f77_parse.specs.Parts.{where_it, number_at, list_at, bracketed_at, comma_at, ends_expression, expression_at_start, variable_at, characters_at, item_at}
use Rattle.f77_parse.specs.Forms.{form_or, alone, stop_at, computed_at, go_to_at, items_after, items_at, targets_at, call_at, simple_at}
use Rattle.f77_parse.proofs.Followers.{IsAtStart}
use Rattle.f77_parse.proofs.PartExpressions.{expression_sound, variables_sound}
use Rattle.f77_parse.proofs.PartItems.{characters_sound, items_sound}
use Rattle.f77_parse.proofs.PartLists.{after_commas_is}
use Rattle.f77_parse.proofs.PartNames.{named_sound}
use Rattle.f77_parse.proofs.PartNumbers.{number_sound, labels_sound}
use Rattle.f77_parse.proofs.PartReaders.{where_sound, comma_is, between}

-- what was read from the text
abbrev pub IsStatementAtStart : List ℕ → WrittenStatement → List ℕ → Type 0
IsStatementAtStart text s rest = IsStatement s × (statement_text s ++ rest ≡ text)

-- and may stand in a logical IF
abbrev pub IsSimpleAtStart : List ℕ → WrittenStatement → List ℕ → Type 0
IsSimpleAtStart text s rest = IsStatement s × (is_simple s ≡ true) × (statement_text s ++ rest ≡ text)

-- one form or the others
pub form_or_sound : (P : WrittenStatement → List ℕ → Type 0) (form : List ℕ → Reads WrittenStatement) (prefix text : List ℕ) (others : Reads WrittenStatement) → ((rest : List ℕ) → prefix ++ rest ≡ text → Each P (form rest)) → Each P others → Each P (form_or form (after_prefix prefix text) others)
form_or_sound P form prefix text others here there = cases (after_prefix prefix text) refl
  where
    cases : (x : Option (List ℕ)) → after_prefix prefix text ≡ x → Each P (form_or form x others)
    cases None e = there
    cases (Some rest) e = here rest (prefix_is prefix text rest e)

-- ---- simple forms

stop_sound : (text : List ℕ) → Each (λ s rest. IsSimpleAtStart (codes "STOP" ++ text) s rest) (stop_at text)
stop_sound [] = (refl, refl, refl)
stop_sound (c ∷ text) =
    each_if P (c == 39) (read_as (λ characters. WrittenStatement.stop (WrittenStop.Shown characters)) (characters_at (c ∷ text))) (read_as (λ digits. WrittenStatement.stop (WrittenStop.Digits digits)) (where_it (λ digits. nat_le (length digits) 5) (number_at (c ∷ text))))
    (λ quote. each_as (λ characters rest. IsAtStart (λ characters. 1 ≤ length characters) (λ characters. stop_text (WrittenStop.Shown characters)) (c ∷ text) characters rest) P (λ characters. WrittenStatement.stop (WrittenStop.Shown characters)) (characters_at (c ∷ text)) (characters_sound (c ∷ text))
    (λ characters rest is. (lt-ltb 0 (length characters) (omega (arith, is.0)), refl, ap (λ more. codes "STOP" ++ more) is.1)))
    (λ none. each_as (λ digits rest. IsAtStart (λ digits. is_number digits ≡ true) (λ digits. digits) (c ∷ text) digits rest × (nat_le (length digits) 5 ≡ true)) P (λ digits. WrittenStatement.stop (WrittenStop.Digits digits)) (where_it (λ digits. nat_le (length digits) 5) (number_at (c ∷ text)))
    (where_sound (λ digits rest. IsAtStart (λ digits. is_number digits ≡ true) (λ digits. digits) (c ∷ text) digits rest) (λ digits. nat_le (length digits) 5) (number_at (c ∷ text)) (number_sound (c ∷ text)))
    (λ digits rest is. (and_from (is_number digits) (nat_le (length digits) 5) is.0.0 is.1, refl, ap (λ more. codes "STOP" ++ more) is.0.1)))
  where
    P : WrittenStatement → List ℕ → Type 0
    P s rest = IsSimpleAtStart (codes "STOP" ++ (c ∷ text)) s rest

regroup : (a b c d e : List ℕ) → a ++ b ++ c ++ d ++ e ≡ a ++ (b ++ (c ++ (d ++ e)))
regroup a b c d e = simp append_assoc

computed_sound : (labels : List (List ℕ)) (text : List ℕ) → 1 ≤ length labels → list_all is_number labels ≡ true → Each (λ s rest. IsSimpleAtStart (codes "GOTO" ++ (in_brackets (with_commas labels) ++ text)) s rest) (computed_at labels text)
computed_sound labels text some all =
    each_as (λ w rest. IsGrammatical w × (spelling w ++ rest ≡ (comma_at text).1) × (ends_expression rest ≡ true)) (λ s rest. IsSimpleAtStart (codes "GOTO" ++ (in_brackets (with_commas labels) ++ text)) s rest)
    (λ w. WrittenStatement.computed_go_to labels (comma_at text).0 w) (expression_at_start (comma_at text).1) (expression_sound (comma_at text).1)
    (λ w rest is. (
      (some, all, is.0),
      refl,
      regroup (codes "GOTO") (in_brackets (with_commas labels)) (comma_if (comma_at text).0) (spelling w) rest
          ∙ ap (λ more. codes "GOTO" ++ (in_brackets (with_commas labels) ++ (comma_if (comma_at text).0 ++ more))) is.1 ∙ ap (λ more. codes "GOTO" ++ (in_brackets (with_commas labels) ++ more)) (comma_is text),
    ))

go_to_sound : (text : List ℕ) → Each (λ s rest. IsSimpleAtStart (codes "GOTO" ++ text) s rest) (go_to_at text)
go_to_sound [] = tt
go_to_sound (c ∷ text) =
    each_if P (c == 40) (and_then_read (λ labels rest. computed_at labels rest) (bracketed_at number_at (c ∷ text))) (read_as (λ label. WrittenStatement.go_to label) (number_at (c ∷ text)))
    (λ bracket. each_then (λ labels rest. IsAtStart (λ labels. (1 ≤ length labels) × (list_all is_number labels ≡ true)) (λ labels. in_brackets (with_commas labels)) (c ∷ text) labels rest) P (λ labels rest. computed_at labels rest) (bracketed_at number_at (c ∷ text)) (labels_sound (c ∷ text))
    (λ labels rest is. subst (λ (whole : List ℕ). Each (λ s beyond. IsSimpleAtStart (codes "GOTO" ++ whole) s beyond) (computed_at labels rest)) is.1 (computed_sound labels rest is.0.0 is.0.1)))
    (λ none. each_as (λ digits rest. IsAtStart (λ digits. is_number digits ≡ true) (λ digits. digits) (c ∷ text) digits rest) P (λ label. WrittenStatement.go_to label) (number_at (c ∷ text)) (number_sound (c ∷ text))
    (λ label rest is. (is.0, refl, ap (λ more. codes "GOTO" ++ more) is.1)))
  where
    P : WrittenStatement → List ℕ → Type 0
    P s rest = IsSimpleAtStart (codes "GOTO" ++ (c ∷ text)) s rest

-- items with a comma before each
star_text : (items : List WrittenItem) (rest text : List ℕ) → 1 ≤ length items → with_commas (map item_text items) ++ rest ≡ text → statement_text (WrittenStatement.print PrintForm.Print_star items) ++ rest ≡ codes "PRINT*" ++ (44 ∷ text)
star_text [] rest text some e = absurd (omega arith)
star_text (i ∷ more) rest text some e =
    ap (λ items. codes "PRINT*" ++ (items ++ rest)) (after_commas_is (item_text i) (map item_text more)) ∙ ap (λ whole. codes "PRINT*" ++ (44 ∷ whole)) e

abbrev AreItemsAtStart : List ℕ → List WrittenItem → List ℕ → Type 0
AreItemsAtStart text items rest = IsAtStart (λ items. (1 ≤ length items) × All IsItem items) (λ items. with_commas (map item_text items)) text items rest

print_sound : (text : List ℕ) → Each (λ s rest. IsSimpleAtStart (codes "PRINT*" ++ text) s rest) (items_after text)
print_sound [] = (All-nil IsItem, refl, refl)
print_sound (c ∷ text) =
    each_if P (c == 44) (read_as (λ items. WrittenStatement.print PrintForm.Print_star items) (list_at item_at text)) None
    (λ comma. each_as (λ items rest. AreItemsAtStart text items rest) P (λ items. WrittenStatement.print PrintForm.Print_star items) (list_at item_at text) (items_sound text)
    (λ items rest is. (is.0.1, refl, star_text items rest text is.0.0 is.1 ∙ ap (λ d. codes "PRINT*" ++ (d ∷ text)) (sym (eqb-true c 44 comma)))))
    (λ none. tt)
  where
    P : WrittenStatement → List ℕ → Type 0
    P s rest = IsSimpleAtStart (codes "PRINT*" ++ (c ∷ text)) s rest

-- WRITE to a unit
write_sound : (form : PrintForm) (prefix : List ℕ) (text : List ℕ) → ((items : List (List ℕ)) → print_text form items ≡ prefix ++ with_commas items) → Each (λ s rest. IsSimpleAtStart (prefix ++ text) s rest) (items_at form text)
write_sound form prefix [] is = (All-nil IsItem, refl, append-nil (print_text form []) ∙ is [])
write_sound form prefix (c ∷ text) is =
    each_as (λ items rest. AreItemsAtStart (c ∷ text) items rest) (λ s rest. IsSimpleAtStart (prefix ++ (c ∷ text)) s rest) (λ items. WrittenStatement.print form items) (list_at item_at (c ∷ text)) (items_sound (c ∷ text))
    (λ items rest at. (
      at.0.1,
      refl,
      ap (λ whole. whole ++ rest) (is (map item_text items)) ∙ append_assoc prefix (with_commas (map item_text items)) rest ∙ ap (λ whole. prefix ++ whole) at.1,
    ))

targets_sound : (form : ReadForm) (text : List ℕ) → Each (λ s rest. IsSimpleAtStart (read_text form ++ text) s rest) (targets_at form text)
targets_sound form text =
    each_as (λ ws rest. IsAtStart (λ ws. (1 ≤ length ws) × All IsVariable ws) (λ ws. with_commas (map spelling ws)) text ws rest) (λ s rest. IsSimpleAtStart (read_text form ++ text) s rest)
    (λ targets. WrittenStatement.read form targets) (list_at variable_at text) (variables_sound text)
    (λ targets rest is. (is.0, refl, append_assoc (read_text form) (with_commas (map spelling targets)) rest ∙ ap (λ whole. read_text form ++ whole) is.1))

call_sound : (text : List ℕ) → Each (λ s rest. IsSimpleAtStart (codes "CALL" ++ text) s rest) (call_at text)
call_sound text =
    named_sound (λ s rest. IsSimpleAtStart (codes "CALL" ++ text) s rest) (λ name arguments. WrittenStatement.call_of name arguments) text
    (λ name arguments rest is are e. ((is, are), refl, between (codes "CALL") name (names_text arguments) rest ∙ ap (λ more. codes "CALL" ++ more) e))

pub simple_sound : (text : List ℕ) → Each (λ s rest. IsSimpleAtStart text s rest) (simple_at text)
simple_sound text =
    form_or_sound P (alone WrittenStatement.continue) (codes "CONTINUE") text _ (λ rest e. (tt, refl, e))
    (form_or_sound P stop_at (codes "STOP") text _ (λ rest e. moved (codes "STOP" ++ rest) e (stop_at rest) (stop_sound rest))
    (form_or_sound P go_to_at (codes "GOTO") text _ (λ rest e. moved (codes "GOTO" ++ rest) e (go_to_at rest) (go_to_sound rest))
    (form_or_sound P call_at (codes "CALL") text _ (λ rest e. moved (codes "CALL" ++ rest) e (call_at rest) (call_sound rest))
    (form_or_sound P (alone WrittenStatement.go_back) (codes "RETURN") text _ (λ rest e. (tt, refl, e))
    (form_or_sound P items_after (codes "PRINT*") text _ (λ rest e. moved (codes "PRINT*" ++ rest) e (items_after rest) (print_sound rest))
    (form_or_sound P (items_at PrintForm.Write_star) (codes "WRITE(*,*)") text _ (λ rest e. moved (codes "WRITE(*,*)" ++ rest) e (items_at PrintForm.Write_star rest) (write_sound PrintForm.Write_star (codes "WRITE(*,*)") rest (λ items. refl)))
    (form_or_sound P (items_at PrintForm.Write_six) (codes "WRITE(6,*)") text _ (λ rest e. moved (codes "WRITE(6,*)" ++ rest) e (items_at PrintForm.Write_six rest) (write_sound PrintForm.Write_six (codes "WRITE(6,*)") rest (λ items. refl)))
    (form_or_sound P (targets_at ReadForm.Read_star) (codes "READ*,") text _ (λ rest e. moved (codes "READ*," ++ rest) e (targets_at ReadForm.Read_star rest) (targets_sound ReadForm.Read_star rest))
    (form_or_sound P (targets_at ReadForm.Read_unit_star) (codes "READ(*,*)") text _ (λ rest e. moved (codes "READ(*,*)" ++ rest) e (targets_at ReadForm.Read_unit_star rest) (targets_sound ReadForm.Read_unit_star rest))
    (form_or_sound P (targets_at ReadForm.Read_five) (codes "READ(5,*)") text None (λ rest e. moved (codes "READ(5,*)" ++ rest) e (targets_at ReadForm.Read_five rest) (targets_sound ReadForm.Read_five rest))
    tt))))))))))
  where
    P : WrittenStatement → List ℕ → Type 0
    P s rest = IsSimpleAtStart text s rest

    moved : (whole : List ℕ) → whole ≡ text → (x : Reads WrittenStatement) → Each (λ s rest. IsSimpleAtStart whole s rest) x → Each P x
    moved whole e x h = subst (λ (t : List ℕ). Each (λ s rest. IsSimpleAtStart t s rest) x) e h
