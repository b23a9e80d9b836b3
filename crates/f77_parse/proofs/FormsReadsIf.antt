-- IF statements are read as they are written.
use Rattle.std.proofs.Common.{◌≡◌, ℕ, true, List, [], ◌∷◌, ◌++◌, length, nat_lt, ◌&&◌, Some, codes, refl, ap, ◌∙◌, append_assoc}
use Rattle.std.proofs.lemmas.Bool.{and_parts}
use Rattle.std.specs.List.{list_all}
use Rattle.f77_tree.specs.Name.{is_figure}
use Rattle.f77_tree.specs.Grammar.{Written, IsGrammatical, is_number, spelling}
use Rattle.f77_tree.specs.StatementGrammar.{with_commas, in_brackets, PrintForm, ReadForm, WrittenStatement, statement_text, IsStatement}
use Rattle.f77_expr.specs.Reader.{read_as, and_then_read}
use Rattle.f77_expr.proofs.EachRead.{if_true}
use Rattle.f77_parse.specs.Parts.{then_prefix, after, number_at}
use Rattle.f77_parse.specs.Forms.{sign_labels_at, simple_at, condition_at, after_condition, keyword_at}
use Rattle.f77_parse.proofs.PartExpressions.{expression_reads}
use Rattle.f77_parse.proofs.PartNumbers.{number_reads}
use Rattle.f77_parse.proofs.FormsReads.{to_the_end, has_own_keyword, simple_reads}

-- a condition with the bracket that closes it
condition_reads : (w : Written) (text : List ℕ) → IsGrammatical w → condition_at (spelling w ++ codes ")" ++ text) ≡ Some (w, text)
condition_reads w text h = ap condition_at (append_assoc (spelling w) (codes ")") text) ∙ ap (then_prefix (codes ")")) (expression_reads w (41 ∷ text) h refl)

pub if_reads : (w : Written) (text : List ℕ) → IsGrammatical w → keyword_at (codes "IF" ++ in_brackets (spelling w) ++ text) ≡ after_condition w text
if_reads w text h = ap (and_then_read (λ v rest. after_condition v rest)) (condition_reads w text h)

sign_labels_read : (w : Written) (negative zero positive : List ℕ) → list_all is_number (negative ∷ zero ∷ positive ∷ []) ≡ true → sign_labels_at w (with_commas (negative ∷ zero ∷ positive ∷ [])) ≡ Some (WrittenStatement.arithmetic_if w negative zero positive, [])
sign_labels_read w negative zero positive h =
    let one = and_parts (is_number negative) (is_number zero && (is_number positive && true)) h in
    let two = and_parts (is_number zero) (is_number positive && true) one.1 in
    let three = and_parts (is_number positive) true two.1 in
    ap (sign_labels_at w) (append_assoc negative (codes ",") (zero ++ codes "," ++ positive))
    ∙ ap (and_then_read (λ negative second. and_then_read (λ zero third. read_as (λ positive. WrittenStatement.arithmetic_if w negative zero positive) (after (codes ",") (λ next. number_at next) third)) (after (codes ",") (λ next. number_at next) second)))
    (number_reads negative (44 ∷ (zero ++ codes "," ++ positive)) one.0 refl)
    ∙ ap (λ next. and_then_read (λ zero third. read_as (λ positive. WrittenStatement.arithmetic_if w negative zero positive) (after (codes ",") (λ next. number_at next) third)) (number_at next)) (append_assoc zero (codes ",") positive)
    ∙ ap (and_then_read (λ zero third. read_as (λ positive. WrittenStatement.arithmetic_if w negative zero positive) (after (codes ",") (λ next. number_at next) third))) (number_reads zero (44 ∷ positive) two.0 refl)
    ∙ ap (read_as (λ positive. WrittenStatement.arithmetic_if w negative zero positive)) (to_the_end number_at positive positive (number_reads positive [] three.0 refl))

-- labels after a condition
labels_after : (w : Written) (negative zero positive : List ℕ) → list_all is_number (negative ∷ zero ∷ positive ∷ []) ≡ true → after_condition w (with_commas (negative ∷ zero ∷ positive ∷ [])) ≡ Some (WrittenStatement.arithmetic_if w negative zero positive, [])
labels_after w [] zero positive h = absurd cc
labels_after w (d ∷ more) zero positive h =
    let one = and_parts (is_number (d ∷ more)) (is_number zero && (is_number positive && true)) h in
    let figure = and_parts (is_figure d) (list_all is_figure more) (and_parts (nat_lt 0 (length (d ∷ more))) (list_all is_figure (d ∷ more)) one.0).1 in
    if_true (is_figure d) (sign_labels_at w (with_commas ((d ∷ more) ∷ zero ∷ positive ∷ []))) _ figure.0 ∙ sign_labels_read w (d ∷ more) zero positive h

-- a simple form after a condition
simple_after : (w : Written) (s : WrittenStatement) → has_own_keyword s ≡ true → after_condition w (statement_text s) ≡ read_as (λ s. WrittenStatement.logical_if w s) (simple_at (statement_text s))
simple_after w (WrittenStatement.print PrintForm.Print_star items) own = refl
simple_after w (WrittenStatement.print PrintForm.Write_star items) own = refl
simple_after w (WrittenStatement.print PrintForm.Write_six items) own = refl
simple_after w (WrittenStatement.read ReadForm.Read_star targets) own = refl
simple_after w (WrittenStatement.read ReadForm.Read_unit_star targets) own = refl
simple_after w (WrittenStatement.read ReadForm.Read_five targets) own = refl
simple_after w WrittenStatement.continue own = refl
simple_after w (WrittenStatement.stop shown) own = refl
simple_after w (WrittenStatement.go_to label) own = refl
simple_after w (WrittenStatement.computed_go_to labels comma v) own = refl
simple_after w (WrittenStatement.call_of name arguments) own = refl
simple_after w WrittenStatement.go_back own = refl
simple_after w _ own = absurd cc

pub arithmetic_if_reads : (w : Written) (negative zero positive : List ℕ) → IsStatement (WrittenStatement.arithmetic_if w negative zero positive) → keyword_at (statement_text (WrittenStatement.arithmetic_if w negative zero positive)) ≡ Some (WrittenStatement.arithmetic_if w negative zero positive, [])
arithmetic_if_reads w negative zero positive h = if_reads w (with_commas (negative ∷ zero ∷ positive ∷ [])) h.0 ∙ labels_after w negative zero positive h.1

pub block_if_reads : (w : Written) → IsGrammatical w → keyword_at (statement_text (WrittenStatement.block_if w)) ≡ Some (WrittenStatement.block_if w, [])
block_if_reads w h = if_reads w (codes "THEN") h

pub else_if_reads : (w : Written) → IsGrammatical w → keyword_at (statement_text (WrittenStatement.else_if w)) ≡ Some (WrittenStatement.else_if w, [])
else_if_reads w h = ap (λ x. then_prefix (codes "THEN") (read_as (λ v. WrittenStatement.else_if v) x)) (condition_reads w (codes "THEN") h)

-- a logical IF of a simple form with a keyword of its own
pub own_if_reads : (w : Written) (s : WrittenStatement) → IsGrammatical w → IsStatement s → has_own_keyword s ≡ true → keyword_at (statement_text (WrittenStatement.logical_if w s)) ≡ Some (WrittenStatement.logical_if w s, [])
own_if_reads w s h s_is own =
    if_reads w (statement_text s) h ∙ simple_after w s own ∙ ap (read_as (λ s. WrittenStatement.logical_if w s)) (simple_reads s s_is own)

-- a logical IF of an arithmetic one
pub nested_if_reads : (w v : Written) (negative zero positive : List ℕ) → IsGrammatical w → IsStatement (WrittenStatement.arithmetic_if v negative zero positive) → keyword_at (statement_text (WrittenStatement.logical_if w (WrittenStatement.arithmetic_if v negative zero positive))) ≡ Some (WrittenStatement.logical_if w (WrittenStatement.arithmetic_if v negative zero positive), [])
nested_if_reads w v negative zero positive h s_is =
    if_reads w (statement_text (WrittenStatement.arithmetic_if v negative zero positive)) h
    ∙ ap (λ x. read_as (λ s. WrittenStatement.logical_if w s) (and_then_read (λ u rest. sign_labels_at u rest) x)) (condition_reads v (with_commas (negative ∷ zero ∷ positive ∷ [])) s_is.0)
    ∙ ap (read_as (λ s. WrittenStatement.logical_if w s)) (sign_labels_read v negative zero positive s_is.1)
