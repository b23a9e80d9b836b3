-- What the readers of IF statements read is of the grammar, and its text stands before the rest.
use Rattle.std.proofs.Common.{◌≡◌, ℕ, true, List, [], ◌∷◌, ◌++◌, ◌&&◌, codes, refl, sym, ap, subst, ◌∙◌, append_assoc}
use Rattle.std.proofs.lemmas.Bool.{and_from}
use Rattle.f77_tree.specs.Name.{is_figure}
use Rattle.f77_tree.specs.Grammar.{Written, IsGrammatical, is_number, spelling}
use Rattle.f77_tree.specs.StatementGrammar.{in_brackets, WrittenStatement, statement_text}
use Rattle.f77_expr.specs.Reader.{Reads, read_as, and_then_read, after_prefix}
use Rattle.f77_expr.proofs.EachRead.{Each, each_if, each_then, each_as, each_weaker}
use Rattle.f77_parse.specs.Parts.{after, number_at, ends_expression, expression_at_start}
use Rattle.f77_parse.specs.Forms.{form_or, alone, sign_labels_at, simple_at, condition_at, inner_if_at, after_condition, if_at, else_if_at}
use Rattle.f77_parse.proofs.Followers.{IsAtStart}
use Rattle.f77_parse.proofs.PartExpressions.{expression_sound}
use Rattle.f77_parse.proofs.PartNumbers.{number_sound}
use Rattle.f77_parse.proofs.PartReaders.{after_sound, then_prefix_sound}
use Rattle.f77_parse.proofs.FormsSound.{IsStatementAtStart, IsSimpleAtStart, form_or_sound, simple_sound}

-- a condition before its closing bracket
abbrev IsConditionAtStart : List ℕ → Written → List ℕ → Type 0
IsConditionAtStart text w rest = IsGrammatical w × (spelling w ++ (41 ∷ rest) ≡ text)

condition_sound : (text : List ℕ) → Each (λ w rest. IsConditionAtStart text w rest) (condition_at text)
condition_sound text =
    then_prefix_sound (λ w rest. IsConditionAtStart text w rest) (λ w rest. IsGrammatical w × (spelling w ++ rest ≡ text) × (ends_expression rest ≡ true)) (codes ")") (expression_at_start text)
    (expression_sound text) (λ w rest is. (is.0, is.1))

-- a label after a comma
label_after : (text : List ℕ) → Each (λ digits rest. (is_number digits ≡ true) × (44 ∷ (digits ++ rest) ≡ text)) (after (codes ",") (λ next. number_at next) text)
label_after text =
    after_sound (λ digits rest. (is_number digits ≡ true) × (44 ∷ (digits ++ rest) ≡ text)) (codes ",") (λ next. number_at next) text
    (λ next e. each_weaker (λ digits rest. IsAtStart (λ digits. is_number digits ≡ true) (λ digits. digits) next digits rest) (λ digits rest. (is_number digits ≡ true) × (44 ∷ (digits ++ rest) ≡ text)) (number_at next)
    (λ digits rest is. (is.0, ap (λ (more : List ℕ). 44 ∷ more) is.1 ∙ e)) (number_sound next))

three_labels : (prefix negative zero positive rest : List ℕ) → (prefix ++ ((negative ++ (44 ∷ [])) ++ ((zero ++ (44 ∷ [])) ++ positive))) ++ rest ≡ prefix ++ (negative ++ (44 ∷ (zero ++ (44 ∷ (positive ++ rest)))))
three_labels prefix negative zero positive rest = simp append_assoc

-- the text of an IF with something after its condition
abbrev if_text : Written → List ℕ → List ℕ
if_text w text = codes "IF" ++ in_brackets (spelling w) ++ text

sign_labels_sound : (w : Written) (text : List ℕ) → IsGrammatical w → Each (λ s rest. IsSimpleAtStart (if_text w text) s rest) (sign_labels_at w text)
sign_labels_sound w text w_is =
    each_then (λ digits rest. IsAtStart (λ digits. is_number digits ≡ true) (λ digits. digits) text digits rest) P (λ negative second. after_one negative second) (number_at text) (number_sound text)
    (λ negative second is. each_then (λ digits rest. (is_number digits ≡ true) × (44 ∷ (digits ++ rest) ≡ second)) P (λ zero third. after_two negative zero third) (after (codes ",") (λ next. number_at next) second) (label_after second)
    (λ zero third is_zero. each_as (λ digits rest. (is_number digits ≡ true) × (44 ∷ (digits ++ rest) ≡ third)) P (λ positive. WrittenStatement.arithmetic_if w negative zero positive) (after (codes ",") (λ next. number_at next) third) (label_after third)
    (λ positive rest is_positive. (
      (w_is, and_from (is_number negative) (is_number zero && (is_number positive && true)) is.0 (and_from (is_number zero) (is_number positive && true) is_zero.0 (and_from (is_number positive) true is_positive.0 refl))),
      refl,
      three_labels (codes "IF" ++ in_brackets (spelling w)) negative zero positive rest
          ∙ ap (λ (more : List ℕ). codes "IF" ++ in_brackets (spelling w) ++ (negative ++ (44 ∷ (zero ++ more)))) is_positive.1
          ∙ ap (λ (more : List ℕ). codes "IF" ++ in_brackets (spelling w) ++ (negative ++ more)) is_zero.1
          ∙ ap (λ (more : List ℕ). codes "IF" ++ in_brackets (spelling w) ++ more) is.1,
    ))))
  where
    P : WrittenStatement → List ℕ → Type 0
    P s rest = IsSimpleAtStart (if_text w text) s rest

    after_two : List ℕ → List ℕ → List ℕ → Reads WrittenStatement
    after_two negative zero third = read_as (λ positive. WrittenStatement.arithmetic_if w negative zero positive) (after (codes ",") (λ next. number_at next) third)

    after_one : List ℕ → List ℕ → Reads WrittenStatement
    after_one negative second = and_then_read (λ zero third. after_two negative zero third) (after (codes ",") (λ next. number_at next) second)

-- after the opening bracket
if_after : (w : Written) (text rest : List ℕ) → spelling w ++ (41 ∷ rest) ≡ text → if_text w rest ≡ codes "IF(" ++ text
if_after w text rest e = ap (λ (more : List ℕ). codes "IF(" ++ more) (append_assoc (spelling w) (codes ")") rest ∙ e)

inner_if_sound : (text : List ℕ) → Each (λ s rest. IsSimpleAtStart (codes "IF(" ++ text) s rest) (inner_if_at text)
inner_if_sound text =
    each_then (λ w rest. IsConditionAtStart text w rest) (λ s rest. IsSimpleAtStart (codes "IF(" ++ text) s rest) (λ w rest. sign_labels_at w rest) (condition_at text) (condition_sound text)
    (λ w rest is. subst (λ (whole : List ℕ). Each (λ s beyond. IsSimpleAtStart whole s beyond) (sign_labels_at w rest)) (if_after w text rest is.1) (sign_labels_sound w rest is.0))

-- a statement after a condition
pub conditional_text : (w : Written) (s : WrittenStatement) (text rest : List ℕ) → statement_text s ++ rest ≡ text → statement_text (WrittenStatement.logical_if w s) ++ rest ≡ if_text w text
conditional_text w s text rest e = append_assoc (codes "IF" ++ in_brackets (spelling w)) (statement_text s) rest ∙ ap (λ (more : List ℕ). codes "IF" ++ in_brackets (spelling w) ++ more) e

after_condition_sound : (w : Written) (text : List ℕ) → IsGrammatical w → Each (λ s rest. IsStatementAtStart (if_text w text) s rest) (after_condition w text)
after_condition_sound w [] w_is = tt
after_condition_sound w (c ∷ text) w_is =
    each_if P (is_figure c) (sign_labels_at w (c ∷ text)) (form_or (alone (WrittenStatement.block_if w)) (after_prefix (codes "THEN") (c ∷ text)) conditional)
    (λ figure. each_weaker (λ s rest. IsSimpleAtStart (if_text w (c ∷ text)) s rest) P (sign_labels_at w (c ∷ text)) (λ s rest is. (is.0, is.2)) (sign_labels_sound w (c ∷ text) w_is))
    (λ none. form_or_sound P (alone (WrittenStatement.block_if w)) (codes "THEN") (c ∷ text) conditional
    (λ rest e. (w_is, append_assoc (codes "IF" ++ in_brackets (spelling w)) (codes "THEN") rest ∙ ap (λ (more : List ℕ). codes "IF" ++ in_brackets (spelling w) ++ more) e))
    (each_as S P (λ s. WrittenStatement.logical_if w s) inner
    (form_or_sound S inner_if_at (codes "IF(") (c ∷ text) (simple_at (c ∷ text))
    (λ rest e. subst (λ (whole : List ℕ). Each (λ s beyond. IsSimpleAtStart whole s beyond) (inner_if_at rest)) e (inner_if_sound rest)) (simple_sound (c ∷ text)))
    (λ s rest is. ((w_is, is.0, is.1), conditional_text w s (c ∷ text) rest is.2))))
  where
    P : WrittenStatement → List ℕ → Type 0
    P s rest = IsStatementAtStart (if_text w (c ∷ text)) s rest

    S : WrittenStatement → List ℕ → Type 0
    S s rest = IsSimpleAtStart (c ∷ text) s rest

    inner : Reads WrittenStatement
    inner = form_or inner_if_at (after_prefix (codes "IF(") (c ∷ text)) (simple_at (c ∷ text))

    conditional : Reads WrittenStatement
    conditional = read_as (λ s. WrittenStatement.logical_if w s) inner

pub if_sound : (text : List ℕ) → Each (λ s rest. IsStatementAtStart (codes "IF(" ++ text) s rest) (if_at text)
if_sound text =
    each_then (λ w rest. IsConditionAtStart text w rest) (λ s rest. IsStatementAtStart (codes "IF(" ++ text) s rest) (λ w rest. after_condition w rest) (condition_at text) (condition_sound text)
    (λ w rest is. subst (λ (whole : List ℕ). Each (λ s beyond. IsStatementAtStart whole s beyond) (after_condition w rest)) (if_after w text rest is.1) (after_condition_sound w rest is.0))

pub else_if_sound : (text : List ℕ) → Each (λ s rest. IsStatementAtStart (codes "ELSEIF(" ++ text) s rest) (else_if_at text)
else_if_sound text =
    then_prefix_sound (λ s rest. IsStatementAtStart (codes "ELSEIF(" ++ text) s rest) Q (codes "THEN") (read_as (λ w. WrittenStatement.else_if w) (condition_at text))
    (each_as (λ w rest. IsConditionAtStart text w rest) Q (λ w. WrittenStatement.else_if w) (condition_at text) (condition_sound text)
    (λ w rest is. λ more e. (is.0, closing w more ∙ ap (λ (whole : List ℕ). codes "ELSEIF(" ++ (spelling w ++ (41 ∷ whole))) (sym e) ∙ ap (λ (whole : List ℕ). codes "ELSEIF(" ++ whole) is.1)))
    (λ s rest is. is rest refl)
  where
    -- where THEN stands after it
    Q : WrittenStatement → List ℕ → Type 0
    Q s rest = (more : List ℕ) → rest ≡ codes "THEN" ++ more → IsStatementAtStart (codes "ELSEIF(" ++ text) s more

    closing : (w : Written) (more : List ℕ) → statement_text (WrittenStatement.else_if w) ++ more ≡ codes "ELSEIF(" ++ (spelling w ++ (41 ∷ (codes "THEN" ++ more)))
    closing w more = ap (λ (whole : List ℕ). codes "ELSEIF(" ++ whole) (append_assoc (spelling w ++ codes ")") (codes "THEN") more ∙ append_assoc (spelling w) (codes ")") (codes "THEN" ++ more))
