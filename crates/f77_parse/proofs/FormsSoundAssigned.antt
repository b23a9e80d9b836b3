-- What the readers of assignments and of DO read is of the grammar, and its text stands before the rest.
use Rattle.std.proofs.Common.{◌≡◌, ◌==◌, ℕ, Bool, true, false, List, [], ◌∷◌, ◌++◌, Option, Some, None, if◌then◌else◌, codes, refl, sym, ap, subst, ◌∙◌, append_assoc}
use Rattle.std.proofs.lemmas.Bool.{eqb-true}
use Rattle.std.proofs.lemmas.Slice.Eq.{bytes_eq-Decides}
use Rattle.std.specs.Str.{bytes_eq}
use Rattle.f77_tree.specs.Name.{is_name}
use Rattle.f77_tree.specs.Grammar.{Written, Arguments, IsGrammatical, is_number, spelling}
use Rattle.f77_tree.specs.StatementGrammar.{in_brackets, comma_if, IsVariable, step_text, IsStep, WrittenStatement, statement_text}
use Rattle.f77_expr.specs.Reader.{Reads, read_as, and_then_read}
use Rattle.f77_expr.proofs.EachRead.{Each, each_if, each_then, each_as, each_weaker}
use Rattle.f77_parse.specs.Parts.{after, number_at, name_at, comma_at, ends_expression, expression_at_start, variable_at}
use Rattle.f77_parse.specs.Forms.{step_at, do_at, assigned_at, condition_of, conditional_at, equals_after, equals_at}
use Rattle.f77_parse.proofs.Followers.{IsAtStart}
use Rattle.f77_parse.proofs.PartExpressions.{expression_sound, variable_sound}
use Rattle.f77_parse.proofs.PartNumbers.{number_sound, name_sound}
use Rattle.f77_parse.proofs.PartReaders.{after_sound, comma_is}
use Rattle.f77_parse.proofs.FormsSound.{IsStatementAtStart, IsSimpleAtStart}
use Rattle.f77_parse.proofs.FormsSoundIf.{conditional_text}

-- an expression after a character
expression_after : (c : ℕ) (text : List ℕ) → Each (λ w rest. IsGrammatical w × (c ∷ (spelling w ++ rest) ≡ text)) (after (c ∷ []) (λ next. expression_at_start next) text)
expression_after c text =
    after_sound (λ w rest. IsGrammatical w × (c ∷ (spelling w ++ rest) ≡ text)) (c ∷ []) (λ next. expression_at_start next) text
    (λ next e. each_weaker (λ w rest. IsGrammatical w × (spelling w ++ rest ≡ next) × (ends_expression rest ≡ true)) (λ w rest. IsGrammatical w × (c ∷ (spelling w ++ rest) ≡ text)) (expression_at_start next)
    (λ w rest is. (is.0, ap (λ (more : List ℕ). c ∷ more) is.1 ∙ e)) (expression_sound next))

-- ---- assignments

equation : (a b c rest : List ℕ) → a ++ b ++ c ++ rest ≡ a ++ (b ++ (c ++ rest))
equation a b c rest = simp append_assoc

assigned_sound : (target : Written) (text : List ℕ) → IsVariable target → Each (λ s rest. IsSimpleAtStart (spelling target ++ text) s rest) (assigned_at target text)
assigned_sound target text target_is =
    after_sound P (codes "=") (λ next. read_as (λ value. WrittenStatement.assignment target value) (expression_at_start next)) text
    (λ next e. each_as (λ w rest. IsGrammatical w × (spelling w ++ rest ≡ next) × (ends_expression rest ≡ true)) P (λ value. WrittenStatement.assignment target value) (expression_at_start next) (expression_sound next)
    (λ value rest is. (
      (target_is, is.0),
      refl,
      equation (spelling target) (codes "=") (spelling value) rest ∙ ap (λ (more : List ℕ). spelling target ++ (61 ∷ more)) is.1 ∙ ap (λ (more : List ℕ). spelling target ++ more) e,
    )))
  where
    P : WrittenStatement → List ℕ → Type 0
    P s rest = IsSimpleAtStart (spelling target ++ text) s rest

-- a variable is IF with a condition
abbrev IsConditionOf : Written → Option Written → Type 0
IsConditionOf w None = Unit {0}
IsConditionOf w (Some condition) = IsGrammatical condition × (spelling w ≡ codes "IF" ++ in_brackets (spelling condition))

condition_of_sound : (w : Written) → IsGrammatical w → IsConditionOf w (condition_of w)
condition_of_sound (Written.call name (Arguments.last condition)) h = here (bytes_eq name (codes "IF")) refl
  where
    here : (b : Bool) → bytes_eq name (codes "IF") ≡ b → IsConditionOf (Written.call name (Arguments.last condition)) (if b then Some condition else None)
    here true e = (h.1, ap (λ (word : List ℕ). spelling (Written.call word (Arguments.last condition))) ((bytes_eq-Decides name (codes "IF")).0 e))
    here false e = tt
condition_of_sound (Written.call name (Arguments.before w more)) h = tt
condition_of_sound (Written.number digits) h = tt
condition_of_sound (Written.truth b) h = tt
condition_of_sound (Written.name name) h = tt
condition_of_sound (Written.bracketed w) h = tt
condition_of_sound (Written.plus w) h = tt
condition_of_sound (Written.minus w) h = tt
condition_of_sound (Written.negation w) h = tt
condition_of_sound (Written.binary op a b) h = tt

conditional_sound : (w : Written) (text : List ℕ) (x : Option Written) → IsConditionOf w x → Each (λ s rest. IsStatementAtStart (spelling w ++ text) s rest) (conditional_at text x)
conditional_sound w text None is = tt
conditional_sound w text (Some condition) is =
    each_as S (λ s rest. IsStatementAtStart (spelling w ++ text) s rest) (λ s. WrittenStatement.logical_if condition s) (and_then_read (λ target rest. assigned_at target rest) (variable_at text))
    (each_then (λ v rest. IsAtStart IsVariable spelling text v rest) S (λ target rest. assigned_at target rest) (variable_at text) (variable_sound text)
    (λ target rest at. subst (λ (whole : List ℕ). Each (λ s beyond. IsSimpleAtStart whole s beyond) (assigned_at target rest)) at.1 (assigned_sound target rest at.0)))
    (λ s rest at. ((is.0, at.0, at.1), conditional_text condition s text rest at.2 ∙ ap (λ (prefix : List ℕ). prefix ++ text) (sym is.1)))
  where
    S : WrittenStatement → List ℕ → Type 0
    S s rest = IsSimpleAtStart text s rest

equals_after_sound : (w : Written) (text : List ℕ) → IsVariable w → Each (λ s rest. IsStatementAtStart (spelling w ++ text) s rest) (equals_after w text)
equals_after_sound w [] is = tt
equals_after_sound w (c ∷ text) is =
    each_if P (c == 61) (assigned_at w (c ∷ text)) (conditional_at (c ∷ text) (condition_of w))
    (λ equals. each_weaker (λ s rest. IsSimpleAtStart (spelling w ++ (c ∷ text)) s rest) P (assigned_at w (c ∷ text)) (λ s rest at. (at.0, at.2)) (assigned_sound w (c ∷ text) is))
    (λ none. conditional_sound w (c ∷ text) (condition_of w) (condition_of_sound w is.grammatical))
  where
    P : WrittenStatement → List ℕ → Type 0
    P s rest = IsStatementAtStart (spelling w ++ (c ∷ text)) s rest

pub equals_sound : (text : List ℕ) → Each (λ s rest. IsStatementAtStart text s rest) (equals_at text)
equals_sound text =
    each_then (λ v rest. IsAtStart IsVariable spelling text v rest) (λ s rest. IsStatementAtStart text s rest) (λ w rest. equals_after w rest) (variable_at text) (variable_sound text)
    (λ w rest is. subst (λ (whole : List ℕ). Each (λ s beyond. IsStatementAtStart whole s beyond) (equals_after w rest)) is.1 (equals_after_sound w rest is.0))

-- ---- DO

step_sound : (text : List ℕ) → Each (λ step rest. IsStep step × (step_text step ++ rest ≡ text)) (step_at text)
step_sound [] = (tt, refl)
step_sound (c ∷ text) =
    each_if P (c == 44) (read_as (λ w. Some w) (expression_at_start text)) (Some (None, c ∷ text))
    (λ comma. each_as (λ w rest. IsGrammatical w × (spelling w ++ rest ≡ text) × (ends_expression rest ≡ true)) P (λ w. Some w) (expression_at_start text) (expression_sound text)
    (λ w rest is. (is.0, ap (λ (more : List ℕ). 44 ∷ more) is.1 ∙ ap (λ d. d ∷ text) (sym (eqb-true c 44 comma)))))
    (λ none. (tt, refl))
  where
    P : Option Written → List ℕ → Type 0
    P step rest = IsStep step × (step_text step ++ rest ≡ c ∷ text)

-- the text of DO before more, from the right
pub do_at_start : (label : List ℕ) (comma : Bool) (variable : List ℕ) (first last : Written) (step : Option Written) (rest : List ℕ) → statement_text (WrittenStatement.do_loop label comma variable first last step) ++ rest ≡ codes "DO" ++ (label ++ (comma_if comma ++ (variable ++ (61 ∷ (spelling first ++ (44 ∷ (spelling last ++ (step_text step ++ rest))))))))
do_at_start label comma variable first last step rest = simp append_assoc

module _ (label : List ℕ) (comma : Bool) (variable : List ℕ) where
  -- DO with some text after its variable
  abbrev do_before : List ℕ → List ℕ
  do_before text = codes "DO" ++ (label ++ (comma_if comma ++ (variable ++ text)))

  -- DO from its step on
  abbrev pub step_part : Written → Written → List ℕ → Reads WrittenStatement
  step_part first last text = read_as (λ step. WrittenStatement.do_loop label comma variable first last step) (step_at text)

  -- from its last value on
  abbrev pub last_part : Written → List ℕ → Reads WrittenStatement
  last_part first text = and_then_read (λ last rest. step_part first last rest) (after (codes ",") (λ next. expression_at_start next) text)

  -- from its first value on
  abbrev pub first_part : List ℕ → Reads WrittenStatement
  first_part text = and_then_read (λ first rest. last_part first rest) (after (codes "=") (λ next. expression_at_start next) text)

module _ (label : List ℕ) (comma : Bool) (variable : List ℕ) (label_is : is_number label ≡ true) (variable_is : is_name variable ≡ true) where
  step_part_sound : (first last : Written) (text : List ℕ) → IsGrammatical first → IsGrammatical last → Each (λ s rest. IsStatementAtStart (do_before label comma variable (61 ∷ (spelling first ++ (44 ∷ (spelling last ++ text))))) s rest) (step_part label comma variable first last text)
  step_part_sound first last text first_is last_is =
      each_as (λ step rest. IsStep step × (step_text step ++ rest ≡ text)) (λ s rest. IsStatementAtStart (do_before label comma variable (61 ∷ (spelling first ++ (44 ∷ (spelling last ++ text))))) s rest)
      (λ step. WrittenStatement.do_loop label comma variable first last step) (step_at text) (step_sound text)
      (λ step rest is. (
        (label_is, variable_is, first_is, last_is, is.0),
        do_at_start label comma variable first last step rest ∙ ap (λ (more : List ℕ). do_before label comma variable (61 ∷ (spelling first ++ (44 ∷ (spelling last ++ more))))) is.1,
      ))

  last_part_sound : (first : Written) (text : List ℕ) → IsGrammatical first → Each (λ s rest. IsStatementAtStart (do_before label comma variable (61 ∷ (spelling first ++ text))) s rest) (last_part label comma variable first text)
  last_part_sound first text first_is =
      each_then (λ w rest. IsGrammatical w × (44 ∷ (spelling w ++ rest) ≡ text)) (λ s rest. IsStatementAtStart (do_before label comma variable (61 ∷ (spelling first ++ text))) s rest) (λ last rest. step_part label comma variable first last rest) (after (codes ",") (λ next. expression_at_start next) text) (expression_after 44 text)
      (λ last rest is. subst (λ (whole : List ℕ). Each (λ s beyond. IsStatementAtStart (do_before label comma variable (61 ∷ (spelling first ++ whole))) s beyond) (step_part label comma variable first last rest)) is.1 (step_part_sound first last rest first_is is.0))

  first_part_sound : (text : List ℕ) → Each (λ s rest. IsStatementAtStart (do_before label comma variable text) s rest) (first_part label comma variable text)
  first_part_sound text =
      each_then (λ w rest. IsGrammatical w × (61 ∷ (spelling w ++ rest) ≡ text)) (λ s rest. IsStatementAtStart (do_before label comma variable text) s rest) (λ first rest. last_part label comma variable first rest) (after (codes "=") (λ next. expression_at_start next) text) (expression_after 61 text)
      (λ first rest is. subst (λ (whole : List ℕ). Each (λ s beyond. IsStatementAtStart (do_before label comma variable whole) s beyond) (last_part label comma variable first rest)) is.1 (last_part_sound first rest is.0))

-- DO from its comma on
abbrev pub variable_part : List ℕ → List ℕ → Reads WrittenStatement
variable_part label text = and_then_read (λ variable rest. first_part label (comma_at text).0 variable rest) (name_at (comma_at text).1)

variable_part_sound : (label text : List ℕ) → is_number label ≡ true → Each (λ s rest. IsStatementAtStart (codes "DO" ++ (label ++ text)) s rest) (variable_part label text)
variable_part_sound label text label_is =
    each_then (λ name rest. IsAtStart (λ name. is_name name ≡ true) (λ name. name) (comma_at text).1 name rest) (λ s rest. IsStatementAtStart (codes "DO" ++ (label ++ text)) s rest) (λ variable rest. first_part label (comma_at text).0 variable rest) (name_at (comma_at text).1) (name_sound (comma_at text).1)
    (λ variable rest is. subst (λ (whole : List ℕ). Each (λ s beyond. IsStatementAtStart (codes "DO" ++ (label ++ whole)) s beyond) (first_part label (comma_at text).0 variable rest))
    (ap (λ (more : List ℕ). comma_if (comma_at text).0 ++ more) is.1 ∙ comma_is text) (first_part_sound label (comma_at text).0 variable label_is is.0 rest))

pub do_sound : (text : List ℕ) → Each (λ s rest. IsStatementAtStart text s rest) (do_at text)
do_sound text =
    after_sound (λ s rest. IsStatementAtStart text s rest) (codes "DO") (λ next. and_then_read (λ label rest. variable_part label rest) (number_at next)) text
    (λ next e. each_then (λ digits rest. IsAtStart (λ digits. is_number digits ≡ true) (λ digits. digits) next digits rest) (λ s rest. IsStatementAtStart text s rest) (λ label rest. variable_part label rest) (number_at next) (number_sound next)
    (λ label rest is. subst (λ (whole : List ℕ). Each (λ s beyond. IsStatementAtStart whole s beyond) (variable_part label rest)) (ap (λ (more : List ℕ). codes "DO" ++ more) is.1 ∙ e) (variable_part_sound label rest is.0)))
