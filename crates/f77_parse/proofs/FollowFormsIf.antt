-- IF statements: what is kept of them.
use Rattle.std.proofs.Common.{◌≡◌, ◌||◌, ℕ, suc, Bool, true, false, List, [], ◌∷◌, length, take_while, Some, None, if◌then◌else◌, codes, refl, sym, ap, ◌∙◌, arith}
use Rattle.std.specs.Prelude.{nat_lt}
use Rattle.std.proofs.Math.Bool.{or_assoc}
use Rattle.std.proofs.lemmas.Bool.{lt-ltb}
use Rattle.f77_tree.specs.declared.statements.Stmt.{Stmt}
use Rattle.f77_tree.specs.declared.statements.Stmt.TheVariants.{SignIf, ThenIf, BlockIf, ElseIf}
use Rattle.f77_tree.specs.Name.{is_figure}
use Rattle.f77_tree.specs.Grammar.{Written, has_great_number}
use Rattle.f77_tree.specs.StatementGrammar.{WrittenStatement, has_bad_constant, is_bad_label}
use Rattle.f77_expr.specs.Answers.{kept}
use Rattle.f77_expr.specs.Reader.{Reads, read_as, and_then_read, after_prefix}
use Rattle.f77_expr.proofs.Prefixes.{run_grows, run_ends}
use Rattle.f77_parse.specs.Parts.{beyond, after, then_prefix, number_at, expression_at_start}
use Rattle.f77_parse.specs.Forms.{form_or, alone, sign_labels_at, condition_at, inner_if_at, after_condition, if_at, else_if_at, simple_at}
use Rattle.f77_parse.specs.Keeping.{Keeps, keep_then, where_prefix, wanted, label_kept, expression_kept}
use Rattle.f77_parse.specs.KeptForms.{as_stmt, sign_labels_kept, condition_kept, guarded_kept, if_kept, else_if_kept, simple_kept}
use Rattle.f77_parse.specs.KeptValues.{kept_label, kept_statement}
use Rattle.f77_parse.proofs.FollowLemmas.{or_none, then_told, as_told, wanted_told, if_told, then_prefix_told}
use Rattle.f77_parse.proofs.FollowLemmas.{told}
use Rattle.f77_parse.proofs.FollowNumbers.{label_told, expression_told}
use Rattle.f77_parse.proofs.FollowFormsSimple.{told_statement, form_told, simple_told}

-- ---- three labels

five_flags : (start condition negative none positive : Bool) → ((((start || condition) || negative) || none) || positive) ≡ (start || (condition || (negative || (none || (positive || false)))))
five_flags true condition negative none positive = refl
five_flags false true negative none positive = refl
five_flags false false true none positive = refl
five_flags false false false true positive = refl
five_flags false false false false positive = sym (or_none positive)

sign_labels_told : (start : Bool) (w : Written) (text : List ℕ) → sign_labels_kept (kept w) (start || has_great_number w) text ≡ told_statement start (sign_labels_at w text)
unfolding sign_labels_kept
sign_labels_told start w text =
    let bad_1 = start || has_great_number w in
    then_told kept_label is_bad_label bad_1 kept_statement has_bad_constant start (λ negative second. from_zero negative (after (codes ",") (λ next. number_at next) second)) (λ negative bad text_1. kept_from_zero negative bad text_1) (number_at text) (label_kept bad_1 text) (label_told bad_1 text)
    (λ negative second.
    let bad_2 = bad_1 || is_bad_label negative in
    wanted_told kept_statement has_bad_constant start (λ o. from_zero negative (beyond (λ next. number_at next) o)) (λ found bad text_2. keep_then (label_kept bad text_2) (λ none bad_3 text_3. kept_from_positive (kept_label negative) none bad_3 text_3)) (codes ",") bad_2 second refl
    (λ text_2. then_told kept_label is_bad_label bad_2 kept_statement has_bad_constant start (λ none third. from_positive negative none (after (codes ",") (λ next. number_at next) third)) (λ none bad_3 text_3. kept_from_positive (kept_label negative) none bad_3 text_3) (number_at text_2) (label_kept bad_2 text_2) (label_told bad_2 text_2)
    (λ none third.
    let bad_3 = bad_2 || is_bad_label none in
    wanted_told kept_statement has_bad_constant start (λ o. from_positive negative none (beyond (λ next. number_at next) o)) (λ found bad text_4. as_stmt (λ positive. SignIf (kept w) (kept_label negative) (kept_label none) positive) (label_kept bad text_4)) (codes ",") bad_3 third refl
    (λ text_4. as_told kept_label is_bad_label bad_3 kept_statement has_bad_constant start (λ positive. WrittenStatement.arithmetic_if w negative none positive) (λ positive. SignIf (kept w) (kept_label negative) (kept_label none) positive) (number_at text_4) (label_kept bad_3 text_4) (label_told bad_3 text_4)
    (λ positive. refl) (λ positive. five_flags start (has_great_number w) (is_bad_label negative) (is_bad_label none) (is_bad_label positive))))))
  where
    from_positive : List ℕ → List ℕ → Reads (List ℕ) → Reads WrittenStatement
    from_positive negative none x = read_as (λ positive. WrittenStatement.arithmetic_if w negative none positive) x

    from_zero : List ℕ → Reads (List ℕ) → Reads WrittenStatement
    from_zero negative x = and_then_read (λ none third. from_positive negative none (after (codes ",") (λ next. number_at next) third)) x

    kept_from_positive : ℕ → ℕ → Bool → List ℕ → Keeps Stmt
    kept_from_positive negative none bad text_3 = keep_then (wanted (codes ",") bad text_3) (λ found bad_4 text_4. as_stmt (λ positive. SignIf (kept w) negative none positive) (label_kept bad_4 text_4))

    kept_from_zero : ℕ → Bool → List ℕ → Keeps Stmt
    kept_from_zero negative bad text_1 = keep_then (wanted (codes ",") bad text_1) (λ found bad_2 text_2. keep_then (label_kept bad_2 text_2) (λ none bad_3 text_3. kept_from_positive negative none bad_3 text_3))

-- ---- a condition

condition_told : (bad : Bool) (text : List ℕ) → condition_kept bad text ≡ told kept has_great_number bad (condition_at text)
unfolding condition_kept
condition_told bad text = then_prefix_told kept has_great_number bad (codes ")") (expression_at_start text) (expression_kept bad text) (expression_told bad text)

-- ---- what stands after a condition

guarded_told : (bad : Bool) (text : List ℕ) → guarded_kept bad text ≡ told_statement bad (form_or inner_if_at (after_prefix (codes "IF(") text) (simple_at text))
unfolding guarded_kept
guarded_told bad text =
    form_told bad inner_if_at (after_prefix (codes "IF(") text) (simple_at text) (λ inside. keep_then (condition_kept bad inside) (λ inner bad_now rest. sign_labels_kept inner bad_now rest)) (simple_kept bad text)
    (λ inside. then_told kept has_great_number bad kept_statement has_bad_constant bad (λ w rest. sign_labels_at w rest) (λ inner bad_now rest. sign_labels_kept inner bad_now rest) (condition_at inside) (condition_kept bad inside) (condition_told bad inside) (λ w rest. sign_labels_told bad w rest))
    (simple_told bad text)

some_figures : (c : ℕ) (text : List ℕ) → nat_lt 0 (length (take_while is_figure (c ∷ text))) ≡ is_figure c
some_figures c text = here (is_figure c) refl
  where
    here : (b : Bool) → is_figure c ≡ b → nat_lt 0 (length (take_while is_figure (c ∷ text))) ≡ b
    here true e = ap (λ (run : List ℕ). nat_lt 0 (length run)) (run_grows is_figure c text e) ∙ lt-ltb 0 (suc (length (take_while is_figure text))) (omega arith)
    here false e = ap (λ (run : List ℕ). nat_lt 0 (length run)) (run_ends is_figure c text e)

module _ (start : Bool) (w : Written) where
  abbrev bad : Bool
  bad = start || has_great_number w

  abbrev logical : List ℕ → Reads WrittenStatement
  logical text = read_as (λ s. WrittenStatement.logical_if w s) (form_or inner_if_at (after_prefix (codes "IF(") text) (simple_at text))

  abbrev logical_kept : List ℕ → Keeps Stmt
  logical_kept text = as_stmt (λ stmt. ThenIf (kept w) stmt) (guarded_kept bad text)

  logical_told : (text : List ℕ) → logical_kept text ≡ told_statement start (logical text)
  logical_told text =
      as_told kept_statement has_bad_constant bad kept_statement has_bad_constant start (λ s. WrittenStatement.logical_if w s) (λ stmt. ThenIf (kept w) stmt) (form_or inner_if_at (after_prefix (codes "IF(") text) (simple_at text)) (guarded_kept bad text) (guarded_told bad text)
      (λ s. refl) (λ s. or_assoc start (has_great_number w) (has_bad_constant s))

  -- THEN, or a statement
  abbrev others_kept : List ℕ → Keeps Stmt
  others_kept text = where_prefix (after_prefix (codes "THEN") text) (λ more. Some (BlockIf (kept w), bad, more)) (logical_kept text)

  after_condition_told : (text : List ℕ) → (if nat_lt 0 (length (take_while is_figure text)) then sign_labels_kept (kept w) bad text else others_kept text) ≡ told_statement start (after_condition w text)
  after_condition_told [] = logical_told []
  after_condition_told (c ∷ text) =
      ap (λ (b : Bool). if b then sign_labels_kept (kept w) bad (c ∷ text) else others_kept (c ∷ text)) (some_figures c text)
      ∙ if_told kept_statement has_bad_constant start (is_figure c) (sign_labels_at w (c ∷ text)) (form_or (alone (WrittenStatement.block_if w)) (after_prefix (codes "THEN") (c ∷ text)) (logical (c ∷ text))) (sign_labels_kept (kept w) bad (c ∷ text)) (others_kept (c ∷ text))
      (sign_labels_told start w (c ∷ text))
      (form_told start (alone (WrittenStatement.block_if w)) (after_prefix (codes "THEN") (c ∷ text)) (logical (c ∷ text)) (λ more. Some (BlockIf (kept w), bad, more)) (logical_kept (c ∷ text)) (λ more. refl) (logical_told (c ∷ text)))

pub if_statement_told : (bad : Bool) (text : List ℕ) → if_kept bad text ≡ told_statement bad (if_at text)
unfolding if_kept
if_statement_told bad text =
    then_told kept has_great_number bad kept_statement has_bad_constant bad (λ w rest. after_condition w rest)
    (λ condition bad_now rest. if nat_lt 0 (length (take_while is_figure rest)) then sign_labels_kept condition bad_now rest
    else where_prefix (after_prefix (codes "THEN") rest) (λ more. Some (BlockIf condition, bad_now, more))
    (as_stmt (λ stmt. ThenIf condition stmt) (guarded_kept bad_now rest)))
    (condition_at text) (condition_kept bad text) (condition_told bad text) (λ w rest. after_condition_told bad w rest)

-- ---- ELSE IF

closing : (x : Reads Written) → then_prefix (codes "THEN") (read_as (λ w. WrittenStatement.else_if w) x) ≡ and_then_read (λ w rest. after (codes "THEN") (λ more. Some (WrittenStatement.else_if w, more)) rest) x
closing None = refl
closing (Some (w, rest)) = refl

pub else_if_told : (bad : Bool) (text : List ℕ) → else_if_kept bad text ≡ told_statement bad (else_if_at text)
unfolding else_if_kept
else_if_told bad text =
    then_told kept has_great_number bad kept_statement has_bad_constant bad (λ w rest. after (codes "THEN") (λ more. Some (WrittenStatement.else_if w, more)) rest) (λ condition bad_now rest. as_stmt (λ found. ElseIf condition) (wanted (codes "THEN") bad_now rest)) (condition_at text) (condition_kept bad text) (condition_told bad text)
    (λ w rest. wanted_told kept_statement has_bad_constant bad (λ o. beyond (λ more. Some (WrittenStatement.else_if w, more)) o) (λ found bad_then more. Some (ElseIf (kept w), bad_then, more)) (codes "THEN") (bad || has_great_number w) rest refl (λ more. refl))
    ∙ ap (told_statement bad) (sym (closing (condition_at text)))
