-- The fault of a line, by its kind.
use Rattle.std.proofs.Common.{◌≡◌, ℕ, ◌<◌, ◌≤◌, Bool, true, false, not, cond, leb, eqb, arith, List, Some, None, refl, ap, ◌∙◌}
use Rattle.std.proofs.lemmas.Option.{same_Some}
use Rattle.std.proofs.lemmas.Bool.{cond-true, cond-false, le-leb, lt-leb, ne_eqb}
use Rattle.fixed_form.specs.declared.form_end.FormEnd.TheVariants.{BadLabelField, StrayContinuation, TooManyContinuations, TooManyStatements}
use Rattle.fixed_form.specs.declared.line.LineKind.TheVariants.{Initial, Continuation}
use Rattle.fixed_form.specs.Columns.{kind, is_blank, label_field, has_bad_label, has_bad_byte}
use Rattle.fixed_form.specs.SourceLine.{SourceLine}
use Rattle.fixed_form.specs.Fault.{initial_count, continuation_count, fault_of_kind, fault}

module _ (above : List SourceLine) (line : SourceLine) where
  module _ (k : kind line.card ≡ Initial) where
    initial_good_byte : has_bad_byte line.card ≡ false → fault above line ≡ cond (has_bad_label line.card) (Some (BadLabelField line.number)) (cond (leb 4000 (initial_count above)) (Some (TooManyStatements line.number)) None)
    initial_good_byte b = ap (λ x. fault_of_kind x above line) k ∙ cond-false (has_bad_byte line.card) _ _ b

    initial_good_label : has_bad_byte line.card ≡ false → has_bad_label line.card ≡ false → fault above line ≡ cond (leb 4000 (initial_count above)) (Some (TooManyStatements line.number)) None
    initial_good_label b l = initial_good_byte b ∙ cond-false (has_bad_label line.card) _ _ l

    pub initial_too_many : has_bad_byte line.card ≡ false → has_bad_label line.card ≡ false → 4000 ≤ initial_count above → fault above line ≡ Some (TooManyStatements line.number)
    initial_too_many b l h = initial_good_label b l ∙ cond-true (leb 4000 (initial_count above)) _ _ (le-leb 4000 (initial_count above) h)

    pub initial_fine : has_bad_byte line.card ≡ false → has_bad_label line.card ≡ false → initial_count above < 4000 → fault above line ≡ None
    initial_fine b l h = initial_good_label b l ∙ cond-false (leb 4000 (initial_count above)) _ _ (lt-leb 4000 (initial_count above) h)

  module _ (k : kind line.card ≡ Continuation) where
    after_byte : has_bad_byte line.card ≡ false → fault above line ≡ cond (not (is_blank (label_field line.card))) (Some (BadLabelField line.number)) (cond (eqb (initial_count above) 0) (Some (StrayContinuation line.number)) (cond (leb 19 (continuation_count above)) (Some (TooManyContinuations line.number)) None))
    after_byte b = ap (λ x. fault_of_kind x above line) k ∙ cond-false (has_bad_byte line.card) _ _ b

    after_label : has_bad_byte line.card ≡ false → is_blank (label_field line.card) ≡ true → fault above line ≡ cond (eqb (initial_count above) 0) (Some (StrayContinuation line.number)) (cond (leb 19 (continuation_count above)) (Some (TooManyContinuations line.number)) None)
    after_label b l = after_byte b ∙ cond-false (not (is_blank (label_field line.card))) _ _ (ap not l)

    after_stray : has_bad_byte line.card ≡ false → is_blank (label_field line.card) ≡ true → 0 < initial_count above → fault above line ≡ cond (leb 19 (continuation_count above)) (Some (TooManyContinuations line.number)) None
    after_stray b l h = after_label b l ∙ cond-false (eqb (initial_count above) 0) _ _ (ne_eqb (initial_count above) 0 (λ e. omega (arith, e)))

    pub continuation_fine : has_bad_byte line.card ≡ false → is_blank (label_field line.card) ≡ true → 0 < initial_count above → continuation_count above < 19 → fault above line ≡ None
    continuation_fine b l h m = after_stray b l h ∙ cond-false (leb 19 (continuation_count above)) _ _ (lt-leb 19 (continuation_count above) m)

-- the label that was found is the label
pub label_some : (b : Bool) (n m : ℕ) → Some n ≡ cond b None (Some m) → (b ≡ false) × (n ≡ m)
label_some true n m e = absurd cc
label_some false n m e = (refl, same_Some n m e)
