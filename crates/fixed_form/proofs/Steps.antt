-- What one line more makes of what is read.
use Rattle.std.proofs.Common.{◌≡◌, ℕ, suc, ◌+◌, true, false, List, [], ◌∷◌, ◌++◌, length, Option, Some, None, Ok, Err, refl, sym, ap, ◌∙◌, arith, append_assoc}
use Rattle.std.proofs.lemmas.List.{length_push}
use Rattle.std.proofs.lemmas.Bool.{cond-true, cond-false}
use Rattle.std.specs.List.{filter}
use Rattle.fixed_form.specs.declared.form_end.FormEnd.TheVariants.{NoEnd}
use Rattle.fixed_form.specs.declared.line.LineKind.TheVariants.{Initial, Continuation}
use Rattle.fixed_form.specs.declared.raw_stmt.RawStmt.{RawStmt}
use Rattle.fixed_form.specs.declared.open_stmt.OpenStmt.{OpenStmt}
use Rattle.fixed_form.specs.Columns.{kind, label, statement_field}
use Rattle.fixed_form.specs.SourceLine.{SourceLine, is_initial_kind, is_continuation_kind, is_statement_kind, is_initial_line, is_continuation_line, is_statement_line}
use Rattle.fixed_form.specs.Statement.{continuations, joined, statement_of, statements_of, ends_with_end}
use Rattle.fixed_form.specs.Fault.{initial_count, continuation_count}
use Rattle.fixed_form.specs.OpenStmt.{with_characters, begun}
use Rattle.fixed_form.specs.Reading.{outcome}
use Rattle.fixed_form.specs.Reader.{closed, closed_last, statements_from, CountsLast, IsLast}
use Rattle.fixed_form.proofs.Texts.{put-append, put_none}

-- the statement that a line begins
abbrev pub new_stmt : SourceLine → OpenStmt
new_stmt line = with_characters (begun (label line.card) line.number) (statement_field line.card)

-- the statement after one continuation line more
abbrev pub continued : OpenStmt → SourceLine → OpenStmt
continued stmt line = record (with_characters stmt (statement_field line.card)) { continuations = stmt.continuations + 1 }

-- every initial line above began a statement
pub initial_count_is : (last : Option OpenStmt) (done : List RawStmt) (above : List SourceLine) → CountsLast last done above → IsLast last done → initial_count above ≡ length (done ++ closed_last last)
initial_count_is None done above counts bounds =
    counts ∙ sym (ap (λ (ss : List RawStmt). length (ss ++ [])) bounds)
initial_count_is (Some stmt) done above counts bounds = counts.0 ∙ sym (length_push done (closed stmt))

module _ (line : SourceLine) where
  module _ (k : kind line.card ≡ Initial) where
    initial_kept : (more : List SourceLine) → filter is_statement_line (line ∷ more) ≡ line ∷ filter is_statement_line more
    initial_kept more = cond-true (is_statement_line line) _ _ (ap is_statement_kind k)

    initial_initials : (more : List SourceLine) → initial_count (line ∷ more) ≡ suc (initial_count more)
    initial_initials more = ap length (cond-true (is_initial_line line) (line ∷ filter is_initial_line more) (filter is_initial_line more) (ap is_initial_kind k))

    ends_continuations : (more : List SourceLine) → continuations (line ∷ more) ≡ []
    ends_continuations more = cond-false (is_continuation_line line) (line ∷ continuations more) [] (ap is_continuation_kind k)

    initial_continuations : (more : List SourceLine) → continuation_count (line ∷ more) ≡ 0
    initial_continuations more = ap (λ ls. length (continuations ls)) (initial_kept more) ∙ ap length (ends_continuations (filter is_statement_line more))

    begins : (more : List SourceLine) → statements_of (line ∷ more) ≡ statement_of line (continuations more) ∷ statements_of more
    begins more = cond-true (is_initial_line line) (statement_of line (continuations more) ∷ statements_of more) (statements_of more) (ap is_initial_kind k)

    from_initial : (last : Option OpenStmt) (more : List SourceLine) → statements_from last (line ∷ more) ≡ closed_last last ++ (statement_of line (continuations more) ∷ statements_of more)
    from_initial None more = begins more
    from_initial (Some stmt) more =
        ap (λ ls. closed (with_characters stmt (joined ls)) ∷ statements_of (line ∷ more)) (ends_continuations more)
        ∙ ap (λ s. closed s ∷ statements_of (line ∷ more)) (put_none stmt)
        ∙ ap (λ ss. closed stmt ∷ ss) (begins more)

    new_is : (more : List SourceLine) → statement_of line more ≡ closed (with_characters (new_stmt line) (joined more))
    new_is more = ap closed (put-append (begun (label line.card) line.number) (statement_field line.card) (joined more))

    pub begin_statements : (last : Option OpenStmt) (done : List RawStmt) (rest : List SourceLine) → done ++ statements_from last (filter is_statement_line (line ∷ rest)) ≡ (done ++ closed_last last) ++ statements_from (Some (new_stmt line)) (filter is_statement_line rest)
    begin_statements last done rest =
        let more = filter is_statement_line rest in
        ap (λ ls. done ++ statements_from last ls) (initial_kept rest)
        ∙ ap (λ ss. done ++ ss) (from_initial last more)
        ∙ sym (append_assoc done (closed_last last) (statement_of line (continuations more) ∷ statements_of more))
        ∙ ap (λ s. (done ++ closed_last last) ++ (s ∷ statements_of more)) (new_is (continuations more))

    pub begin_counts : (last : Option OpenStmt) (done : List RawStmt) (above : List SourceLine) → CountsLast last done above → IsLast last done → CountsLast (Some (new_stmt line)) (done ++ closed_last last) (line ∷ above)
    begin_counts last done above counts bounds =
        (omega (arith, initial_initials above, initial_count_is last done above counts bounds), sym (initial_continuations above))

  module _ (k : kind line.card ≡ Continuation) where
    continuation_kept : (more : List SourceLine) → filter is_statement_line (line ∷ more) ≡ line ∷ filter is_statement_line more
    continuation_kept more = cond-true (is_statement_line line) _ _ (ap is_statement_kind k)

    continuation_initials : (more : List SourceLine) → initial_count (line ∷ more) ≡ initial_count more
    continuation_initials more = ap length (cond-false (is_initial_line line) (line ∷ filter is_initial_line more) (filter is_initial_line more) (ap is_initial_kind k))

    goes_on : (more : List SourceLine) → continuations (line ∷ more) ≡ line ∷ continuations more
    goes_on more = cond-true (is_continuation_line line) (line ∷ continuations more) [] (ap is_continuation_kind k)

    continuation_continuations : (more : List SourceLine) → continuation_count (line ∷ more) ≡ suc (continuation_count more)
    continuation_continuations more = ap (λ ls. length (continuations ls)) (continuation_kept more) ∙ ap length (goes_on (filter is_statement_line more))

    begins_none : (more : List SourceLine) → statements_of (line ∷ more) ≡ statements_of more
    begins_none more = cond-false (is_initial_line line) (statement_of line (continuations more) ∷ statements_of more) (statements_of more) (ap is_initial_kind k)

    pub go_on_statements : (stmt : OpenStmt) (done : List RawStmt) (rest : List SourceLine) → done ++ statements_from (Some stmt) (filter is_statement_line (line ∷ rest)) ≡ done ++ statements_from (Some (continued stmt line)) (filter is_statement_line rest)
    go_on_statements stmt done rest =
        let more = filter is_statement_line rest in
        ap (λ ls. done ++ statements_from (Some stmt) ls) (continuation_kept rest)
        ∙ ap (λ ls. done ++ (closed (with_characters stmt (joined ls)) ∷ statements_of (line ∷ more))) (goes_on more)
        ∙ ap (λ ss. done ++ (closed (with_characters stmt (joined (line ∷ continuations more))) ∷ ss)) (begins_none more)
        ∙ ap (λ s. done ++ (closed s ∷ statements_of more)) (put-append stmt (statement_field line.card) (joined (continuations more)))

    pub go_on_counts : (stmt : OpenStmt) (done : List RawStmt) (above : List SourceLine) → CountsLast (Some stmt) done above → CountsLast (Some (continued stmt line)) done (line ∷ above)
    go_on_counts stmt done above counts =
        (continuation_initials above ∙ counts.0, omega (arith, continuation_continuations above, counts.1))

-- no line follows
pub statements_at_end : (done : List RawStmt) (last : Option OpenStmt) → done ++ statements_from last [] ≡ done ++ closed_last last
statements_at_end done None = refl
statements_at_end done (Some stmt) = ap (λ s. done ++ (closed s ∷ [])) (put_none stmt)

ends_with_end_push : (done : List RawStmt) (stmt : RawStmt) → ends_with_end (done ++ stmt ∷ []) ≡ ends_with_end (stmt ∷ [])
ends_with_end_push [] stmt = refl
ends_with_end_push (first ∷ []) stmt = refl
ends_with_end_push (first ∷ second ∷ more) stmt = ends_with_end_push (second ∷ more) stmt

-- the statement begun last is the last one
ends_at_last : (done : List RawStmt) (last : Option OpenStmt) → IsLast last done → ends_with_end (done ++ closed_last last) ≡ ends_with_end (closed_last last)
ends_at_last done None bounds = ap (λ (ss : List RawStmt). ends_with_end (ss ++ [])) bounds
ends_at_last done (Some stmt) bounds = ends_with_end_push done (closed stmt)

module _ (done : List RawStmt) (last : Option OpenStmt) (lines : ℕ) (bounds : IsLast last done) where
  pub refused_at_end : ends_with_end (closed_last last) ≡ false → outcome None (done ++ statements_from last []) lines ≡ Err (NoEnd (lines + 1))
  refused_at_end e =
      ap (λ ss. outcome None ss lines) (statements_at_end done last) ∙ cond-false (ends_with_end (done ++ closed_last last)) (Ok (done ++ closed_last last)) (Err (NoEnd (lines + 1))) (ends_at_last done last bounds ∙ e)

  pub accepted_at_end : ends_with_end (closed_last last) ≡ true → outcome None (done ++ statements_from last []) lines ≡ Ok (done ++ closed_last last)
  accepted_at_end e =
      ap (λ ss. outcome None ss lines) (statements_at_end done last) ∙ cond-true (ends_with_end (done ++ closed_last last)) (Ok (done ++ closed_last last)) (Err (NoEnd (lines + 1))) (ends_at_last done last bounds ∙ e)
