-- What is written is the report of a refusal.
use Rattle.std.proofs.Common.{◌≡◌, ℕ, List, Result, Ok, Err, subst}
use Rattle.std.specs.Prelude.{IfOk}
use Rattle.fixed_form.specs.Reading.{reading}
use Rattle.f77_source.specs.declared.source_end.Code.{Code}
use Rattle.f77_source.specs.declared.source_end.Code.TheVariants.{NoForm}
use Rattle.f77_source.specs.declared.source_end.Refusal.{Refusal}
use Rattle.f77_tree.specs.declared.statements.Labelled.{Labelled}
use Rattle.refusal_causes.specs.declared.cause.Cause.{Cause}
use Rattle.refusal_reports.specs.Advices.{advice_by_code}
use Rattle.refusal_reports.specs.Refusals.{IsByCode, IsCauseOf, IsReportOf, column_at, written}
use Rattle.refusal_reports.specs.Statements.{parsed, raws_of}
use Rattle.shown_lines.specs.Lines.{line_of}
use Rattle.shown_lines.specs.declared.places.Place.{Place}

pub by_code : (line : List ℕ) (stmts : List Labelled) (number : ℕ) (wrong : List ℕ) (code : Code) → wrong ≡ advice_by_code line stmts number code → IsByCode line stmts number wrong code
by_code line stmts number wrong NoForm is = tt
by_code line stmts number wrong code is = is

pub reported : {A E : Type 0} (bytes : A → List ℕ) (file text : List ℕ) (refusal : Refusal) (code_name : List ℕ) (place : Place) (cause : Cause) (line : List ℕ) (stmts : List Labelled) (r : Result A E)
    → line ≡ line_of text refusal.line → stmts ≡ parsed (raws_of (reading text))
    → place.file.now ≡ file → place.line ≡ refusal.line → place.column ≡ column_at refusal.code line
    → IsCauseOf line stmts refusal cause
    → IfOk r (λ report. bytes report ≡ written place line cause code_name)
    → IfOk r (λ report. IsReportOf file text refusal code_name (bytes report))
reported bytes file text refusal code_name place cause line stmts (Ok report) line_is stmts_are in_file at_line at_column cause_is is =
    let Column : List ℕ → Type 0 = λ l. place.column ≡ column_at refusal.code l in
    let InLine : List ℕ → Type 0 = λ l. IsCauseOf l stmts refusal cause in
    let Among : List Labelled → Type 0 = λ s. IsCauseOf (line_of text refusal.line) s refusal cause in
    let Written : List ℕ → Type 0 = λ l. bytes report ≡ written place l cause code_name in
    record {
      place = place;
      cause = cause;
      in_file = in_file;
      at_line = at_line;
      at_column = subst Column line_is at_column;
      cause_is = subst Among stmts_are (subst InLine line_is cause_is);
      report_is = subst Written line_is is;
    }
reported bytes file text refusal code_name place cause line stmts (Err end) line_is stmts_are in_file at_line at_column cause_is is = tt
