-- What is written of a refusal.
use Rattle.std.specs.Prelude.{ℕ, List, ◌++◌, codes}
use Rattle.refusal_causes.specs.declared.cause.Cause.{Cause}
use Rattle.refusal_causes.specs.Causes.{instead, wrong}
use Rattle.refusal_reports.specs.declared.report.Report.{Report}
use Rattle.shown_lines.specs.Places.{place_text, shown_text}

abbrev pub told_text : (place : List ℕ) → Cause → (code_name lines : List ℕ) → List ℕ
told_text place cause code_name lines =
    place ++ codes ": error: " ++ wrong cause ++ codes " [" ++ code_name ++ codes "]\n" ++ lines ++ codes "  " ++ instead cause ++ codes "\n"

abbrev pub report_text : Report → List ℕ
report_text report = told_text (place_text report.place) report.cause report.code_name.now (shown_text report.shown)
