use Rattle.std.proofs.Common.{◌∙◌, ap}
use Rattle.std.specs.Prelude.{string_bytes}
use Rattle.refusal_reports.specs.Statements.{parsed}
use Rattle.refusal_reports.proofs.Reported.{reported}
use Rattle.refusal_reports.proofs.refusals.refusal_report.Goals as goal

pub returns : goal.returns
returns c =
    reported (λ report. string_bytes report) c.args.file.now c.args.text.now c.args.refusal c.args.code_name.now c.place_of-place.result c.in_ok-cause.cause c.line_of-line.result.now
    c.as_slice-stmt_list.result.now c.written.result c.line_of-line.ensures
    (c.as_slice-stmt_list.ensures.value ∙ c.in_ok-stmts.ensures ∙ ap parsed (c.as_slice-raw_list.ensures.items ∙ c.in_ok-raws.ensures))
    c.place_of-place.ensures.file c.place_of-place.ensures.line (c.place_of-place.ensures.column ∙ c.column_at-column.ensures) c.in_ok-cause.ensures c.written.ensures
