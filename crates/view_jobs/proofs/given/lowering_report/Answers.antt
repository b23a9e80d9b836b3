use Rattle.std.specs.Prelude.{string_bytes}
use Rattle.view_jobs.proofs.Known.{if_ok, tells_place}
use Rattle.view_jobs.proofs.given.lowering_report.Goals as goal

pub returns : goal.returns
returns c =
    if_ok c.written.result
    (λ report is. tells_place c.args.place c.args.source.now c.line_of-line.result.now c.as_str.result.now (string_bytes report) c.line_of-line.ensures is)
    c.written.ensures
