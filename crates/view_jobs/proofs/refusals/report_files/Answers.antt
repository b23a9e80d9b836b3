use Rattle.std.proofs.Common.{subst}
use Rattle.std.specs.Prelude.{string_bytes}
use Rattle.view_jobs.specs.Refused.{ReportsFile}
use Rattle.view_output.specs.Told.{told}
use Rattle.view_jobs.proofs.Reported.{none_reported, one_reported}
use Rattle.view_jobs.proofs.refusals.report_files.Goals as goal

pub loop-name-init : goal.loop-name-init
loop-name-init g c = none_reported c.args.is_wide (g.F.Files.known c.args.files.now) (told g.K.Sink.got c.args.output.now)

pub loop-name-preserved : goal.loop-name-preserved
loop-name-preserved g c =
    let known = g.F.Files.known c.args.files.now in
    let before = told g.K.Sink.got c.loop-name.output in
    let after = told g.K.Sink.got c.report_file.new.output in
    let more = c.in_ok-is_faulty.is_faulty in
    let reported = subst (λ name. ReportsFile c.args.is_wide (known name) name before after more) c.as_str.ensures.value c.in_ok-is_faulty.ensures in
    one_reported c.args.is_wide string_bytes known c.args.names.now c.loop-name.name-index c.name-item.result (told g.K.Sink.got c.args.output.now) before after c.loop-name.found more c.loop-name-test.true c.name-item.is c.loop-name.invariant reported
