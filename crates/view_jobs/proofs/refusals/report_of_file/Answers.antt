use Rattle.std.proofs.Common.{◌≡◌, inr}
use Rattle.std.specs.Prelude.{option_map, string_bytes}
use Rattle.view_output.specs.declared.fault.Fault.TheVariants as fault
use Rattle.view_jobs.specs.Refused.{TellsFile}
use Rattle.view_jobs.proofs.Known.{if_ok, long_known, of_known}
use Rattle.view_jobs.proofs.refusals.report_of_file.Goals as goal

pub returns-in-Ok : goal.returns-in-Ok
returns-in-Ok g c =
    let name = c.args.name.now in
    let wide = c.args.is_wide in
    let known = g.F.Files.known c.args.files.now name in
    if_ok c.report_of_text.result
    (λ report told. of_known known c.in-Ok.text (λ text. TellsFile wide name text (option_map string_bytes report)) c.in-Ok.ensures.text (inr told))
    c.report_of_text.ensures

pub returns-in_ok-too_long_report-in-Err-TooLong : goal.returns-in_ok-too_long_report-in-Err-TooLong
returns-in_ok-too_long_report-in-Err-TooLong g c =
    let name = c.args.name.now in
    let known = g.F.Files.known c.args.files.now name in
    let is = c.in-Err-TooLong.field-0-is in
    let long : c.in-Err-TooLong.field-0 ≡ fault.TooLong = cc in
    long_known known c.args.is_wide name (string_bytes c.in_ok-too_long_report-in-Err-TooLong.field-0) c.in-Err-TooLong.field-0 long c.in-Err-TooLong.ensures.text c.in_ok-too_long_report-in-Err-TooLong.ensures
