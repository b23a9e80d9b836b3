use Rattle.std.proofs.Common.{Some, refl, rules, subst}
use Rattle.std.specs.Prelude.{option_map, string_bytes}
use Rattle.view_jobs.specs.Files.{OfKnown}
use Rattle.view_jobs.specs.Refused.{TellsFile}
use Rattle.view_jobs.proofs.refusals.report_file.Goals as goal

pub returns-in_ok-text-in-Some : goal.returns-in_ok-text-in-Some
returns-in_ok-text-in-Some g c = record {
  report = Some (string_bytes c.in-Some.report);
  is = subst (λ report. OfKnown (g.F.Files.known c.args.files.now c.args.name.now) (λ text. TellsFile c.args.is_wide c.args.name.now text (option_map string_bytes report))) c.in-Some.is c.in_ok-report.ensures;
  added = search rules;
  found_is = refl;
}
