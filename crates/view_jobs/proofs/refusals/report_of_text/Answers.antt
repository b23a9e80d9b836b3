use Rattle.std.proofs.Common.{ℕ, List, [], Bool, inr, refl, subst}
use Rattle.std.specs.Prelude.{option_map, string_bytes}
use Rattle.view_commands.specs.Words.{Program}
use Rattle.view_jobs.specs.Lowered.{IsFileText}
use Rattle.view_jobs.proofs.Known.{if_ok, program_told}
use Rattle.view_jobs.proofs.refusals.report_of_text.Goals as goal

abbrev program : (is_wide : Bool) (name : List ℕ) → Program
program is_wide name = record { is_wide = is_wide; name = name; words = [] }

pub returns-in-Program : goal.returns-in-Program
returns-in-Program c =
    let source = c.args.text.items in
    let is = subst (IsFileText (program c.args.is_wide c.args.name.now) source) c.in-Program.is c.in_ok-given.ensures.text in
    if_ok c.report_of_program.result
    (λ report told. program_told c.args.is_wide c.args.name.now source c.in-Program.given (option_map string_bytes report) is told)
    c.report_of_program.ensures

pub returns-in-Refused : goal.returns-in-Refused
returns-in-Refused c =
    let why = subst (IsFileText (program c.args.is_wide c.args.name.now) c.args.text.items) c.in-Refused.is c.in_ok-given.ensures.text in
    inr (record { wide = why.0; report = string_bytes c.in-Refused.report; is = why.1; told_is = refl })
