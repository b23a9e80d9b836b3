use Rattle.view_commands.specs.Words.{program_meant}
use Rattle.view_jobs.specs.Lowered.{IsFileText}
use Rattle.view_jobs.proofs.Known.{if_ok, of_known}
use Rattle.view_jobs.proofs.given.read_given.Goals as goal

pub returns-clause-known : goal.returns-clause-known
returns-clause-known g c =
    let known = g.F.Files.known c.args.files.now c.args.program.name.now in
    if_ok c.given_of.result
    (λ read is. of_known known c.in_ok-source.source (λ source. IsFileText (program_meant c.args.program) source read) c.in_ok-source.ensures.text is)
    c.given_of.ensures.text
