use Rattle.std.proofs.Common.{List, ◌≡◌}
use Rattle.std.proofs.lemmas.Result.{IfOk-weaker}
use Rattle.flat_programs.specs.declared.statements.FlatLine.{FlatLine}
use Rattle.flat_programs.specs.FlatForm.{AreStatementsOf}
use Rattle.flat_programs.specs.Recovered.{recovered}
use Rattle.flat_programs.proofs.FlatProper.{recovered-of}
use Rattle.flat_programs.proofs.recovery.recover.Goals as goal

pub returns : goal.returns
returns c =
    IfOk-weaker c.statements_of.result (λ (flat : List FlatLine). flat ≡ recovered c.args.p.now.execs) (AreStatementsOf c.args.p.now) (λ flat is. recovered-of c.args.p.now flat c.requires is) c.statements_of.ensures
