use Rattle.refusal_reports.proofs.Reported.{by_code}
use Rattle.refusal_reports.proofs.causes.rule_of.Goals as goal

pub returns-in_default : goal.returns-in_default
returns-in_default c =
    by_code c.args.line.now c.args.stmts.now c.args.refusal.line c.advice_on-by_code.result.wrong.now c.args.refusal.code c.advice_on-by_code.ensures
