use Rattle.f77_expr.proofs.Parts.{prefix_stripped}
use Rattle.f77_expr.proofs.characters.after_prefix.Goals as goal

pub returns-clause-rest : goal.returns-clause-rest
returns-clause-rest c = prefix_stripped c.args.prefix.now c.args.text.now c.strip_prefix.result c.strip_prefix.ensures.cases
