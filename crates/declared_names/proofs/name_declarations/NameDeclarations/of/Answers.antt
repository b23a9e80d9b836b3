use Rattle.declared_names.proofs.Describing.{described-same}
use Rattle.declared_names.proofs.name_declarations.NameDeclarations.of.Goals as goal

pub returns : goal.returns
returns c = described-same c.in_ok-of.field-0 c.args.stmts.now c.in_ok-of.ensures
