use Rattle.called_runs.proofs.DeclaredAlike.{reached-declared}
use Rattle.called_runs.proofs.copied_names.copied_names_are_declared_alike.Goals as goal

pub returns : goal.returns
returns c = λ stmts checked accepted context at reached x. reached-declared stmts checked accepted context at reached x
