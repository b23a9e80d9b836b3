use Rattle.control_structure.proofs.ExecutableLemmas.{executables_few}
use Rattle.control_structure.proofs.Usable.{usable}
use Rattle.executable_lists.proofs.executables.executables_of.Goals as goal

pub flow_of-requires-clause-few : goal.flow_of-requires-clause-few
flow_of-requires-clause-few c =
    executables_few c.args.names.now c.args.checked c.args.stmts.now c.requires.source c.requires.modest (usable c.args.stmts.now c.requires.source c.requires.labelled)

pub all-requires-clause-usable : goal.all-requires-clause-usable
all-requires-clause-usable c = usable c.args.stmts.now c.requires.source c.requires.labelled
