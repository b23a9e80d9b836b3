use Rattle.layout_rules.specs.Executables.{own_executables as own_executables_of}
use Rattle.executable_lists.proofs.flow.+own_executables.Given as goal

abbrev pub decreases-own_executables : goal.decreases-own_executables
decreases-own_executables l = own_executables_of l.stmt.now
