-- How the names are kept. No public clause cites this module.
use Rattle.std.specs.Prelude.{◌/◌, ◌%◌, ◌++◌, ℕ, List, map}
use Rattle.std.proofs.Common.{zero, suc}
use Rattle.firing.specs.declared.system.NodeName.{NodeName}
use Rattle.firing.specs.declared.system.NodeName.TheVariants.{Act, Merge, Op, Switch}
use Rattle.node_names.specs.declared.names.Code.{Code}
use Rattle.node_names.specs.declared.names.NameList.TheInside.{Inside}

-- the name of this kind
abbrev pub name_by : (kind piece number : ℕ) → NodeName
name_by zero piece number = Op piece number
name_by (suc zero) piece number = Switch piece number
name_by (suc (suc zero)) piece number = Merge piece number
name_by (suc (suc (suc k))) piece number = Act piece

-- the name that a code stands for
abbrev pub name_told : Code → NodeName
name_told code = name_by (code.turn % 4) code.piece (code.turn / 4)

abbrev pub names_of : Inside → List NodeName
names_of d = map name_told d.codes.items ++ d.long.items
