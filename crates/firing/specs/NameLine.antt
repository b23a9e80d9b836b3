-- The line that names a node.
use Rattle.std.specs.Prelude.{ℕ, List, ◌++◌, codes, decimal}
use Rattle.firing.specs.declared.system.NodeName.{NodeName}
use Rattle.firing.specs.declared.system.NodeName.TheVariants.{Act, Merge, Switch, Op}

-- the node's number, its kind, and the numbers of its name
abbrev pub name_line : ℕ → NodeName → List ℕ
name_line k (Act p) = decimal k ++ codes " ACT " ++ decimal p ++ codes "\n"
name_line k (Merge p l) = decimal k ++ codes " MERGE " ++ decimal p ++ codes " " ++ decimal l ++ codes "\n"
name_line k (Switch p l) = decimal k ++ codes " SWITCH " ++ decimal p ++ codes " " ++ decimal l ++ codes "\n"
name_line k (Op p i) = decimal k ++ codes " OP " ++ decimal p ++ codes " " ++ decimal i ++ codes "\n"
