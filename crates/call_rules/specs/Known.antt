-- What is known of names.
use Rattle.std.specs.Prelude.{List, [], ◌∷◌, Option, None, Some}
use Rattle.fortran_tree.specs.declared.name_table.Name.{Name}
use Rattle.fortran_tree.specs.declared.tokens.Node.{Node}
use Rattle.fortran_tree.specs.Nodes.{name_of}

-- the first of two values that there is
abbrev pub first_of : {X : Type 0} → Option X → Option X → Option X
first_of None other = other
first_of (Some value) other = Some value

-- the name that is all that there is
abbrev pub only_name : List Node → Option Name
only_name (node ∷ []) = name_of node
only_name _ = None
