-- The bounds of arrays (ANSI X3.9-1978, section 5.1).
use Rattle.std.specs.Prelude.{ℤ, pos, ◌+ℤ◌, ◌-ℤ◌, int_lt, if◌then◌else◌, List, ◌∷◌, ◌++◌}
use Rattle.std.specs.Ordering.{int_eq}
use Rattle.fortran_tree.specs.declared.error.Place.{Place}
use Rattle.fortran_tree.specs.declared.signs.Sign.TheVariants.{Colon}
use Rattle.fortran_tree.specs.declared.tokens.Token.TheVariants.{Sign}
use Rattle.fortran_tree.specs.declared.tokens.Node.{Node}
use Rattle.fortran_tree.specs.declared.tokens.Node.TheVariants.{Leaf}
use Rattle.unit_tables.specs.declared.bounds.Bound.{Bound}
use Rattle.unit_tables.specs.Pieces.{signed_nodes}

-- how many subscripts there are
abbrev pub extent_of : Bound → ℤ
extent_of bound = if int_lt bound.high bound.low then pos 0 else ((bound.high -ℤ bound.low) +ℤ pos 1)

-- the bounds of a dimension, of which a lower one of 1 isn't written
abbrev pub bound_nodes : Place → Bound → List Node
bound_nodes place bound = if int_eq bound.low (pos 1) then signed_nodes bound.high place else (signed_nodes bound.low place ++ Leaf (Sign Colon) place ∷ signed_nodes bound.high place)
