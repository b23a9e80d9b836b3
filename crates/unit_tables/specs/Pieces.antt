-- Lists of nodes put together.
use Rattle.std.specs.Prelude.{ℤ, pos, negsuc, suc, List, [], ◌∷◌, ◌++◌}
use Rattle.fortran_tree.specs.declared.error.Place.{Place}
use Rattle.fortran_tree.specs.declared.signs.Sign.TheVariants.{Comma, Minus}
use Rattle.fortran_tree.specs.declared.tokens.Token.TheVariants.{Number, Sign}
use Rattle.fortran_tree.specs.declared.tokens.Node.{Node}
use Rattle.fortran_tree.specs.declared.tokens.Node.TheVariants.{Leaf}

-- lists, a comma before each
abbrev pub after_commas : Place → List (List Node) → List Node
after_commas place [] = []
after_commas place (piece ∷ rest) = Leaf (Sign Comma) place ∷ (piece ++ after_commas place rest)

-- lists with commas between them
abbrev pub with_commas : Place → List (List Node) → List Node
with_commas place [] = []
with_commas place (first ∷ rest) = first ++ after_commas place rest

-- a constant, with its sign before it where it is negative
abbrev pub signed_nodes : ℤ → Place → List Node
signed_nodes (pos n) place = Leaf (Number n) place ∷ []
signed_nodes (negsuc n) place = Leaf (Sign Minus) place ∷ Leaf (Number (suc n)) place ∷ []
