-- What a node is, and when two lists have the same tokens and brackets.
use Rattle.std.specs.Prelude.{◌≡◌, ℕ, Bool, true, false, List, [], ◌∷◌, ◌++◌, map, Option, Some, None}
use Rattle.fortran_tree.specs.declared.error.Place.{Place}
use Rattle.fortran_tree.specs.declared.name_table.Name.{Name}
use Rattle.fortran_tree.specs.declared.tokens.Token.{Token}
use Rattle.fortran_tree.specs.declared.signs.Sign.{Sign}
use Rattle.fortran_tree.specs.declared.tokens.Token.TheVariants.{Name as NameToken, Number as NumberToken, Sign as SignToken}
use Rattle.fortran_tree.specs.declared.tokens.Node.{Node, Row_of-Node, end_of-Node, more_of-Node}
use Rattle.fortran_tree.specs.declared.tokens.Node.TheVariants.{Leaf, Group'}

-- where a node begins
abbrev pub place_of : Node → Place
place_of (Leaf token place) = place
place_of (Group' shape row place) = place

-- the name that a node is
abbrev pub name_of : Node → Option Name
name_of (Leaf (NameToken name) place) = Some name
name_of _ = None

-- the number that a node is
abbrev pub number_of : Node → Option ℕ
number_of (Leaf (NumberToken number) place) = Some number
number_of _ = None

-- the sign that a node is
abbrev pub sign_of : Node → Option Sign
sign_of (Leaf (SignToken sign) place) = Some sign
sign_of _ = None

-- whether it is what stands between two brackets
abbrev pub is_group : Node → Bool
is_group (Leaf token place) = false
is_group (Group' shape row place) = true

-- a token, or a bracket; each with its place, of which a closing bracket has none
pub data Mark : Type 0 where
  of_token : Token → Place → Mark
  opening : Place → Mark
  closing : Mark

abbrev mutual
  -- the tokens and brackets of a node, from left to right
  pub marks : Node → List Mark
  marks (Leaf token place) = Mark.of_token token place ∷ []
  marks (Group' shape row place) = Mark.opening place ∷ (row_marks row ++ Mark.closing ∷ [])

  pub row_marks : {m : _} → Row_of-Node m → List Mark
  row_marks end_of-Node = []
  row_marks (more_of-Node node rest) = marks node ++ row_marks rest

-- the tokens and brackets of nodes, one after another
abbrev pub joined : List (List Mark) → List Mark
joined [] = []
joined (first ∷ rest) = first ++ joined rest

-- the same nodes, in memory of their own
abbrev pub AreCopies : List Node → List Node → Type 0
AreCopies nodes copies = map marks nodes ≡ map marks copies
