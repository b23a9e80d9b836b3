-- The tokens and brackets of a group.
use Rattle.std.proofs.Common.{◌≡◌, ◌∷◌, ◌++◌, [], map, Vec, Global, ap, ◌∙◌, refl}
use mathlib.Core.Former.{Count}
use Rattle.fortran_tree.specs.declared.error.Place.{Place}
use Rattle.fortran_tree.specs.declared.tokens.Node.{Node, Group, Group', Row_of-Node, end_of-Node, more_of-Node, items-the_row-Node, items_hidden-the_row-Node-0}
use Rattle.fortran_tree.specs.Nodes.{Mark, joined, marks, row_marks}

row_marks-items : (n : _) (row : Row_of-Node n) → row_marks row ≡ joined (map marks (items-the_row-Node n row))
row_marks-items n end_of-Node = refl
row_marks-items n (more_of-Node node rest) = ap (λ more. marks node ++ more) (row_marks-items _ rest)

abbrev row_of : Node → (n : Count) × Row_of-Node n
row_of (Group' _ row _) = (_, row)
row_of _ = (_, end_of-Node)

-- the marks of a group are those of its nodes between brackets
pub group_marks : (inside : Vec Node Global) (place : Place) → marks (Group inside place) ≡ Mark.opening place ∷ (joined (map marks inside.items) ++ Mark.closing ∷ [])
group_marks inside place =
    let row = row_of (Group inside place) in
    ap (λ more. Mark.opening place ∷ (more ++ Mark.closing ∷ [])) (row_marks-items row.0 row.1 ∙ ap (λ nodes. joined (map marks nodes)) (items_hidden-the_row-Node-0 inside))

-- groups of the same nodes have the same marks
pub marks_copied : (inside copies : Vec Node Global) (place : Place) → map marks inside.items ≡ map marks copies.items → marks (Group inside place) ≡ marks (Group copies place)
marks_copied inside copies place same = rw (group_marks inside place, group_marks copies place, same) refl
