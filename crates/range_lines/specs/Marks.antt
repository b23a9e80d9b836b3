-- Which subscripts are seen in range, by tables.
use Rattle.std.specs.Prelude.{ℕ, Bool, false, ◌&&◌, nat_lt, List, [], ◌∷◌, ◌++◌, map, Option, Some, None, slice_get}
use Rattle.f77_tree.specs.declared.declarations.Dim.{Dim}
use Rattle.f77_tree.specs.declared.expressions.Expr.{Expr}
use Rattle.f77_tree.specs.declared.programs.ExecKind.{ExecKind}
use Rattle.f77_tree.specs.declared.programs.NameInfo.{NameInfo}
use Rattle.loop_ranges.specs.Subscripts.{Subscript, subscripts_in, subscripts_of}
use Rattle.range_lines.specs.declared.reaches.Reach.{Reach}
use Rattle.range_lines.specs.declared.shapes.Shape.{Shape}
use Rattle.range_lines.specs.Shapes.{shape_at, shape_of, lies_in}

-- the variable has such a reach at the executable k, and the numbers of the shape for its first and its last value lie within the
-- bounds
abbrev pub lies_at : (k : ℕ) → Shape → Dim → Option (Option Reach) → Bool
lies_at k shape dim (Some (Some reach)) = nat_lt k reach.next && (lies_in dim (shape_at shape reach.first) && lies_in dim (shape_at shape reach.last))
lies_at k shape dim _ = false

abbrev pub shape_seen : (current : List (Option Reach)) → (k : ℕ) → Dim → Option Shape → Bool
shape_seen current k dim None = false
shape_seen current k dim (Some shape) = lies_at k shape dim (slice_get current shape.variable)

-- a subscript in the executable k is seen in range, where `current` tells of each name how far the last DO before k reaches whose
-- variable it is
abbrev pub is_seen : (current : List (Option Reach)) → (k : ℕ) → Subscript → Bool
is_seen current k s = shape_seen current k s.dim (shape_of s.sub)

-- the subscripts of an expression
abbrev pub flags : List NameInfo → List (Option Reach) → (k : ℕ) → Expr → List Bool
flags names current k e = map (is_seen current k) (subscripts_in names e)

-- those of the subscripts of these dimensions, and these subscripts
abbrev pub bound_flags : List NameInfo → List (Option Reach) → (k : ℕ) → List Dim → List Expr → List Bool
bound_flags names current k dims [] = []
bound_flags names current k [] (e ∷ es) = flags names current k e ++ bound_flags names current k [] es
bound_flags names current k (dim ∷ dims) (e ∷ es) = flags names current k e ++ (is_seen current k (record { sub = e; dim = dim }) ∷ bound_flags names current k dims es)

-- those of an executable
abbrev pub exec_flags : List NameInfo → List (Option Reach) → (k : ℕ) → ExecKind → List Bool
exec_flags names current k kind = map (is_seen current k) (subscripts_of names kind)
