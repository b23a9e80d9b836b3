-- The subscripts of an executable, in the order in which they are checked at the bounds of their dimensions: those inside a
-- subscript come before it.
use Rattle.std.specs.Prelude.{List, [], ◌∷◌, ◌++◌, flat_map}
use Rattle.f77_tree.specs.declared.declarations.Dim.{Dim}
use Rattle.f77_tree.specs.declared.expressions.Access.{Access}
use Rattle.f77_tree.specs.declared.expressions.Expr.{Expr, Row_of-Expr, end_of-Expr, more_of-Expr}
use Rattle.f77_tree.specs.declared.expressions.Expr.TheVariants.{Const, Truth, Input, Read, Read', Apply'}
use Rattle.f77_tree.specs.declared.programs.ExecKind.{ExecKind}
use Rattle.f77_tree.specs.declared.programs.ExecKind.TheVariants.{Assign, Print, Pass, Test, Sign, Pick, DoStart, DoNext, End}
use Rattle.f77_tree.specs.declared.programs.Item.{Item}
use Rattle.f77_tree.specs.declared.programs.Item.TheVariants.{Value, Chars}
use Rattle.f77_tree.specs.declared.programs.NameInfo.{NameInfo}
use Rattle.f77_tree.specs.Value.{dims_of}

-- a subscript and its dimension
pub record Subscript : Type 0 where
  pub sub : Expr
  pub dim : Dim

abbrev mutual
  pub subscripts_in : List NameInfo → Expr → List Subscript
  subscripts_in names (Const z) = []
  subscripts_in names (Truth b) = []
  subscripts_in names Input = []
  subscripts_in names (Read' name shape subs) = bound_subscripts names (dims_of names name) subs
  subscripts_in names (Apply' op shape args) = row_subscripts names args

  -- those of some expressions
  pub row_subscripts : {m : _} → List NameInfo → Row_of-Expr m → List Subscript
  row_subscripts names end_of-Expr = []
  row_subscripts names (more_of-Expr e rest) = subscripts_in names e ++ row_subscripts names rest

  -- those of the subscripts of these dimensions, and these subscripts
  pub bound_subscripts : {m : _} → List NameInfo → List Dim → Row_of-Expr m → List Subscript
  bound_subscripts names dims end_of-Expr = []
  bound_subscripts names [] (more_of-Expr e rest) = subscripts_in names e ++ bound_subscripts names [] rest
  bound_subscripts names (dim ∷ dims) (more_of-Expr e rest) = subscripts_in names e ++ (record { sub = e; dim = dim } ∷ bound_subscripts names dims rest)

abbrev pub access_subscripts : List NameInfo → Access → List Subscript
access_subscripts names access = subscripts_in names (Read access)

abbrev pub item_subscripts : List NameInfo → Item → List Subscript
item_subscripts names (Value e) = subscripts_in names e
item_subscripts names (Chars text) = []

-- the target of an assignment comes before the value
abbrev pub subscripts_of : List NameInfo → ExecKind → List Subscript
subscripts_of names (Assign target e next) = access_subscripts names target ++ subscripts_in names e
subscripts_of names (Print items next) = flat_map (item_subscripts names) items
subscripts_of names (Pass next) = []
subscripts_of names (Test cond on_true on_false) = subscripts_in names cond
subscripts_of names (Sign e neg zero pos) = subscripts_in names e
subscripts_of names (Pick e targets other) = subscripts_in names e
subscripts_of names (DoStart loop_no var first last step body exit) = subscripts_in names first ++ (subscripts_in names last ++ subscripts_in names step)
subscripts_of names (DoNext loop_no var body exit) = []
subscripts_of names End = []
