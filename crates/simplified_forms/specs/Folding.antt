-- Expressions in which constants stand for what is known.
use Rattle.std.specs.Prelude.{ℕ, ℤ, Bool, List, [], ◌∷◌, map, Option}
use Rattle.f77_tree.specs.declared.expressions.Access.{Access}
use Rattle.f77_tree.specs.declared.expressions.Expr.{Expr, Row_of-Expr, end_of-Expr, more_of-Expr}
use Rattle.f77_tree.specs.declared.expressions.Expr.TheVariants.{Const, Truth, Input, Read, Read', Apply, Apply'}
use Rattle.f77_tree.specs.declared.programs.Item.{Item}
use Rattle.f77_tree.specs.declared.programs.Item.TheVariants.{Value, Chars}
use Rattle.f77_tree.specs.declared.programs.NameInfo.{NameInfo}
use Rattle.f77_tree.specs.KnownWith.{known_with}
use Rattle.f77_tree.specs.Line.{kind_of_expression}
use Rattle.simplified_forms.specs.Literals.{literal_or}

-- the literal of what is known of an expression, else another expression
abbrev pub known_or : List NameInfo → (checked : Bool) → (words : ℕ → Option ℤ) → (e other : Expr) → Expr
known_or names checked words e other = literal_or checked (kind_of_expression names e) (known_with names words e) other

abbrev mutual
  -- Each part that has a known value, where `words` tells what is known of words of the store, becomes a constant; the rest keeps
  -- its form. What is known is asked of the expression as it is, before anything in it becomes a constant.
  pub folded : List NameInfo → (checked : Bool) → (words : ℕ → Option ℤ) → Expr → Expr
  folded names checked words (Const z) = Const z
  folded names checked words (Truth b) = Truth b
  folded names checked words Input = Input
  folded names checked words (Read' name shape subs) = known_or names checked words (Read' name shape subs) (Read (record { name = name; subs = row_folded names checked words subs }))
  folded names checked words (Apply' op shape args) = known_or names checked words (Apply' op shape args) (Apply op (row_folded names checked words args))

  pub row_folded : {m : _} → List NameInfo → (checked : Bool) → (words : ℕ → Option ℤ) → Row_of-Expr m → List Expr
  row_folded names checked words end_of-Expr = []
  row_folded names checked words (more_of-Expr e rest) = folded names checked words e ∷ row_folded names checked words rest

module _ (names : List NameInfo) (checked : Bool) (words : ℕ → Option ℤ) where
  -- a target stays a target: only its subscripts are folded
  abbrev pub folded_access : Access → Access
  folded_access access = record { name = access.name; subs = map (folded names checked words) access.subs }

  abbrev pub folded_item : Item → Item
  folded_item (Value e) = Value (folded names checked words e)
  folded_item (Chars text) = Chars text
