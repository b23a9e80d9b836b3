-- The line that PRINT writes.
use Rattle.std.specs.Prelude.{◌≡◌, ℕ, ◌+◌, ℤ, if◌then◌else◌, List, [], ◌∷◌, ◌++◌, length, map, None, Result, Ok, Err}
use Rattle.std.specs.Fmt.{signed_decimal}
use Rattle.op_table.specs.declared.Op.{Op}
use Rattle.op_table.specs.declared.Op.TheVariants.{Lt, Le, Eq, Ne, Ge, Gt, Not, And, Or, Eqv, Neqv, Truth as Truth_of}
use Rattle.op_table.specs.declared.Trap.{Trap}
use Rattle.op_table.specs.Words.{is_true}
use Rattle.f77_tree.specs.declared.declarations.Kind.{Kind}
use Rattle.f77_tree.specs.declared.declarations.Kind.TheVariants.{Integer, Logical}
use Rattle.f77_tree.specs.declared.expressions.Expr.{Expr}
use Rattle.f77_tree.specs.declared.expressions.Expr.TheVariants.{Const, Truth, Input, Read', Apply'}
use Rattle.f77_tree.specs.declared.programs.Item.{Item}
use Rattle.f77_tree.specs.declared.programs.Item.TheVariants.{Value, Chars}
use Rattle.f77_tree.specs.declared.programs.NameInfo.{NameInfo}
use Rattle.f77_tree.specs.Value.{value, kind_of, and_then}

-- the kind of an operator's value: relations and operators on truths give truths
abbrev pub kind_of_op : Op → Kind
kind_of_op Lt = Logical
kind_of_op Le = Logical
kind_of_op Eq = Logical
kind_of_op Ne = Logical
kind_of_op Ge = Logical
kind_of_op Gt = Logical
kind_of_op Not = Logical
kind_of_op And = Logical
kind_of_op Or = Logical
kind_of_op Eqv = Logical
kind_of_op Neqv = Logical
kind_of_op Truth_of = Logical
kind_of_op _ = Integer

-- the kind of an expression's value
abbrev pub kind_of_expression : List NameInfo → Expr → Kind
kind_of_expression names (Const z) = Integer
kind_of_expression names (Truth b) = Logical
kind_of_expression names Input = Integer
kind_of_expression names (Read' name shape subs) = kind_of names name
kind_of_expression names (Apply' op shape args) = kind_of_op op

-- a value as it is written: a number in decimal, a truth as T or F
abbrev pub text_of : Kind → ℤ → List ℕ
text_of Integer z = signed_decimal z
text_of Logical z = if is_true z then 84 ∷ [] else (70 ∷ [])

-- an item as it is written, or the trap of its expression
abbrev pub item_text : List NameInfo → List ℤ → Item → Result (List ℕ) Trap
item_text names store (Value e) = and_then (λ z. Ok (text_of (kind_of_expression names e) z)) (value names store None e)
item_text names store (Chars text) = Ok text

-- a blank and an item before the rest of a line
abbrev pub item_before : Result (List ℕ) Trap → Result (List ℕ) Trap → Result (List ℕ) Trap
item_before (Err trap) rest = Err trap
item_before (Ok text) (Err trap) = Err trap
item_before (Ok text) (Ok more) = Ok (32 ∷ (text ++ more))

-- one blank before each item, and a line feed at the end; or the first trap from the left
abbrev pub line_of_texts : List (Result (List ℕ) Trap) → Result (List ℕ) Trap
line_of_texts [] = Ok (10 ∷ [])
line_of_texts (text ∷ texts) = item_before text (line_of_texts texts)

-- the line of these items, or the first trap of their expressions
abbrev pub line_of : List NameInfo → List ℤ → List Item → Result (List ℕ) Trap
line_of names store items = line_of_texts (map (item_text names store) items)

-- characters, and a line feed at the end
pub record IsLine (line : List ℕ) : Type 0 where
  pub prefix : List ℕ
  pub is : line ≡ prefix ++ 10 ∷ []

-- ---- the line of values that were taken before

-- the values of the expressions among the items, or the traps
abbrev pub item_values : List NameInfo → List ℤ → List Item → List (Result ℤ Trap)
item_values names store [] = []
item_values names store (Value e ∷ items) = value names store None e ∷ item_values names store items
item_values names store (Chars text ∷ items) = item_values names store items

-- an item as it is written, where these values are still to come; an expression without a value is nothing
abbrev pub text_with : List NameInfo → Item → List ℤ → List ℕ
text_with names (Value e) [] = []
text_with names (Value e) (z ∷ values) = text_of (kind_of_expression names e) z
text_with names (Chars text) values = text

-- the values that are still to come after an item
abbrev pub values_after : Item → List ℤ → List ℤ
values_after (Value e) [] = []
values_after (Value e) (z ∷ values) = values
values_after (Chars text) values = values

-- the line of these items, where their expressions have these values, one after another
abbrev pub line_with : List NameInfo → List Item → List ℤ → List ℕ
line_with names [] values = 10 ∷ []
line_with names (item ∷ items) values = 32 ∷ (text_with names item values ++ line_with names items (values_after item values))

-- ---- how long a line may be

-- a blank and the item: a value has eleven characters at most
abbrev pub item_room : Item → ℕ
item_room (Value e) = 12
item_room (Chars text) = 1 + length text

-- the items, and a line feed
abbrev pub line_room : List Item → ℕ
line_room [] = 1
line_room (item ∷ items) = item_room item + line_room items
