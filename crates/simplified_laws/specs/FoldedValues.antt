-- Folded expressions mean what the expressions mean, over each store of words in which what is told of words is right.
use Rattle.std.specs.Prelude.{◌≡◌, ℕ, ℤ, Bool, List, map, Option, Ok, All}
use Rattle.op_table.specs.Words.{IsWord, is_true, truth}
use Rattle.f77_tree.specs.declared.declarations.Kind.{Kind}
use Rattle.f77_tree.specs.declared.declarations.Kind.TheVariants.{Logical}
use Rattle.f77_tree.specs.declared.expressions.Access.{Access}
use Rattle.f77_tree.specs.declared.expressions.Expr.{Expr}
use Rattle.f77_tree.specs.declared.programs.Item.{Item}
use Rattle.f77_tree.specs.declared.programs.NameInfo.{NameInfo}
use Rattle.f77_tree.specs.Execution.{words_taken}
use Rattle.f77_tree.specs.Kinds.{IsAssignment, IsProper, IsProperAccess}
use Rattle.f77_tree.specs.KnownWith.{AreRight}
use Rattle.f77_tree.specs.Line.{kind_of_expression, line_of}
use Rattle.f77_tree.specs.Value.{place, value}
use Rattle.f77_tree.specs.WellFormed.{IsProperItem}
use Rattle.simplified_forms.specs.Folding.{folded, folded_access, folded_item}
use Rattle.simplified_forms.specs.Literals.{literal}

-- The literal of a word has its value, in both dialects; a logical value is that of .TRUE. or .FALSE.
abbrev pub LiteralsHaveTheirValues : Type 0
LiteralsHaveTheirValues = (names : List NameInfo) (store : List ℤ) (next : Option ℤ) (checked : Bool) (kind : Kind) (z : ℤ)
    → IsWord z → (kind ≡ Logical → z ≡ truth (is_true z)) → value names store next (literal checked kind z) ≡ Ok z

-- A folded expression has the kind of the expression.
abbrev pub FoldedExpressionsHaveTheirKinds : Type 0
FoldedExpressionsHaveTheirKinds = (names : List NameInfo) (checked : Bool) (words : ℕ → Option ℤ) (e : Expr) → kind_of_expression names (folded names checked words e) ≡ kind_of_expression names e

-- It has the same value, or traps in the same way.
abbrev pub FoldedExpressionsHaveTheirValues : Type 0
FoldedExpressionsHaveTheirValues = (names : List NameInfo) (checked : Bool) (words : ℕ → Option ℤ) (store : List ℤ) (next : Option ℤ) (e : Expr)
    → AreRight words store → All IsWord store → IsProper names e → value names store next (folded names checked words e) ≡ value names store next e

-- A folded access names the same word.
abbrev pub FoldedAccessesHaveTheirPlaces : Type 0
FoldedAccessesHaveTheirPlaces = (names : List NameInfo) (checked : Bool) (words : ℕ → Option ℤ) (store : List ℤ) (next : Option ℤ) (access : Access)
    → AreRight words store → All IsWord store → IsProperAccess names access → place names store next (folded_access names checked words access) ≡ place names store next access

-- Folded items are written as the same line.
abbrev pub FoldedItemsHaveTheirLines : Type 0
FoldedItemsHaveTheirLines = (names : List NameInfo) (checked : Bool) (words : ℕ → Option ℤ) (store : List ℤ) (items : List Item)
    → AreRight words store → All IsWord store → All (IsProperItem names) items → line_of names store (map (folded_item names checked words) items) ≡ line_of names store items

-- what an assignment stores, and how much of the data it takes
pub record AreAssignedAlike (names : List NameInfo) (store : List ℤ) (next : Option ℤ) (e other : Expr) : Type 0 where
  pub value : value names store next other ≡ value names store next e
  pub taken : words_taken other ≡ words_taken e

-- The folded value of an assignment is the same value and takes as much of the data.
abbrev pub FoldedValuesAreAssignedAlike : Type 0
FoldedValuesAreAssignedAlike = (names : List NameInfo) (checked : Bool) (words : ℕ → Option ℤ) (store : List ℤ) (next : Option ℤ) (target : Access) (e : Expr)
    → AreRight words store → All IsWord store → IsAssignment names target e → AreAssignedAlike names store next e (folded names checked words e)
