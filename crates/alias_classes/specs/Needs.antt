-- The classes that accesses need: those of the words that they may name, and what their subscripts need.
use Rattle.std.specs.Prelude.{◌≡◌, ℕ, List, map, Option, Some, None, ◌⊎◌, Any, ℤ}
use Rattle.f77_tree.specs.declared.expressions.Access.{Access}
use Rattle.f77_tree.specs.declared.expressions.Expr.{Expr, Row_of-Expr, end_of-Expr, more_of-Expr}
use Rattle.f77_tree.specs.declared.expressions.Expr.TheVariants.{Const, Truth, Input, Read', Apply'}
use Rattle.f77_tree.specs.declared.programs.ExecKind.{ExecKind}
use Rattle.f77_tree.specs.declared.programs.ExecKind.TheVariants.{Assign, Print, Pass, Test, Sign, Pick, DoStart, DoNext, End}
use Rattle.f77_tree.specs.declared.programs.Item.{Item}
use Rattle.f77_tree.specs.declared.programs.Item.TheVariants.{Value, Chars}
use Rattle.f77_tree.specs.Known.{known, row_known}
use Rattle.f77_tree.specs.KnownWith.{known_word}
use Rattle.f77_tree.specs.Places.{IsWordOf}
use Rattle.f77_tree.specs.Value.{place_of}
use Rattle.alias_classes.specs.Classes.{ClassTable, class_of_word, class_of_loop}

-- ---- accesses

-- n is the class of a word of the name
pub record IsClassOfName (t : ClassTable) (name n : ℕ) : Type 0 where
  pub word : ℕ
  pub has : IsWordOf t.names name word
  pub is : class_of_word t word ≡ n

-- n is the class of the word, or of any word of the name where none is known
abbrev pub HitsAt : ClassTable → (name : ℕ) → Option ℕ → ℕ → Type 0
HitsAt t name None n = IsClassOfName t name n
HitsAt t name (Some word) n = class_of_word t word ≡ n

-- n is a class that a name at subscripts of which so much is known hits: that of its word, where all of them are known and
-- lie within their bounds, else each class of the name
abbrev pub HitsName : ClassTable → (name : ℕ) → List (Option ℤ) → ℕ → Type 0
HitsName t name known n = HitsAt t name (known_word t.names name known) n

abbrev pub Hits : ClassTable → Access → ℕ → Type 0
Hits t access n = HitsName t access.name (map known access.subs) n

abbrev mutual
  -- n is a class that some access in the expression needs
  pub ExprNeeds : ClassTable → Expr → ℕ → Type 0
  ExprNeeds t (Const z) n = ⊥
  ExprNeeds t (Truth b) n = ⊥
  ExprNeeds t Input n = ⊥
  ExprNeeds t (Read' name shape subs) n = SomeNeeds t subs n ⊎ HitsName t name (row_known subs) n
  ExprNeeds t (Apply' op shape args) n = SomeNeeds t args n

  pub SomeNeeds : {m : _} → ClassTable → Row_of-Expr m → ℕ → Type 0
  SomeNeeds t end_of-Expr n = ⊥
  SomeNeeds t (more_of-Expr e rest) n = ExprNeeds t e n ⊎ SomeNeeds t rest n

-- n is a class that an access needs: one that it hits, or that something in its subscripts needs
abbrev pub Needs : ClassTable → Access → ℕ → Type 0
Needs t access n = Any (λ sub. ExprNeeds t sub n) access.subs ⊎ Hits t access n

-- ---- executables

abbrev pub ItemNeeds : ClassTable → Item → ℕ → Type 0
ItemNeeds t (Value e) n = ExprNeeds t e n
ItemNeeds t (Chars text) n = ⊥

-- n is the class of a DO's variable, or of its count and step
abbrev pub IsOfLoop : ClassTable → (loop_no var n : ℕ) → Type 0
IsOfLoop t loop_no var n = (class_of_word t (place_of t.names var) ≡ n) ⊎ (class_of_loop t loop_no ≡ n)

-- n is a class that an executable needs: one that an access in it needs, the target of an assignment included, or one of
-- the DO that it begins or increments
abbrev pub ExecNeeds : ClassTable → ExecKind → ℕ → Type 0
ExecNeeds t (Assign target e next) n = Needs t target n ⊎ ExprNeeds t e n
ExecNeeds t (Print items next) n = Any (λ item. ItemNeeds t item n) items
ExecNeeds t (Pass next) n = ⊥
ExecNeeds t (Test cond if_true if_false) n = ExprNeeds t cond n
ExecNeeds t (Sign e neg zero pos) n = ExprNeeds t e n
ExecNeeds t (Pick e targets other) n = ExprNeeds t e n
ExecNeeds t (DoStart loop_no var first last step body exit) n = (ExprNeeds t first n ⊎ (ExprNeeds t last n ⊎ ExprNeeds t step n)) ⊎ IsOfLoop t loop_no var n
ExecNeeds t (DoNext loop_no var body exit) n = IsOfLoop t loop_no var n
ExecNeeds t End n = ⊥
