-- What an executable may read and change, seen from its text and the table of names alone.
use Rattle.std.specs.Prelude.{◌≡◌, ℕ, ℤ, List, [], ◌∷◌, map, Option, Some, Result, Ok, ◌⊎◌, Any}
use Rattle.op_table.specs.declared.Trap.{Trap}
use Rattle.f77_tree.specs.declared.expressions.Access.{Access}
use Rattle.f77_tree.specs.declared.expressions.Expr.{Expr, Row_of-Expr, end_of-Expr, more_of-Expr}
use Rattle.f77_tree.specs.declared.expressions.Expr.TheVariants.{Const, Truth, Input, Read', Apply'}
use Rattle.f77_tree.specs.declared.programs.ExecKind.{ExecKind}
use Rattle.f77_tree.specs.declared.programs.ExecKind.TheVariants.{Assign, Print, Pass, Test, Sign, Pick, DoStart, DoNext, End}
use Rattle.f77_tree.specs.declared.programs.Item.{Item}
use Rattle.f77_tree.specs.declared.programs.Item.TheVariants.{Value, Chars}
use Rattle.f77_tree.specs.declared.programs.NameInfo.{NameInfo}
use Rattle.f77_tree.specs.Value.{place_of, word_of}
use Rattle.f77_tree.specs.Known.{known, row_known}

-- ---- words

-- the values of operands are those that are known, and any where none is
abbrev pub AreAsKnown : List (Option ℤ) → List (Result ℤ Trap) → Type 0
AreAsKnown [] [] = Unit {0}
AreAsKnown (k ∷ known) (value ∷ values) = ((z : ℤ) → k ≡ Some z → value ≡ Ok z) × AreAsKnown known values
AreAsKnown _ _ = ⊥

-- the name has this word at some values that its subscripts may have
pub record MayName (names : List NameInfo) (name : ℕ) (known : List (Option ℤ)) (word : ℕ) : Type 0 where
  pub values : List (Result ℤ Trap)
  pub as_known : AreAsKnown known values
  pub is : word_of names name values ≡ Ok word

-- an access may name this word
abbrev pub AccessMayName : List NameInfo → Access → ℕ → Type 0
AccessMayName names access word = MayName names access.name (map known access.subs) word

abbrev mutual
  -- an expression may read this word
  pub MayRead : List NameInfo → Expr → ℕ → Type 0
  MayRead names (Const z) word = ⊥
  MayRead names (Truth b) word = ⊥
  MayRead names Input word = ⊥
  MayRead names (Read' name shape subs) word = SomeMayRead names subs word ⊎ MayName names name (row_known subs) word
  MayRead names (Apply' op shape args) word = SomeMayRead names args word

  pub SomeMayRead : {m : _} → List NameInfo → Row_of-Expr m → ℕ → Type 0
  SomeMayRead names end_of-Expr word = ⊥
  SomeMayRead names (more_of-Expr e rest) word = MayRead names e word ⊎ SomeMayRead names rest word

abbrev pub ItemMayRead : List NameInfo → Item → ℕ → Type 0
ItemMayRead names (Value e) word = MayRead names e word
ItemMayRead names (Chars text) word = ⊥

-- an executable may read this word: of the target of an assignment it reads the subscripts alone
abbrev pub ExecMayRead : List NameInfo → ExecKind → ℕ → Type 0
ExecMayRead names (Assign target e next) word = Any (λ sub. MayRead names sub word) target.subs ⊎ MayRead names e word
ExecMayRead names (Print items next) word = Any (λ item. ItemMayRead names item word) items
ExecMayRead names (Pass next) word = ⊥
ExecMayRead names (Test cond if_true if_false) word = MayRead names cond word
ExecMayRead names (Sign e neg zero pos) word = MayRead names e word
ExecMayRead names (Pick e targets other) word = MayRead names e word
ExecMayRead names (DoStart loop_no var first last step body exit) word = MayRead names first word ⊎ (MayRead names last word ⊎ MayRead names step word)
ExecMayRead names (DoNext loop_no var body exit) word = place_of names var ≡ word
ExecMayRead names End word = ⊥

-- an executable may change this word: one that its target may name, or the word of a DO variable
abbrev pub ExecMayChange : List NameInfo → ExecKind → ℕ → Type 0
ExecMayChange names (Assign target e next) word = AccessMayName names target word
ExecMayChange names (DoStart loop_no var first last step body exit) word = place_of names var ≡ word
ExecMayChange names (DoNext loop_no var body exit) word = place_of names var ≡ word
ExecMayChange names _ word = ⊥

-- ---- data

abbrev mutual
  -- an expression reads the next word of the data
  pub ReadsData : Expr → Type 0
  ReadsData (Const z) = ⊥
  ReadsData (Truth b) = ⊥
  ReadsData Input = Unit {0}
  ReadsData (Read' name shape subs) = SomeReadsData subs
  ReadsData (Apply' op shape args) = SomeReadsData args

  pub SomeReadsData : {m : _} → Row_of-Expr m → Type 0
  SomeReadsData end_of-Expr = ⊥
  SomeReadsData (more_of-Expr e rest) = ReadsData e ⊎ SomeReadsData rest

-- an executable reads the next word of the data: an assignment alone can
abbrev pub ExecReadsData : ExecKind → Type 0
ExecReadsData (Assign target e next) = Any ReadsData target.subs ⊎ ReadsData e
ExecReadsData _ = ⊥

-- ---- DOs

-- an executable sets the count of this DO
abbrev pub SetsCount : ExecKind → ℕ → Type 0
SetsCount (DoStart loop_no var first last step body exit) n = loop_no ≡ n
SetsCount (DoNext loop_no var body exit) n = loop_no ≡ n
SetsCount _ n = ⊥

-- an executable sets the step of this DO, which its increments keep
abbrev pub SetsStep : ExecKind → ℕ → Type 0
SetsStep (DoStart loop_no var first last step body exit) n = loop_no ≡ n
SetsStep _ n = ⊥

-- an executable reads the count and the step of this DO
abbrev pub ReadsCount : ExecKind → ℕ → Type 0
ReadsCount (DoNext loop_no var body exit) n = loop_no ≡ n
ReadsCount _ n = ⊥
