-- The words that accesses may name are words of their names, and those that executables touch are words of the program.
use Rattle.std.proofs.Common.{◌≡◌, ℕ, suc, ◌<◌, ℤ, List, [], ◌∷◌, length, map, All, Any, Option, Result, inl, inr, refl, ap, subst, ◌∙◌, arith}
use Rattle.std.proofs.lemmas.Int.{ints}
use Rattle.std.proofs.lemmas.List.{length-map}
use Rattle.op_table.specs.declared.Trap.{Trap}
use Rattle.f77_tree.specs.declared.expressions.Access.{Access}
use Rattle.f77_tree.specs.declared.expressions.Expr.{Expr, Row_of-Expr, end_of-Expr, more_of-Expr}
use Rattle.f77_tree.specs.declared.expressions.Expr.TheVariants.{Const, Truth, Input, Read', Apply'}
use Rattle.f77_tree.specs.declared.programs.ExecKind.{ExecKind}
use Rattle.f77_tree.specs.declared.programs.ExecKind.TheVariants.{Assign, Print, Pass, Test, Sign, Pick, DoStart, DoNext, End}
use Rattle.f77_tree.specs.declared.programs.Item.{Item}
use Rattle.f77_tree.specs.declared.programs.Item.TheVariants.{Value, Chars}
use Rattle.f77_tree.specs.declared.programs.NameInfo.{NameInfo}
use Rattle.f77_tree.specs.declared.programs.Program.{Program}
use Rattle.f77_tree.specs.CanRun.{CanExecute, CanPrint}
use Rattle.f77_tree.specs.Known.{known, row_known}
use Rattle.f77_tree.specs.Places.{IsWordOf}
use Rattle.f77_tree.specs.Touched.{AreAsKnown, MayName, MayRead, SomeMayRead, ItemMayRead, ExecMayRead, ExecMayChange}
use Rattle.f77_tree.specs.Value.{dims_of, row_length, IsExpression, AllExpressions, IsAccess, ArePlaced}
use Rattle.f77_tree.proofs.Places.{name-taken, count-is, word-in}

-- ---- words of names

as_known-length : (known : List (Option ℤ)) (values : List (Result ℤ Trap)) → AreAsKnown known values → length values ≡ length known
as_known-length [] [] are = refl
as_known-length [] (value ∷ values) are = absurd are
as_known-length (k ∷ known) [] are = absurd are
as_known-length (k ∷ known) (value ∷ values) are = ap suc (as_known-length known values are.1)

-- a word that an access may name is one of its name
pub named-is_word_of : (names : List NameInfo) (words name : ℕ) (known : List (Option ℤ)) (word : ℕ) → ArePlaced names words → name < length names → length known ≡ length (dims_of names name) → MayName names name known word → IsWordOf names name word
named-is_word_of names words name known word placed lt as_many may =
    word-in names name words word may.values placed lt (as_known-length known may.values may.as_known ∙ as_many) may.is

-- the words of names lie in the store
pub word_of-below : (names : List NameInfo) (words name word : ℕ) → ArePlaced names words → IsWordOf names name word → word < words
word_of-below names words name word placed is =
    let taken = name-taken names name words placed is.known in
    let size = count-is (dims_of names name) taken.bounds in
    let inside = taken.inside in
    let ends = is.ends in
    omega (arith, ints, size, inside, ends)

-- ---- words of the program

row_known-length : {m : _} (row : Row_of-Expr m) → length (row_known row) ≡ row_length row
row_known-length end_of-Expr = refl
row_known-length (more_of-Expr e rest) = ap suc (row_known-length rest)

module _ (names : List NameInfo) (words : ℕ) (placed : ArePlaced names words) (word : ℕ) where
  named-below : (name : ℕ) (known : List (Option ℤ)) → name < length names → length known ≡ length (dims_of names name) → MayName names name known word → word < words
  named-below name known lt as_many may = word_of-below names words name word placed (named-is_word_of names words name known word placed lt as_many may)

  access-below : (access : Access) → IsAccess names access → MayName names access.name (map known access.subs) word → word < words
  access-below access is may = named-below access.name (map known access.subs) is.known (length-map access.subs known ∙ is.as_many) may

  mutual
    read-below : (e : Expr) → IsExpression names e → MayRead names e word → word < words
    read-below (Const z) is may = absurd may
    read-below (Truth b) is may = absurd may
    read-below Input is may = absurd may
    read-below (Read' name shape subs) is (inl may) = row-below subs is.2 may
    read-below (Read' name shape subs) is (inr may) = named-below name (row_known subs) is.0 (row_known-length subs ∙ is.1) may
    read-below (Apply' op shape args) is may = row-below args is.1 may

    row-below : {m : _} (row : Row_of-Expr m) → AllExpressions names row → SomeMayRead names row word → word < words
    row-below end_of-Expr are may = absurd may
    row-below (more_of-Expr e rest) are (inl may) = read-below e are.0 may
    row-below (more_of-Expr e rest) are (inr may) = row-below rest are.1 may

  -- where one of a list may read the word, and each of them reads words of the program alone
  some-below : {X : Type 0} (Reads Fits : X → Type 0) → ((x : X) → Fits x → Reads x → word < words) → (xs : List X) → All Fits xs → Any Reads xs → word < words
  some-below Reads Fits below xs all some = below some.1 (subst Fits some.3 (all some.0 some.1 some.2)) some.4

  item-below : (item : Item) → CanPrint names item → ItemMayRead names item word → word < words
  item-below (Value e) is may = read-below e is may
  item-below (Chars text) is may = absurd may

module _ (p : Program) (placed : ArePlaced p.names p.words) (word : ℕ) where
  below : (e : Expr) → IsExpression p.names e → MayRead p.names e word → word < p.words
  below e is may = read-below p.names p.words placed word e is may

  -- what an executable may read is a word of the program
  pub exec-reads_below : (kind : ExecKind) → CanExecute p kind → ExecMayRead p.names kind word → word < p.words
  exec-reads_below (Assign target e next) can (inl may) = some-below p.names p.words placed word (λ sub. MayRead p.names sub word) (IsExpression p.names) below target.subs can.0.subscripts may
  exec-reads_below (Assign target e next) can (inr may) = below e can.1 may
  exec-reads_below (Print items next) can may = some-below p.names p.words placed word (λ item. ItemMayRead p.names item word) (CanPrint p.names) (item-below p.names p.words placed word) items can.0 may
  exec-reads_below (Pass next) can may = absurd may
  exec-reads_below (Test cond if_true if_false) can may = below cond can.0 may
  exec-reads_below (Sign e neg equal pos') can may = below e can.0 may
  exec-reads_below (Pick e targets other) can may = below e can.0 may
  exec-reads_below (DoStart loop_no var first last step body exit) can (inl may) = below first can.1 may
  exec-reads_below (DoStart loop_no var first last step body exit) can (inr (inl may)) = below last can.2 may
  exec-reads_below (DoStart loop_no var first last step body exit) can (inr (inr may)) = below step can.3 may
  exec-reads_below (DoNext loop_no var body exit) can may = subst (λ w. w < p.words) may can.word
  exec-reads_below End can may = absurd may

  -- and so is what it may change
  pub exec-changes_below : (kind : ExecKind) → CanExecute p kind → ExecMayChange p.names kind word → word < p.words
  exec-changes_below (Assign target e next) can may = access-below p.names p.words placed word target can.0 may
  exec-changes_below (Print items next) can may = absurd may
  exec-changes_below (Pass next) can may = absurd may
  exec-changes_below (Test cond if_true if_false) can may = absurd may
  exec-changes_below (Sign e neg equal pos') can may = absurd may
  exec-changes_below (Pick e targets other) can may = absurd may
  exec-changes_below (DoStart loop_no var first last step body exit) can may = subst (λ w. w < p.words) may can.0.word
  exec-changes_below (DoNext loop_no var body exit) can may = subst (λ w. w < p.words) may can.word
  exec-changes_below End can may = absurd may
