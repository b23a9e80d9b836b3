-- What may be read or changed has its class among those that are needed.
use Rattle.std.proofs.Common.{◌≡◌, ℕ, suc, ◌<◌, ℤ, List, length, map, All, Any, Option, Some, None, inl, inr, refl, ap, sym, subst, ◌∙◌}
use Rattle.std.proofs.lemmas.List.{length-map}
use Rattle.f77_tree.specs.declared.expressions.Access.{Access}
use Rattle.f77_tree.specs.declared.expressions.Expr.{Expr, Row_of-Expr, end_of-Expr, more_of-Expr}
use Rattle.f77_tree.specs.declared.expressions.Expr.TheVariants.{Const, Truth, Input, Read', Apply'}
use Rattle.f77_tree.specs.declared.programs.ExecKind.{ExecKind}
use Rattle.f77_tree.specs.declared.programs.ExecKind.TheVariants.{Assign, Print, Pass, Test, Sign, Pick, DoStart, DoNext, End}
use Rattle.f77_tree.specs.declared.programs.Item.{Item}
use Rattle.f77_tree.specs.declared.programs.Item.TheVariants.{Value, Chars}
use Rattle.f77_tree.specs.declared.programs.NameInfo.{NameInfo}
use Rattle.f77_tree.specs.declared.programs.Program.{Program}
use Rattle.f77_tree.specs.CanRun.{CanExecute, CanPrint}
use Rattle.f77_tree.specs.Known.{known, row_known}
use Rattle.f77_tree.specs.KnownWith.{known_word}
use Rattle.f77_tree.specs.Places.{IsWordOf}
use Rattle.f77_tree.specs.Touched.{MayName, MayRead, SomeMayRead, ItemMayRead, ExecMayRead, ExecMayChange, SetsCount, SetsStep, ReadsCount}
use Rattle.f77_tree.specs.Value.{dims_of, row_length, place_of, IsExpression, AllExpressions, IsAccess, ArePlaced}
use Rattle.alias_classes.specs.Classes.{ClassTable, class_of_word, class_of_loop}
use Rattle.alias_classes.specs.Needs.{HitsAt, HitsName, Hits, ExprNeeds, SomeNeeds, ItemNeeds, IsOfLoop, ExecNeeds}

-- a word that an access may name is one of its name
abbrev pub StayInNames : Type 0
StayInNames = (names : List NameInfo) (words name : ℕ) (known : List (Option ℤ)) (word : ℕ) → ArePlaced names words → name < length names → length known ≡ length (dims_of names name) → MayName names name known word → IsWordOf names name word

-- and the only one where all subscripts are known
abbrev pub AreAlone : Type 0
AreAlone = (names : List NameInfo) (name : ℕ) (known : List (Option ℤ)) (word other : ℕ) → known_word names name known ≡ Some word → MayName names name known other → other ≡ word

row_known-length : {m : _} (row : Row_of-Expr m) → length (row_known row) ≡ row_length row
row_known-length end_of-Expr = refl
row_known-length (more_of-Expr e rest) = ap suc (row_known-length rest)

module _ (own : StayInNames) (alone : AreAlone) (t : ClassTable) (words word : ℕ) (placed : ArePlaced t.names words) where
  named-hits : (name : ℕ) (known : List (Option ℤ)) → name < length t.names → length known ≡ length (dims_of t.names name) → MayName t.names name known word → HitsName t name known (class_of_word t word)
  named-hits name known lt as_many may = by (known_word t.names name known) refl
    where
      by : (w : Option ℕ) → known_word t.names name known ≡ w → HitsAt t name w (class_of_word t word)
      by None is = record { word = word; has = own t.names words name known word placed lt as_many may; is = refl }
      by (Some w) is = ap (class_of_word t) (sym (alone t.names name known w word is may))

  pub access-hits : (access : Access) → IsAccess t.names access → MayName t.names access.name (map known access.subs) word → Hits t access (class_of_word t word)
  access-hits access is may = named-hits access.name (map known access.subs) is.known (length-map access.subs known ∙ is.as_many) may

  mutual
    read-needs : (e : Expr) → IsExpression t.names e → MayRead t.names e word → ExprNeeds t e (class_of_word t word)
    read-needs (Const z) is may = absurd may
    read-needs (Truth b) is may = absurd may
    read-needs Input is may = absurd may
    read-needs (Read' name shape subs) is (inl may) = inl (row-needs subs is.2 may)
    read-needs (Read' name shape subs) is (inr may) = inr (named-hits name (row_known subs) is.0 (row_known-length subs ∙ is.1) may)
    read-needs (Apply' op shape args) is may = row-needs args is.1 may

    row-needs : {m : _} (row : Row_of-Expr m) → AllExpressions t.names row → SomeMayRead t.names row word → SomeNeeds t row (class_of_word t word)
    row-needs end_of-Expr are may = absurd may
    row-needs (more_of-Expr e rest) are (inl may) = inl (read-needs e are.0 may)
    row-needs (more_of-Expr e rest) are (inr may) = inr (row-needs rest are.1 may)

  item-needs : (item : Item) → CanPrint t.names item → ItemMayRead t.names item word → ItemNeeds t item (class_of_word t word)
  item-needs (Value e) is may = read-needs e is may
  item-needs (Chars text) is may = absurd may

-- where one of a list may read the word, it needs the class
some-needs : {X : Type 0} (Reads Fits Wants : X → Type 0) → ((x : X) → Fits x → Reads x → Wants x) → (xs : List X) → All Fits xs → Any Reads xs → Any Wants xs
some-needs Reads Fits Wants one xs all some = (some.0, some.1, some.2, some.3, one some.1 (subst Fits some.3 (all some.0 some.1 some.2)) some.4)

module _ (own : StayInNames) (alone : AreAlone) (p : Program) (t : ClassTable) (is_table : t.names ≡ p.names) (placed : ArePlaced p.names p.words) (word : ℕ) where
  pub hits : (access : Access) → IsAccess p.names access → MayName p.names access.name (map known access.subs) word → Hits t access (class_of_word t word)
  hits access = subst (λ (names : List NameInfo). ArePlaced names p.words → IsAccess names access → MayName names access.name (map known access.subs) word → Hits t access (class_of_word t word)) is_table (λ placed is may. access-hits own alone t p.words word placed access is may) placed

  needs : (e : Expr) → IsExpression p.names e → MayRead p.names e word → ExprNeeds t e (class_of_word t word)
  needs e = subst (λ (names : List NameInfo). ArePlaced names p.words → IsExpression names e → MayRead names e word → ExprNeeds t e (class_of_word t word)) is_table (λ placed is may. read-needs own alone t p.words word placed e is may) placed

  prints : (item : Item) → CanPrint p.names item → ItemMayRead p.names item word → ItemNeeds t item (class_of_word t word)
  prints item = subst (λ (names : List NameInfo). ArePlaced names p.words → CanPrint names item → ItemMayRead names item word → ItemNeeds t item (class_of_word t word)) is_table (λ placed is may. item-needs own alone t p.words word placed item is may) placed

  variable : (loop_no var : ℕ) → place_of p.names var ≡ word → IsOfLoop t loop_no var (class_of_word t word)
  variable loop_no var is = inl (ap (class_of_word t) (ap (λ (names : List NameInfo). place_of names var) is_table ∙ is))

  pub exec-reads : (kind : ExecKind) → CanExecute p kind → ExecMayRead p.names kind word → ExecNeeds t kind (class_of_word t word)
  exec-reads (Assign target e next) can (inl may) = inl (inl (some-needs (λ sub. MayRead p.names sub word) (IsExpression p.names) (λ sub. ExprNeeds t sub (class_of_word t word)) needs target.subs can.0.subscripts may))
  exec-reads (Assign target e next) can (inr may) = inr (needs e can.1 may)
  exec-reads (Print items next) can may = some-needs (λ item. ItemMayRead p.names item word) (CanPrint p.names) (λ item. ItemNeeds t item (class_of_word t word)) prints items can.0 may
  exec-reads (Pass next) can may = absurd may
  exec-reads (Test cond if_true if_false) can may = needs cond can.0 may
  exec-reads (Sign e neg equal pos') can may = needs e can.0 may
  exec-reads (Pick e targets other) can may = needs e can.0 may
  exec-reads (DoStart loop_no var first last step body exit) can (inl may) = inl (inl (needs first can.1 may))
  exec-reads (DoStart loop_no var first last step body exit) can (inr (inl may)) = inl (inr (inl (needs last can.2 may)))
  exec-reads (DoStart loop_no var first last step body exit) can (inr (inr may)) = inl (inr (inr (needs step can.3 may)))
  exec-reads (DoNext loop_no var body exit) can may = variable loop_no var may
  exec-reads End can may = absurd may

  pub exec-changes : (kind : ExecKind) → CanExecute p kind → ExecMayChange p.names kind word → ExecNeeds t kind (class_of_word t word)
  exec-changes (Assign target e next) can may = inl (inr (hits target can.0 may))
  exec-changes (Print items next) can may = absurd may
  exec-changes (Pass next) can may = absurd may
  exec-changes (Test cond if_true if_false) can may = absurd may
  exec-changes (Sign e neg equal pos') can may = absurd may
  exec-changes (Pick e targets other) can may = absurd may
  exec-changes (DoStart loop_no var first last step body exit) can may = inr (variable loop_no var may)
  exec-changes (DoNext loop_no var body exit) can may = variable loop_no var may
  exec-changes End can may = absurd may

module _ (t : ClassTable) (n : ℕ) where
  pub sets_count : (kind : ExecKind) → SetsCount kind n → ExecNeeds t kind (class_of_loop t n)
  sets_count (DoStart loop_no var first last step body exit) is = inr (inr (ap (class_of_loop t) is))
  sets_count (DoNext loop_no var body exit) is = inr (ap (class_of_loop t) is)
  sets_count (Assign target e next) is = absurd is
  sets_count (Print items next) is = absurd is
  sets_count (Pass next) is = absurd is
  sets_count (Test cond if_true if_false) is = absurd is
  sets_count (Sign e neg equal pos') is = absurd is
  sets_count (Pick e targets other) is = absurd is
  sets_count End is = absurd is

  pub sets_step : (kind : ExecKind) → SetsStep kind n → ExecNeeds t kind (class_of_loop t n)
  sets_step (DoStart loop_no var first last step body exit) is = inr (inr (ap (class_of_loop t) is))
  sets_step (DoNext loop_no var body exit) is = absurd is
  sets_step (Assign target e next) is = absurd is
  sets_step (Print items next) is = absurd is
  sets_step (Pass next) is = absurd is
  sets_step (Test cond if_true if_false) is = absurd is
  sets_step (Sign e neg equal pos') is = absurd is
  sets_step (Pick e targets other) is = absurd is
  sets_step End is = absurd is

  pub reads_count : (kind : ExecKind) → ReadsCount kind n → ExecNeeds t kind (class_of_loop t n)
  reads_count (DoNext loop_no var body exit) is = inr (ap (class_of_loop t) is)
  reads_count (DoStart loop_no var first last step body exit) is = absurd is
  reads_count (Assign target e next) is = absurd is
  reads_count (Print items next) is = absurd is
  reads_count (Pass next) is = absurd is
  reads_count (Test cond if_true if_false) is = absurd is
  reads_count (Sign e neg equal pos') is = absurd is
  reads_count (Pick e targets other) is = absurd is
  reads_count End is = absurd is
