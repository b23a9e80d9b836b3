-- The classes that executables need are classes of the program: each has a number from 1 to their count.
use Rattle.std.proofs.Common.{◌≡◌, ℕ, suc, ◌<◌, ◌≤◌, ℤ, List, [], ◌∷◌, length, map, Option, Some, None, Result, Ok, Err, inl, inr, refl, ap, sym, subst, ◌∙◌, arith}
use Rattle.std.proofs.lemmas.List.{length-map}
use Rattle.std.specs.Option.{option_map, option_and_then}
use Rattle.std.specs.Result.{result_ok}
use Rattle.op_table.specs.declared.Trap.{Trap}
use Rattle.op_table.specs.Known.{all_known}
use Rattle.f77_tree.specs.declared.expressions.Access.{Access}
use Rattle.f77_tree.specs.declared.expressions.Expr.{Expr, Row_of-Expr, end_of-Expr, more_of-Expr}
use Rattle.f77_tree.specs.declared.expressions.Expr.TheVariants.{Const, Truth, Input, Read', Apply'}
use Rattle.f77_tree.specs.declared.programs.ExecKind.{ExecKind}
use Rattle.f77_tree.specs.declared.programs.ExecKind.TheVariants.{Assign, Print, Pass, Test, Sign, Pick, DoStart, DoNext, End}
use Rattle.f77_tree.specs.declared.programs.Item.{Item}
use Rattle.f77_tree.specs.declared.programs.Item.TheVariants.{Value, Chars}
use Rattle.f77_tree.specs.declared.programs.NameInfo.{NameInfo}
use Rattle.f77_tree.specs.declared.programs.Program.{Program}
use Rattle.f77_tree.specs.CanRun.{CanExecute, CanPrint}
use Rattle.f77_tree.specs.Known.{known, row_known}
use Rattle.f77_tree.specs.KnownWith.{known_word}
use Rattle.f77_tree.specs.Places.{IsWordOf}
use Rattle.f77_tree.specs.Touched.{AreAsKnown}
use Rattle.f77_tree.specs.Value.{dims_of, row_length, place_of, word_of, IsExpression, AllExpressions, IsAccess, ArePlaced}
use Rattle.f77_tree.specs.WellFormed.{IsWellFormed}
use Rattle.alias_classes.specs.Classes.{ClassTable, IsClasses, class_of_word, class_count}
use Rattle.alias_classes.specs.Needs.{HitsAt, HitsName, Needs, ExprNeeds, SomeNeeds, ItemNeeds, IsOfLoop, ExecNeeds}
use Rattle.alias_classes.proofs.Covering.{StayInNames}
use Rattle.alias_classes.proofs.MakingLemmas.{well-placed, some-word}

-- ---- the word of known subscripts is one of the name

as-all-known : (ks : List (Option ℤ)) (zs : List ℤ) → all_known ks ≡ Some zs → AreAsKnown ks (map (λ z. Ok z) zs)
as-all-known [] [] e = tt
as-all-known [] (z ∷ zs) e = absurd cc
as-all-known (None ∷ ks) zs e = let no : None ≡ Some zs = e in absurd cc
as-all-known (Some k ∷ ks) zs e = by (λ more f. as-all-known ks more f) (all_known ks) refl e
  where
    by : ((more : List ℤ) → all_known ks ≡ Some more → AreAsKnown ks (map (λ z. Ok z) more)) → (o : Option (List ℤ)) → all_known ks ≡ o → option_map (λ more. k ∷ more) o ≡ Some zs → AreAsKnown (Some k ∷ ks) (map (λ z. Ok z) zs)
    by rest None f h = let no : None ≡ Some zs = h in absurd cc
    by rest (Some more) f h =
        let is : k ∷ more ≡ zs = cc in
        let here : (z : ℤ) → Some k ≡ Some z → Ok k ≡ Ok z = λ z told. (let same : k ≡ z = cc in ap (λ x. Ok x) same) in
        subst (λ (xs : List ℤ). AreAsKnown (Some k ∷ ks) (map (λ z. Ok z) xs)) is (here, rest more f)

known-of-name : StayInNames → (names : List NameInfo) (words name : ℕ) (known : List (Option ℤ)) (word : ℕ) → ArePlaced names words → name < length names → length known ≡ length (dims_of names name) → known_word names name known ≡ Some word → IsWordOf names name word
known-of-name own names words name known word placed lt as_many e = by (all_known known) refl e
  where
    at : (subs : List ℤ) → all_known known ≡ Some subs → (r : Result ℕ Trap) → word_of names name (map (λ z. Ok z) subs) ≡ r → result_ok r ≡ Some word → IsWordOf names name word
    at subs are (Err trap) f h = let no : None ≡ Some word = h in absurd cc
    at subs are (Ok k) f h =
        let same : k ≡ word = cc in
        own names words name known word placed lt as_many (record { values = map (λ z. Ok z) subs; as_known = as-all-known known subs are; is = f ∙ ap (λ w. Ok w) same })

    by : (o : Option (List ℤ)) → all_known known ≡ o → option_and_then (λ subs. result_ok (word_of names name (map (λ z. Ok z) subs))) o ≡ Some word → IsWordOf names name word
    by None f h = let no : None ≡ Some word = h in absurd cc
    by (Some subs) f h = at subs f (word_of names name (map (λ z. Ok z) subs)) refl h

row_known-length : {m : _} (row : Row_of-Expr m) → length (row_known row) ≡ row_length row
row_known-length end_of-Expr = refl
row_known-length (more_of-Expr e rest) = ap suc (row_known-length rest)

-- ---- numbers

abbrev pub IsNumbered : ClassTable → ℕ → Type 0
IsNumbered t n = (1 ≤ n) × (n ≤ class_count t)

module _ (own : StayInNames) (t : ClassTable) (words n : ℕ) (placed : ArePlaced t.names words) (numbered : (name word : ℕ) → IsWordOf t.names name word → IsNumbered t (class_of_word t word)) where
  hit-numbered : (name : ℕ) (known : List (Option ℤ)) → name < length t.names → length known ≡ length (dims_of t.names name) → HitsName t name known n → IsNumbered t n
  hit-numbered name known lt as_many = by (known_word t.names name known) refl
    where
      by : (w : Option ℕ) → known_word t.names name known ≡ w → HitsAt t name w n → IsNumbered t n
      by None is hits = subst (IsNumbered t) hits.is (numbered name hits.word hits.has)
      by (Some w) is hits = subst (IsNumbered t) hits (numbered name w (known-of-name own t.names words name known w placed lt as_many is))

  mutual
    expr-numbered : (e : Expr) → IsExpression t.names e → ExprNeeds t e n → IsNumbered t n
    expr-numbered (Const z) is needs = absurd needs
    expr-numbered (Truth b) is needs = absurd needs
    expr-numbered Input is needs = absurd needs
    expr-numbered (Read' name shape subs) is (inl needs) = row-numbered subs is.2 needs
    expr-numbered (Read' name shape subs) is (inr hits) = hit-numbered name (row_known subs) is.0 (row_known-length subs ∙ is.1) hits
    expr-numbered (Apply' op shape args) is needs = row-numbered args is.1 needs

    row-numbered : {m : _} (row : Row_of-Expr m) → AllExpressions t.names row → SomeNeeds t row n → IsNumbered t n
    row-numbered end_of-Expr are needs = absurd needs
    row-numbered (more_of-Expr e rest) are (inl needs) = expr-numbered e are.0 needs
    row-numbered (more_of-Expr e rest) are (inr needs) = row-numbered rest are.1 needs

  access-numbered : (access : Access) → IsAccess t.names access → Needs t access n → IsNumbered t n
  access-numbered access is (inl some) = expr-numbered some.1 (subst (IsExpression t.names) some.3 (is.subscripts some.0 some.1 some.2)) some.4
  access-numbered access is (inr hits) = hit-numbered access.name (map known access.subs) is.known (length-map access.subs known ∙ is.as_many) hits

  item-numbered : (item : Item) → CanPrint t.names item → ItemNeeds t item n → IsNumbered t n
  item-numbered (Value e) is needs = expr-numbered e is needs
  item-numbered (Chars text) is needs = absurd needs

module _ (own : StayInNames) (p : Program) (t : ClassTable) (n : ℕ) (is : IsWellFormed p) (classes : IsClasses p t) where
  words-numbered : (name word : ℕ) → IsWordOf p.names name word → IsNumbered t (class_of_word t word)
  words-numbered name word has =
      let most = classes.numbering.most word in
      (classes.numbering.some name word has, omega (arith, most))

  abbrev Numbers : List NameInfo → Type 0
  Numbers names = (name word : ℕ) → IsWordOf names name word → IsNumbered t (class_of_word t word)

  placed : ArePlaced t.names p.words
  placed = subst (λ (names : List NameInfo). ArePlaced names p.words) (sym classes.names) (well-placed p is)

  numbers : Numbers t.names
  numbers = subst (λ (names : List NameInfo). Numbers names) (sym classes.names) words-numbered

  expr : (e : Expr) → IsExpression p.names e → ExprNeeds t e n → IsNumbered t n
  expr e fits = expr-numbered own t p.words n placed numbers e (subst (λ (names : List NameInfo). IsExpression names e) (sym classes.names) fits)

  access : (a : Access) → IsAccess p.names a → Needs t a n → IsNumbered t n
  access a fits = access-numbered own t p.words n placed numbers a (subst (λ (names : List NameInfo). IsAccess names a) (sym classes.names) fits)

  item : (i : Item) → CanPrint p.names i → ItemNeeds t i n → IsNumbered t n
  item i fits = item-numbered own t p.words n placed numbers i (subst (λ (names : List NameInfo). CanPrint names i) (sym classes.names) fits)

  loop : (loop_no var : ℕ) → loop_no < p.loops → var < length p.names → IsOfLoop t loop_no var n → IsNumbered t n
  loop loop_no var below lt (inl at) =
      let same : class_of_word t (place_of p.names var) ≡ n = ap (λ (names : List NameInfo). class_of_word t (place_of names var)) (sym classes.names) ∙ at in
      subst (IsNumbered t) same (words-numbered var (place_of p.names var) (record { known = lt; begins = omega arith; ends = some-word p is var lt }))
  loop loop_no var below lt (inr at) = let loops = classes.loops in (omega (arith, at), omega (arith, at, loops, below))

  pub exec-numbered : (kind : ExecKind) → CanExecute p kind → ExecNeeds t kind n → IsNumbered t n
  exec-numbered (Assign target e next) can (inl needs) = access target can.0 needs
  exec-numbered (Assign target e next) can (inr needs) = expr e can.1 needs
  exec-numbered (Print items next) can some = item some.1 (subst (CanPrint p.names) some.3 (can.0 some.0 some.1 some.2)) some.4
  exec-numbered (Pass next) can needs = absurd needs
  exec-numbered (Test cond if_true if_false) can needs = expr cond can.0 needs
  exec-numbered (Sign e neg equal pos') can needs = expr e can.0 needs
  exec-numbered (Pick e targets other) can needs = expr e can.0 needs
  exec-numbered (DoStart loop_no var first last step body exit) can (inl (inl needs)) = expr first can.1 needs
  exec-numbered (DoStart loop_no var first last step body exit) can (inl (inr (inl needs))) = expr last can.2 needs
  exec-numbered (DoStart loop_no var first last step body exit) can (inl (inr (inr needs))) = expr step can.3 needs
  exec-numbered (DoStart loop_no var first last step body exit) can (inr of_loop) = loop loop_no var can.0.loop can.0.name of_loop
  exec-numbered (DoNext loop_no var body exit) can of_loop = loop loop_no var can.loop can.name of_loop
  exec-numbered End can needs = absurd needs
