-- Statements whose operators are those of the plain dialect: what the grammar writes, and what copies of units make of it.
use Rattle.std.proofs.Common.{◌≡◌, ℕ, ◌≤◌, Bool, true, false, not, ◌&&◌, if◌then◌else◌, List, [], ◌∷◌, All, Option, Some, None, refl, sym, subst, arith}
use Rattle.std.specs.Prelude.{bytes_eq, find, cond}
use Rattle.std.specs.List.{fold}
use mathlib.Core.Former.{Count}
use Rattle.op_table.specs.declared.Op.{Op}
use Rattle.op_table.specs.declared.Op.TheVariants.{Add, Neg, Not, AddChecked, SubChecked, MulChecked, NegChecked, AbsChecked, PowChecked}
use Rattle.f77_tree.specs.declared.statements.RawExpr.{RawExpr, Int, Truth, Named, Call, Call', Apply, Apply', Row_of-RawExpr, end_of-RawExpr, more_of-RawExpr, items-the_row-RawExpr, items_hidden-the_row-RawExpr-0}
use Rattle.f77_tree.specs.declared.statements.RawItem.{RawItem}
use Rattle.f77_tree.specs.declared.statements.RawItem.TheVariants.{Value, Chars}
use Rattle.f77_tree.specs.declared.statements.Stmt.{Stmt, more_of-Stmt}
use Rattle.f77_tree.specs.declared.statements.Stmt.TheVariants.{Assign, Print, Take, PickGoTo, SignIf, ThenIf', BlockIf, ElseIf, Do}
use Rattle.f77_tree.specs.Dialects.{is_of_dialect}
use Rattle.f77_tree.specs.Grammar.{Written, Arguments, level, left_level, operator_level, IsGrammatical, AreGrammatical, reading, readings}
use Rattle.f77_tree.proofs.AllLemmas.{All-nil, All-cons, All-first, All-rest}
use Rattle.declared_names.specs.Functions.{intrinsic_named}
use Rattle.layout_rules.specs.Types.{Intrinsic, intrinsics}
use Rattle.program_units.specs.Copies.{Change, pairs, intrinsic_or, changed_call, changed, changed_row}

-- ---- expressions

abbrev mutual
  pub IsPlain : RawExpr → Type 0
  IsPlain (Int z) = Unit {0}
  IsPlain (Truth b) = Unit {0}
  IsPlain (Named name) = Unit {0}
  IsPlain (Call' name shape args) = ArePlain args
  IsPlain (Apply' op shape args) = (is_of_dialect false op ≡ true) × ArePlain args

  pub ArePlain : {m : _} → Row_of-RawExpr m → Type 0
  ArePlain end_of-RawExpr = Unit {0}
  ArePlain (more_of-RawExpr e rest) = IsPlain e × ArePlain rest

abbrev row_of : RawExpr → (n : Count) × Row_of-RawExpr n
row_of (Call' _ _ row) = (_, row)
row_of (Apply' _ _ row) = (_, row)
row_of _ = (_, end_of-RawExpr)

plain-row : (n : _) (row : Row_of-RawExpr n) → All IsPlain (items-the_row-RawExpr n row) → ArePlain row
plain-row n end_of-RawExpr are = tt
plain-row n (more_of-RawExpr e rest) are =
    (All-first IsPlain e (items-the_row-RawExpr _ rest) are, plain-row _ rest (All-rest IsPlain e (items-the_row-RawExpr _ rest) are))

plain-Call : (name : List ℕ) (args : List RawExpr) → All IsPlain args → IsPlain (Call name args)
plain-Call name args are =
    let row = row_of (Call name args) in
    plain-row row.0 row.1 (subst (All IsPlain) (sym (items_hidden-the_row-RawExpr-0 args)) are)

plain-Apply : (op : Op) (args : List RawExpr) → is_of_dialect false op ≡ true → All IsPlain args → IsPlain (Apply op args)
plain-Apply op args of are =
    let row = row_of (Apply op args) in
    (of, plain-row row.0 row.1 (subst (All IsPlain) (sym (items_hidden-the_row-RawExpr-0 args)) are))

one-plain : (e : RawExpr) → IsPlain e → All IsPlain (e ∷ [])
one-plain e is = All-cons IsPlain e [] is (All-nil IsPlain)

two-plain : (a b : RawExpr) → IsPlain a → IsPlain b → All IsPlain (a ∷ b ∷ [])
two-plain a b first second = All-cons IsPlain a (b ∷ []) first (one-plain b second)

-- ---- expressions of the grammar

level_under : (op : Op) → operator_level op ≤ left_level op
level_under Add = omega arith
level_under _ = omega arith

level_most : (w : Written) → IsGrammatical w → level w ≤ 8
level_most (Written.number digits) is = omega arith
level_most (Written.truth b) is = omega arith
level_most (Written.name n) is = omega arith
level_most (Written.call n arguments) is = omega arith
level_most (Written.bracketed w) is = omega arith
level_most (Written.plus w) is = omega arith
level_most (Written.minus w) is = omega arith
level_most (Written.negation w) is = omega arith
level_most (Written.binary op a b) is =
    let under = level_under op in
    let most = level_most a is.0 in
    let least = is.2 in
    omega (arith, under, most, least)

-- the left operand of an operator of the checked dialect would have level 9
sign-plain : (op : Op) (n : ℕ) → left_level op ≤ n → n ≤ 8 → is_of_dialect false op ≡ true
sign-plain AddChecked n least most = absurd (omega (arith, least, most))
sign-plain SubChecked n least most = absurd (omega (arith, least, most))
sign-plain MulChecked n least most = absurd (omega (arith, least, most))
sign-plain NegChecked n least most = absurd (omega (arith, least, most))
sign-plain AbsChecked n least most = absurd (omega (arith, least, most))
sign-plain PowChecked n least most = absurd (omega (arith, least, most))
sign-plain op n least most = refl

mutual
  pub written-plain : (w : Written) → IsGrammatical w → IsPlain (reading w)
  written-plain (Written.number digits) is = tt
  written-plain (Written.truth b) is = tt
  written-plain (Written.name n) is = tt
  written-plain (Written.call n arguments) is = plain-Call n (readings arguments) (arguments-plain arguments is.1)
  written-plain (Written.bracketed w) is = written-plain w is
  written-plain (Written.plus w) is = written-plain w is.0
  written-plain (Written.minus w) is = plain-Apply Neg (reading w ∷ []) refl (one-plain (reading w) (written-plain w is.0))
  written-plain (Written.negation w) is = plain-Apply Not (reading w ∷ []) refl (one-plain (reading w) (written-plain w is.0))
  written-plain (Written.binary op a b) is =
      plain-Apply op (reading a ∷ reading b ∷ []) (sign-plain op (level a) is.2 (level_most a is.0))
      (two-plain (reading a) (reading b) (written-plain a is.0) (written-plain b is.1))

  arguments-plain : (arguments : Arguments) → AreGrammatical arguments → All IsPlain (readings arguments)
  arguments-plain (Arguments.last w) are = one-plain (reading w) (written-plain w are)
  arguments-plain (Arguments.before w more) are = All-cons IsPlain (reading w) (readings more) (written-plain w are.0) (arguments-plain more are.1)

-- ---- changed expressions

fold-plain : (op : Op) (e : RawExpr) (rest : List RawExpr) → is_of_dialect false op ≡ true → IsPlain e → All IsPlain rest → IsPlain (fold (λ e c. Apply op (e ∷ c ∷ [])) e rest)
fold-plain op e [] of first are = first
fold-plain op e (c ∷ rest) of first are =
    fold-plain op (Apply op (e ∷ c ∷ [])) rest of (plain-Apply op (e ∷ c ∷ []) of (two-plain e c first (All-first IsPlain c rest are))) (All-rest IsPlain c rest are)

pairs-plain : (op : Op) (args : List RawExpr) → is_of_dialect false op ≡ true → All IsPlain args → IsPlain (pairs op args)
pairs-plain op [] of are = plain-Apply op [] of are
pairs-plain op (a ∷ []) of are = plain-Apply op (a ∷ []) of are
pairs-plain op (a ∷ b ∷ rest) of are =
    let others = All-rest IsPlain a (b ∷ rest) are in
    fold-plain op (Apply op (a ∷ b ∷ [])) rest of
    (plain-Apply op (a ∷ b ∷ []) of (two-plain a b (All-first IsPlain a (b ∷ rest) are) (All-first IsPlain b rest others)))
    (All-rest IsPlain b rest others)

abbrev AllOfPlain : List Intrinsic → Type 0
AllOfPlain [] = Unit {0}
AllOfPlain (f ∷ fs) = (is_of_dialect false f.op ≡ true) × AllOfPlain fs

intrinsics-plain : AllOfPlain intrinsics
intrinsics-plain = (refl, (refl, (refl, (refl, (refl, (refl, (refl, (refl, (refl, tt)))))))))

found-plain : (fs : List Intrinsic) (test : Intrinsic → Bool) (name : List ℕ) (args : List RawExpr) → AllOfPlain fs → All IsPlain args → IsPlain (intrinsic_or (find test fs) name args)
found-plain [] test name args of are = plain-Call name args are
found-plain (f ∷ fs) test name args of are = by (test f) (found-plain fs test name args of.1 are)
  where
    by : (b : Bool) → IsPlain (intrinsic_or (find test fs) name args) → IsPlain (intrinsic_or (cond b (Some f) (find test fs)) name args)
    by true later = pairs-plain f.op args of.0 are
    by false later = later

module _ (c : Change) where
  call-plain : (name : List ℕ) (args : List RawExpr) → All IsPlain args → IsPlain (changed_call c name args)
  call-plain name args are = by (c.copied && not (c.arrays name))
    where
      by : (b : Bool) → IsPlain (if b then intrinsic_or (intrinsic_named name) (c.name name) args else Call (c.name name) args)
      by true = found-plain intrinsics (λ f. bytes_eq f.name name) (c.name name) args intrinsics-plain are
      by false = plain-Call (c.name name) args are

  mutual
    pub changed-plain : (e : RawExpr) → IsPlain e → IsPlain (changed c e)
    changed-plain (Int z) is = tt
    changed-plain (Truth b) is = tt
    changed-plain (Named name) is = tt
    changed-plain (Call' name shape args) is = call-plain name (changed_row c args) (changed_row-plain args is)
    changed-plain (Apply' op shape args) is = plain-Apply op (changed_row c args) is.0 (changed_row-plain args is.1)

    changed_row-plain : {m : _} (row : Row_of-RawExpr m) → ArePlain row → All IsPlain (changed_row c row)
    changed_row-plain end_of-RawExpr is = All-nil IsPlain
    changed_row-plain (more_of-RawExpr e rest) is = All-cons IsPlain (changed c e) (changed_row c rest) (changed-plain e is.0) (changed_row-plain rest is.1)

-- ---- statements

abbrev pub IsPlainItem : RawItem → Type 0
IsPlainItem (Value e) = IsPlain e
IsPlainItem (Chars text) = Unit {0}

abbrev pub IsPlainStep : Option RawExpr → Type 0
IsPlainStep None = Unit {0}
IsPlainStep (Some e) = IsPlain e

abbrev pub IsPlainStmt : Stmt → Type 0
IsPlainStmt (Assign target value) = IsPlain target × IsPlain value
IsPlainStmt (Print items) = All IsPlainItem items
IsPlainStmt (Take targets) = All IsPlain targets
IsPlainStmt (PickGoTo labels index) = IsPlain index
IsPlainStmt (SignIf value negative zero positive) = IsPlain value
IsPlainStmt (ThenIf' condition shape (more_of-Stmt stmt rest)) = IsPlain condition × IsPlainStmt stmt
IsPlainStmt (BlockIf condition) = IsPlain condition
IsPlainStmt (ElseIf condition) = IsPlain condition
IsPlainStmt (Do label variable first last step) = IsPlain first × IsPlain last × IsPlainStep step
IsPlainStmt _ = Unit {0}
