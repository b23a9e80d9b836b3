-- The names in the form of a printed expression are names of the table.
use Rattle.std.proofs.Common.{◌≡◌, ℕ, ◌<◌, Bool, true, false, cond, not, ◌||◌, List, [], ◌∷◌, ◌++◌, length, refl, sym, ap, ◌∙◌, subst}
use Rattle.std.specs.Prelude.{All, codes, flat_map}
use Rattle.std.proofs.lemmas.List.Concat.{flat_map-append}
use Rattle.std.proofs.lemmas.List.Elements.{All-append}
use Rattle.op_table.specs.declared.Op.{Op}
use Rattle.op_table.specs.declared.Op.TheVariants.{Add, Sub, Mul, Div, Pow, Neg, Lt, Le, Eq, Ne, Ge, Gt, Not, And, Or, Eqv, Neqv, Mod, Abs, Sign, Max, Min, Truth, Bound, Place, Three, Pick, Step, AddChecked, SubChecked, MulChecked, NegChecked, AbsChecked, PowChecked}
use Rattle.f77_tree.specs.declared.expressions.Expr.{Expr, Row_of-Expr, end_of-Expr, more_of-Expr}
use Rattle.f77_tree.specs.declared.expressions.Expr.TheVariants.{Const, Truth as IsTruth, Input, Read', Apply'}
use Rattle.f77_tree.specs.declared.declarations.Kind.{Kind}
use Rattle.f77_tree.specs.declared.programs.NameInfo.{NameInfo}
use Rattle.f77_tree.specs.declared.statements.RawExpr.{RawExpr, Call, Apply}
use Rattle.f77_tree.specs.declared.statements.RawExpr.TheVariants.{Int, Truth as RawTruth, Named}
use Rattle.f77_tree.specs.Declarations.{NamesDiffer, index_of}
use Rattle.f77_tree.specs.Kinds.{IsProper, AllOfKind, operand_kind}
use Rattle.f77_tree.proofs.AllLemmas.{All-nil, All-cons}
use Rattle.f77_expr.specs.Printing.{name_at, plain, Form, plain_form, forms_alone, operator_form, access_form, form, row_forms, raw_form}
use Rattle.layout_rules.specs.Appearances.{called_name, names_in}
use Rattle.layout_rules.specs.Types.{is_intrinsic}
use Rattle.layout_rules.proofs.NamesIn.{names_in-Call, names_in-Apply}
use Rattle.read_back.proofs.PrintedKinds.{index-name}

-- no array bears a name with which an intrinsic function is printed, by a test for arrays
pub record AreFree (arrays : List ℕ → Bool) : Type 0 where
  pub abs : arrays (codes "ABS") ≡ false
  pub mod_of : arrays (codes "MOD") ≡ false
  pub sign : arrays (codes "SIGN") ≡ false
  pub max_of : arrays (codes "MAX") ≡ false
  pub min_of : arrays (codes "MIN") ≡ false

-- a name of the table
abbrev pub IsKnown : List NameInfo → List ℕ → Type 0
IsKnown names name = index_of names name < length names

module _ (names : List NameInfo) (differ : NamesDiffer names) (arrays : List ℕ → Bool) (free : AreFree arrays) where
  abbrev AllKnown : List (List ℕ) → Type 0
  AllKnown = All (IsKnown names)

  abbrev in_all : List RawExpr → List (List ℕ)
  in_all es = flat_map (names_in arrays) es

  record IsNamed (f : Form) : Type 0 where
    alone : AllKnown (names_in arrays f.alone)
    in_max : AllKnown (in_all f.in_max)
    in_min : AllKnown (in_all f.in_min)

  one : (e : RawExpr) → AllKnown (names_in arrays e) → AllKnown (in_all (e ∷ []))
  one e known = All-append (IsKnown names) (names_in arrays e) [] known (All-nil (IsKnown names))

  plain_named : (e : RawExpr) → AllKnown (names_in arrays e) → IsNamed (plain_form e)
  plain_named e known = record { alone = known; in_max = one e known; in_min = one e known }

  abbrev AllNamed : List Form → Type 0
  AllNamed [] = Unit {0}
  AllNamed (f ∷ fs) = IsNamed f × AllNamed fs

  alone_named : (fs : List Form) → AllNamed fs → AllKnown (in_all (forms_alone fs))
  alone_named [] all = All-nil (IsKnown names)
  alone_named (f ∷ fs) all = All-append (IsKnown names) (names_in arrays f.alone) (in_all (forms_alone fs)) all.0.alone (alone_named fs all.1)

  applied : (op : Op) (fs : List Form) → AllNamed fs → IsNamed (plain_form (Apply op (forms_alone fs)))
  applied op fs all = plain_named (Apply op (forms_alone fs)) (subst AllKnown (sym (names_in-Apply arrays op (forms_alone fs))) (alone_named fs all))

  -- the name of an intrinsic function is none
  no_name : (name : List ℕ) → arrays name ≡ false → is_intrinsic name ≡ true → called_name arrays name ≡ []
  no_name name none is = ap (λ b. cond (b || not (is_intrinsic name)) (name ∷ []) []) none ∙ ap (λ b. cond (not b) (name ∷ []) []) is

  called : (name : List ℕ) (args : List RawExpr) → arrays name ≡ false → is_intrinsic name ≡ true → AllKnown (in_all args) → AllKnown (names_in arrays (Call name args))
  called name args none is known = subst AllKnown (sym (names_in-Call arrays name args ∙ ap (λ own. own ++ in_all args) (no_name name none is))) known

  more : (es : List RawExpr) (e : RawExpr) → AllKnown (in_all es) → AllKnown (names_in arrays e) → AllKnown (in_all (es ++ e ∷ []))
  more es e known last = subst AllKnown (sym (flat_map-append (names_in arrays) es (e ∷ []))) (All-append (IsKnown names) (in_all es) (in_all (e ∷ [])) known (one e last))

  max_named : (a b : Form) → IsNamed a → IsNamed b → IsNamed (operator_form Max (a ∷ b ∷ []))
  max_named a b na nb =
      let es = a.in_max ++ b.alone ∷ [] in
      let all = more a.in_max b.alone na.in_max nb.alone in
      let is = called (codes "MAX") es free.max_of refl all in
      record { alone = is; in_max = all; in_min = one (Call (codes "MAX") es) is }

  min_named : (a b : Form) → IsNamed a → IsNamed b → IsNamed (operator_form Min (a ∷ b ∷ []))
  min_named a b na nb =
      let es = a.in_min ++ b.alone ∷ [] in
      let all = more a.in_min b.alone na.in_min nb.alone in
      let is = called (codes "MIN") es free.min_of refl all in
      record { alone = is; in_max = one (Call (codes "MIN") es) is; in_min = all }

  call_named : (name : List ℕ) (fs : List Form) → arrays name ≡ false → is_intrinsic name ≡ true → AllNamed fs → IsNamed (plain_form (Call name (forms_alone fs)))
  call_named name fs none is all = plain_named (Call name (forms_alone fs)) (called name (forms_alone fs) none is (alone_named fs all))

  operator_named : (op : Op) (fs : List Form) → AllNamed fs → IsNamed (operator_form (plain op) fs)
  operator_named Abs [] all = applied Abs [] all
  operator_named Abs (a ∷ []) all = call_named (codes "ABS") (a ∷ []) free.abs refl all
  operator_named Abs (a ∷ b ∷ fs) all = applied Abs (a ∷ b ∷ fs) all
  operator_named AbsChecked [] all = applied Abs [] all
  operator_named AbsChecked (a ∷ []) all = call_named (codes "ABS") (a ∷ []) free.abs refl all
  operator_named AbsChecked (a ∷ b ∷ fs) all = applied Abs (a ∷ b ∷ fs) all
  operator_named Mod [] all = applied Mod [] all
  operator_named Mod (a ∷ []) all = applied Mod (a ∷ []) all
  operator_named Mod (a ∷ b ∷ []) all = call_named (codes "MOD") (a ∷ b ∷ []) free.mod_of refl all
  operator_named Mod (a ∷ b ∷ c ∷ fs) all = applied Mod (a ∷ b ∷ c ∷ fs) all
  operator_named Sign [] all = applied Sign [] all
  operator_named Sign (a ∷ []) all = applied Sign (a ∷ []) all
  operator_named Sign (a ∷ b ∷ []) all = call_named (codes "SIGN") (a ∷ b ∷ []) free.sign refl all
  operator_named Sign (a ∷ b ∷ c ∷ fs) all = applied Sign (a ∷ b ∷ c ∷ fs) all
  operator_named Max [] all = applied Max [] all
  operator_named Max (a ∷ []) all = applied Max (a ∷ []) all
  operator_named Max (a ∷ b ∷ []) all = max_named a b all.0 all.1.0
  operator_named Max (a ∷ b ∷ c ∷ fs) all = applied Max (a ∷ b ∷ c ∷ fs) all
  operator_named Min [] all = applied Min [] all
  operator_named Min (a ∷ []) all = applied Min (a ∷ []) all
  operator_named Min (a ∷ b ∷ []) all = min_named a b all.0 all.1.0
  operator_named Min (a ∷ b ∷ c ∷ fs) all = applied Min (a ∷ b ∷ c ∷ fs) all
  operator_named Truth fs all = applied Truth fs all
  operator_named Bound fs all = applied Bound fs all
  operator_named Place fs all = applied Place fs all
  operator_named Three fs all = applied Three fs all
  operator_named Pick fs all = applied Pick fs all
  operator_named Step fs all = applied Step fs all
  operator_named Neg fs all = applied Neg fs all
  operator_named NegChecked fs all = applied Neg fs all
  operator_named Not fs all = applied Not fs all
  operator_named Add fs all = applied Add fs all
  operator_named AddChecked fs all = applied Add fs all
  operator_named Sub fs all = applied Sub fs all
  operator_named SubChecked fs all = applied Sub fs all
  operator_named Mul fs all = applied Mul fs all
  operator_named MulChecked fs all = applied Mul fs all
  operator_named Div fs all = applied Div fs all
  operator_named Pow fs all = applied Pow fs all
  operator_named PowChecked fs all = applied Pow fs all
  operator_named Lt fs all = applied Lt fs all
  operator_named Le fs all = applied Le fs all
  operator_named Eq fs all = applied Eq fs all
  operator_named Ne fs all = applied Ne fs all
  operator_named Ge fs all = applied Ge fs all
  operator_named Gt fs all = applied Gt fs all
  operator_named And fs all = applied And fs all
  operator_named Or fs all = applied Or fs all
  operator_named Eqv fs all = applied Eqv fs all
  operator_named Neqv fs all = applied Neqv fs all

  pub known_at : (k : ℕ) → k < length names → IsKnown names (name_at names k)
  known_at k lt = subst (λ j. j < length names) (sym (index-name names k differ lt)) lt

  own_if : (b : Bool) (name : List ℕ) → IsKnown names name → AllKnown (cond b (name ∷ []) [])
  own_if true name known = All-cons (IsKnown names) name [] known (All-nil (IsKnown names))
  own_if false name known = All-nil (IsKnown names)

  access_named : (k : ℕ) (fs : List Form) → k < length names → AllNamed fs → IsNamed (access_form (name_at names k) fs)
  access_named k [] lt all = plain_named (Named (name_at names k)) (own_if true (name_at names k) (known_at k lt))
  access_named k (a ∷ fs) lt all =
      let name = name_at names k in
      let args = forms_alone (a ∷ fs) in
      plain_named (Call name args) (subst AllKnown (sym (names_in-Call arrays name args)) (All-append (IsKnown names) (called_name arrays name) (in_all args) (own_if (arrays name || not (is_intrinsic name)) name (known_at k lt)) (alone_named (a ∷ fs) all)))

  mutual
    named : (e : Expr) → IsProper names e → IsNamed (form names e)
    named (Const z) proper = plain_named (Int z) (All-nil (IsKnown names))
    named (IsTruth b) proper = plain_named (RawTruth b) (All-nil (IsKnown names))
    named Input proper = elim proper [ ]
    named (Read' k shape subs) proper = access_named k (row_forms names subs) proper.0 (row_named _ subs proper.2)
    named (Apply' op shape args) proper = operator_named op (row_forms names args) (row_named (operand_kind op) args proper.2)

    row_named : (kind : Kind) {m : _} (row : Row_of-Expr m) → AllOfKind names kind row → AllNamed (row_forms names row)
    row_named kind end_of-Expr all = tt
    row_named kind (more_of-Expr e rest) all = (named e all.0, row_named kind rest all.2)

  pub names_known : (e : Expr) → IsProper names e → All (IsKnown names) (names_in arrays (raw_form names e))
  names_known e proper = (named e proper).alone
