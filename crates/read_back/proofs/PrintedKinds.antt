-- The form of a printed expression has the expression's kind, where no array bears the name of an intrinsic function that is printed.
use Rattle.std.proofs.Common.{◌≡◌, ◌==◌, ℕ, zero, suc, ◌<◌, ◌≤◌, Bool, true, false, ◌&&◌, ◌||◌, nat_lt, List, [], ◌∷◌, ◌++◌, length, Option, Some, None, refl, sym, ap, ◌∙◌, subst, arith, if◌then◌else◌}
use Rattle.std.specs.Prelude.{codes, slice_get}
use Rattle.std.specs.List.{list_all}
use Rattle.std.proofs.lemmas.Bool.{and_from, lt-ltb, eq-eqb}
use Rattle.std.proofs.lemmas.List.{length-map}
use Rattle.std.proofs.lemmas.List.Folds.{list_all-append}
use Rattle.std.proofs.lemmas.Slice.Eq.{bytes_eq-Decides}
use mathlib.Core.Former.{Count}
use Rattle.op_table.specs.declared.Op.{Op}
use Rattle.op_table.specs.declared.Op.TheVariants.{Add, Sub, Mul, Div, Pow, Neg, Lt, Le, Eq, Ne, Ge, Gt, Not, And, Or, Eqv, Neqv, Mod, Abs, Sign, Max, Min, Truth, Bound, Place, Three, Pick, Step, AddChecked, SubChecked, MulChecked, NegChecked, AbsChecked, PowChecked}
use Rattle.op_table.specs.Operators.{arity_of}
use Rattle.f77_tree.specs.declared.declarations.Kind.{Kind}
use Rattle.f77_tree.specs.declared.declarations.Kind.TheVariants.{Integer, Logical}
use Rattle.f77_tree.specs.declared.expressions.Expr.{Expr, Row_of-Expr, end_of-Expr, more_of-Expr}
use Rattle.f77_tree.specs.declared.expressions.Expr.TheVariants.{Const, Truth as IsTruth, Input, Read', Apply'}
use Rattle.f77_tree.specs.declared.programs.NameInfo.{NameInfo}
use Rattle.f77_tree.specs.declared.statements.RawExpr.{RawExpr, Call, Call', Apply, Apply' as RawApply', Row_of-RawExpr, end_of-RawExpr, more_of-RawExpr, items-the_row-RawExpr, items_hidden-the_row-RawExpr-0}
use Rattle.f77_tree.specs.declared.statements.RawExpr.TheVariants.{Int, Truth as RawTruth}
use Rattle.f77_tree.specs.Declarations.{NamesDiffer, index_of}
use Rattle.f77_tree.specs.Kinds.{is_written, operand_kind, IsProper, AllOfKind}
use Rattle.f77_tree.specs.Line.{kind_of_op, kind_of_expression}
use Rattle.f77_tree.specs.Value.{dims_of, kind_of, row_length}
use Rattle.f77_tree.proofs.NameLemmas.{index_of-name}
use Rattle.f77_expr.specs.Printing.{name_in, name_at, plain, Form, plain_form, forms_alone, operator_form, access_form, form, row_forms, raw_form}
use Rattle.read_back.specs.PrintedArrays.{HasNoPrintedArrays}
use Rattle.layout_rules.specs.Types.{kind_in, is_row_of, is_of_kind, is_kind, count_of_row, kind_of_call, is_array_in, dims_named, kind_named, takes}
use Rattle.std.proofs.lemmas.Grind.{elements}

-- ---- rows

abbrev row_of : RawExpr → (n : Count) × Row_of-RawExpr n
row_of (Call' _ _ row) = (_, row)
row_of (RawApply' _ _ row) = (_, row)
row_of _ = (_, end_of-RawExpr)

abbrev are_of_kind : List NameInfo → Kind → List RawExpr → Bool
are_of_kind names kind es = list_all (is_of_kind names kind) es

row-items : (names : List NameInfo) (kind : Kind) (n : _) (row : Row_of-RawExpr n) → is_row_of names kind row ≡ are_of_kind names kind (items-the_row-RawExpr n row)
row-items names kind n end_of-RawExpr = refl
row-items names kind n (more_of-RawExpr e rest) = ap (λ b. is_of_kind names kind e && b) (row-items names kind _ rest)

count-items : (n : _) (row : Row_of-RawExpr n) → count_of_row row ≡ length (items-the_row-RawExpr n row)
count-items n end_of-RawExpr = refl
count-items n (more_of-RawExpr e rest) = let more = count-items _ rest in omega (arith, more)

pub kind-Call : (names : List NameInfo) (name : List ℕ) (args : List RawExpr) (kind : Option Kind) → are_of_kind names Integer args ≡ true → kind_of_call names name (length args) ≡ kind → kind_in names (Call name args) ≡ kind
kind-Call names name args kind all is =
    let row = row_of (Call name args) in
    let items = items_hidden-the_row-RawExpr-0 args in
    ap (λ b. if b then kind_of_call names name (count_of_row row.1) else None) (row-items names Integer row.0 row.1 ∙ ap (are_of_kind names Integer) items ∙ all)
    ∙ ap (kind_of_call names name) (count-items row.0 row.1 ∙ ap length items)
    ∙ is

pub kind-Apply : (names : List NameInfo) (op : Op) (args : List RawExpr) → are_of_kind names (operand_kind op) args ≡ true → kind_in names (Apply op args) ≡ Some (kind_of_op op)
kind-Apply names op args all =
    let row = row_of (Apply op args) in
    ap (λ b. if b then Some (kind_of_op op) else None) (row-items names (operand_kind op) row.0 row.1 ∙ ap (are_of_kind names (operand_kind op)) (items_hidden-the_row-RawExpr-0 args) ∙ all)

-- ---- names of the table

-- the first name that bears the name at this index stands no later
found_early : (names : List NameInfo) (k : ℕ) (info : NameInfo) → slice_get names k ≡ Some info → index_of names info.name ≤ k
found_early [] k info is = absurd cc
found_early (n ∷ names) zero info is = grind (arith, elements, bytes_eq-Decides)
found_early (n ∷ names) (suc k) info is = grind (arith, elements, found_early names k info is)

get_some : (names : List NameInfo) (k : ℕ) → k < length names → (info : NameInfo) × (slice_get names k ≡ Some info)
get_some [] k lt = absurd (omega (arith, lt))
get_some (n ∷ names) zero lt = (n, refl)
get_some (n ∷ names) (suc k) lt = get_some names k (omega (arith, lt))

pub index-name : (names : List NameInfo) (k : ℕ) → NamesDiffer names → k < length names → index_of names (name_at names k) ≡ k
index-name names k differ lt =
    let found = get_some names k lt in
    let info = found.0 in
    let named : name_at names k ≡ info.name = ap name_in found.1 in
    let early = found_early names k info found.1 in
    let at = index_of names info.name in
    let below : at < length names = omega (arith, early, lt) in
    let other = get_some names at below in
    let same : other.0.name ≡ info.name = ap name_in (sym other.1) ∙ index_of-name names info.name below in
    ap (index_of names) named ∙ differ at k other.0 info other.1 found.1 same

-- ---- forms

pub same_kind : (kind : Kind) → is_kind kind (Some kind) ≡ true
same_kind Integer = refl
same_kind Logical = refl

module _ (names : List NameInfo) (differ : NamesDiffer names) (free : HasNoPrintedArrays names) where
  -- the arguments that it gives to a MAX or a MIN
  record AreArguments (es : List RawExpr) : Type 0 where
    some : 1 ≤ length es
    integers : are_of_kind names Integer es ≡ true

  record IsKinded (kind : Kind) (f : Form) : Type 0 where
    alone : kind_in names f.alone ≡ Some kind
    in_max : kind ≡ Integer → AreArguments f.in_max
    in_min : kind ≡ Integer → AreArguments f.in_min

  kinded_by : (kind : Kind) (e : RawExpr) → kind_in names e ≡ Some kind → is_of_kind names kind e ≡ true
  kinded_by kind e is = ap (is_kind kind) is ∙ same_kind kind

  one : (kind : Kind) (e : RawExpr) → kind_in names e ≡ Some kind → kind ≡ Integer → AreArguments (e ∷ [])
  one kind e is integer = grind (arith, elements, and_from, kinded_by)

  plain_kinded : (kind : Kind) (e : RawExpr) → kind_in names e ≡ Some kind → IsKinded kind (plain_form e)
  plain_kinded kind e is = record { alone = is; in_max = one kind e is; in_min = one kind e is }

  abbrev AllKinded : Kind → List Form → Type 0
  AllKinded kind [] = Unit {0}
  AllKinded kind (f ∷ fs) = IsKinded kind f × AllKinded kind fs

  alone_kinded : (kind : Kind) (fs : List Form) → AllKinded kind fs → are_of_kind names kind (forms_alone fs) ≡ true
  alone_kinded kind [] all = refl
  alone_kinded kind (f ∷ fs) all = and_from (is_of_kind names kind f.alone) (are_of_kind names kind (forms_alone fs)) (kinded_by kind f.alone all.0.alone) (alone_kinded kind fs all.1)

  -- one argument more
  more_arguments : (es : List RawExpr) (e : RawExpr) → AreArguments es → kind_in names e ≡ Some Integer → (are_of_kind names Integer (es ++ e ∷ []) ≡ true) × (2 ≤ length (es ++ e ∷ []))
  more_arguments es e are is = grind (arith, elements, list_all-append, and_from, kinded_by)

  call_kind : (name : List ℕ) (count : ℕ) (enough : Bool) → is_array_in names name ≡ false → enough ≡ true → (if is_array_in names name then (if length (dims_named names name) == count then Some (kind_named names name) else None) else if enough then Some Integer else None) ≡ Some Integer
  call_kind name count enough none is = grind (arith, elements)

  many : (n : ℕ) → 2 ≤ n → (2 == n || nat_lt 2 n) ≡ true
  many zero le = absurd (omega (arith, le))
  many (suc zero) le = absurd (omega (arith, le))
  many (suc (suc zero)) le = refl
  many (suc (suc (suc n))) le = grind (arith, elements, lt-ltb)

  max_enough : (n : ℕ) → 2 ≤ n → kind_of_call names (codes "MAX") n ≡ Some Integer
  max_enough n le = call_kind (codes "MAX") n (((2 == n) || nat_lt 2 n) || false) free.max_of (ap (λ b. b || false) (many n le))

  min_enough : (n : ℕ) → 2 ≤ n → kind_of_call names (codes "MIN") n ≡ Some Integer
  min_enough n le = call_kind (codes "MIN") n (((2 == n) || nat_lt 2 n) || false) free.min_of (ap (λ b. b || false) (many n le))

  max_kinded : (a b : Form) → IsKinded Integer a → IsKinded Integer b → IsKinded Integer (operator_form Max (a ∷ b ∷ []))
  max_kinded a b ka kb =
      let es = a.in_max ++ b.alone ∷ [] in
      let more = more_arguments a.in_max b.alone (ka.in_max refl) kb.alone in
      let is = kind-Call names (codes "MAX") es (Some Integer) more.0 (max_enough (length es) more.1) in
      let count = more.1 in
      record { alone = is; in_max = λ h. record { some = omega (arith, count); integers = more.0 }; in_min = one Integer (Call (codes "MAX") es) is }

  min_kinded : (a b : Form) → IsKinded Integer a → IsKinded Integer b → IsKinded Integer (operator_form Min (a ∷ b ∷ []))
  min_kinded a b ka kb =
      let es = a.in_min ++ b.alone ∷ [] in
      let more = more_arguments a.in_min b.alone (ka.in_min refl) kb.alone in
      let is = kind-Call names (codes "MIN") es (Some Integer) more.0 (min_enough (length es) more.1) in
      let count = more.1 in
      record { alone = is; in_max = one Integer (Call (codes "MIN") es) is; in_min = λ h. record { some = omega (arith, count); integers = more.0 } }

  -- ---- operators

  applied : (op : Op) (fs : List Form) → AllKinded (operand_kind op) fs → IsKinded (kind_of_op op) (plain_form (Apply op (forms_alone fs)))
  applied op fs all = plain_kinded (kind_of_op op) (Apply op (forms_alone fs)) (kind-Apply names op (forms_alone fs) (alone_kinded (operand_kind op) fs all))

  by_one : (made : Form → Form) → ((a : Form) → IsKinded Integer a → IsKinded Integer (made a)) → (op : Op) → ((a : Form) → operator_form op (a ∷ []) ≡ made a) → (fs : List Form) → length fs ≡ 1 → AllKinded Integer fs → IsKinded Integer (operator_form op fs)
  by_one made keeps op is [] len all = absurd (omega (arith, len))
  by_one made keeps op is (a ∷ []) len all = subst (λ (f : Form). IsKinded Integer f) (sym (is a)) (keeps a all.0)
  by_one made keeps op is (a ∷ b ∷ fs) len all = absurd (omega (arith, len))

  by_two : (op : Op) → ((a b : Form) → IsKinded Integer a → IsKinded Integer b → IsKinded Integer (operator_form op (a ∷ b ∷ []))) → (fs : List Form) → length fs ≡ 2 → AllKinded Integer fs → IsKinded Integer (operator_form op fs)
  by_two op keeps [] len all = absurd (omega (arith, len))
  by_two op keeps (a ∷ []) len all = absurd (omega (arith, len))
  by_two op keeps (a ∷ b ∷ []) len all = keeps a b all.0 all.1.0
  by_two op keeps (a ∷ b ∷ c ∷ fs) len all = absurd (omega (arith, len))

  abs_kinded : (a : Form) → IsKinded Integer a → IsKinded Integer (plain_form (Call (codes "ABS") (a.alone ∷ [])))
  abs_kinded a ka = plain_kinded Integer (Call (codes "ABS") (a.alone ∷ [])) (kind-Call names (codes "ABS") (a.alone ∷ []) (Some Integer) (alone_kinded Integer (a ∷ []) (ka, tt)) (call_kind (codes "ABS") 1 true free.abs refl))

  mod_kinded : (a b : Form) → IsKinded Integer a → IsKinded Integer b → IsKinded Integer (operator_form Mod (a ∷ b ∷ []))
  mod_kinded a b ka kb = plain_kinded Integer (Call (codes "MOD") (a.alone ∷ b.alone ∷ [])) (kind-Call names (codes "MOD") (a.alone ∷ b.alone ∷ []) (Some Integer) (alone_kinded Integer (a ∷ b ∷ []) (ka, (kb, tt))) (call_kind (codes "MOD") 2 true free.mod_of refl))

  sign_kinded : (a b : Form) → IsKinded Integer a → IsKinded Integer b → IsKinded Integer (operator_form Sign (a ∷ b ∷ []))
  sign_kinded a b ka kb = plain_kinded Integer (Call (codes "SIGN") (a.alone ∷ b.alone ∷ [])) (kind-Call names (codes "SIGN") (a.alone ∷ b.alone ∷ []) (Some Integer) (alone_kinded Integer (a ∷ b ∷ []) (ka, (kb, tt))) (call_kind (codes "SIGN") 2 true free.sign refl))

  abbrev abs_form : Form → Form
  abs_form a = plain_form (Call (codes "ABS") (a.alone ∷ []))

  operator_kinded : (op : Op) (fs : List Form) → is_written op ≡ true → length fs ≡ arity_of op → AllKinded (operand_kind op) fs → IsKinded (kind_of_op op) (operator_form (plain op) fs)
  operator_kinded Truth fs written len all = absurd cc
  operator_kinded Bound fs written len all = absurd cc
  operator_kinded Place fs written len all = absurd cc
  operator_kinded Three fs written len all = absurd cc
  operator_kinded Pick fs written len all = absurd cc
  operator_kinded Step fs written len all = absurd cc
  operator_kinded Abs fs written len all = by_one abs_form abs_kinded Abs (λ a. refl) fs len all
  operator_kinded AbsChecked fs written len all = by_one abs_form abs_kinded Abs (λ a. refl) fs len all
  operator_kinded Mod fs written len all = by_two Mod mod_kinded fs len all
  operator_kinded Sign fs written len all = by_two Sign sign_kinded fs len all
  operator_kinded Max fs written len all = by_two Max max_kinded fs len all
  operator_kinded Min fs written len all = by_two Min min_kinded fs len all
  operator_kinded Neg fs written len all = applied Neg fs all
  operator_kinded NegChecked fs written len all = applied Neg fs all
  operator_kinded Not fs written len all = applied Not fs all
  operator_kinded Add fs written len all = applied Add fs all
  operator_kinded AddChecked fs written len all = applied Add fs all
  operator_kinded Sub fs written len all = applied Sub fs all
  operator_kinded SubChecked fs written len all = applied Sub fs all
  operator_kinded Mul fs written len all = applied Mul fs all
  operator_kinded MulChecked fs written len all = applied Mul fs all
  operator_kinded Div fs written len all = applied Div fs all
  operator_kinded Pow fs written len all = applied Pow fs all
  operator_kinded PowChecked fs written len all = applied Pow fs all
  operator_kinded Lt fs written len all = applied Lt fs all
  operator_kinded Le fs written len all = applied Le fs all
  operator_kinded Eq fs written len all = applied Eq fs all
  operator_kinded Ne fs written len all = applied Ne fs all
  operator_kinded Ge fs written len all = applied Ge fs all
  operator_kinded Gt fs written len all = applied Gt fs all
  operator_kinded And fs written len all = applied And fs all
  operator_kinded Or fs written len all = applied Or fs all
  operator_kinded Eqv fs written len all = applied Eqv fs all
  operator_kinded Neqv fs written len all = applied Neqv fs all

  -- ---- names

  same_number : (n : ℕ) → (n == n) ≡ true
  same_number n = eq-eqb n n refl

  access_kinded : (k : ℕ) (fs : List Form) → k < length names → length fs ≡ length (dims_of names k) → AllKinded Integer fs → IsKinded (kind_of names k) (access_form (name_at names k) fs)
  access_kinded k [] known len all = grind (arith, elements, index-name, plain_kinded)
  access_kinded k (a ∷ more) known len all =
      let name = name_at names k in
      let args = forms_alone (a ∷ more) in
      let at = index-name names k differ known in
      let array : is_array_in names name ≡ true = ap (λ j. nat_lt 0 (length (dims_of names j))) at ∙ ap (nat_lt 0) (sym len) ∙ lt-ltb 0 (length (a ∷ more)) (omega arith) in
      let count : length (dims_named names name) ≡ length args = ap (λ j. length (dims_of names j)) at ∙ sym len ∙ sym (length-map (a ∷ more) (λ (f : Form). f.alone)) in
      let as_many : (length (dims_named names name) == length args) ≡ true = ap (λ n. n == length args) count ∙ same_number (length args) in
      let of : kind_of_call names name (length args) ≡ Some (kind_of names k) =
      ap (λ b. if b then (if length (dims_named names name) == length args then Some (kind_named names name) else None) else (if takes name (length args) then Some Integer else None)) array
      ∙ ap (λ b. if b then Some (kind_named names name) else None) as_many
      ∙ ap (λ j. Some (kind_of names j)) at
      in
      plain_kinded (kind_of names k) (Call name args) (kind-Call names name args (Some (kind_of names k)) (alone_kinded Integer (a ∷ more) all) of)

  pub row_count : {m : _} (row : Row_of-Expr m) → length (row_forms names row) ≡ row_length row
  row_count end_of-Expr = refl
  row_count (more_of-Expr e rest) = ap suc (row_count rest)

  mutual
    kinded : (e : Expr) → IsProper names e → IsKinded (kind_of_expression names e) (form names e)
    kinded (Const z) proper = plain_kinded Integer (Int z) refl
    kinded (IsTruth b) proper = plain_kinded Logical (RawTruth b) refl
    kinded Input proper = elim proper [ ]
    kinded (Read' k shape subs) proper = access_kinded k (row_forms names subs) proper.0 (row_count subs ∙ proper.1) (row_kinded Integer subs proper.2)
    kinded (Apply' op shape args) proper = operator_kinded op (row_forms names args) proper.0 (row_count args ∙ proper.1) (row_kinded (operand_kind op) args proper.2)

    row_kinded : (kind : Kind) {m : _} (row : Row_of-Expr m) → AllOfKind names kind row → AllKinded kind (row_forms names row)
    row_kinded kind end_of-Expr all = tt
    row_kinded kind (more_of-Expr e rest) all = (subst (λ (k : Kind). IsKinded k (form names e)) all.1 (kinded e all.0), row_kinded kind rest all.2)

  -- the form has the kind of the expression
  pub printed_kind : (e : Expr) → IsProper names e → kind_in names (raw_form names e) ≡ Some (kind_of_expression names e)
  printed_kind e proper = (kinded e proper).alone
