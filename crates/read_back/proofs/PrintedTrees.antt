-- The form of a printed expression is resolved to the expression.
use Rattle.std.proofs.Common.{◌≡◌, ℕ, ◌<◌, ◌≤◌, Bool, true, false, List, [], ◌∷◌, ◌++◌, length, map, refl, sym, ap, ◌∙◌, subst, arith, length-append}
use Rattle.std.specs.Prelude.{codes, All, find, bytes_eq}
use Rattle.std.proofs.lemmas.Bool.{lt-ltb}
use Rattle.std.proofs.lemmas.List.{length-map, map-append}
use Rattle.std.proofs.lemmas.List.Sums.{fold-append}
use mathlib.Core.Former.{Count}
use Rattle.op_table.specs.declared.Op.{Op}
use Rattle.op_table.specs.declared.Op.TheVariants.{Add, Sub, Mul, Div, Pow, Neg, Lt, Le, Eq, Ne, Ge, Gt, Not, And, Or, Eqv, Neqv, Mod, Abs, Sign, Max, Min, Truth, Bound, Place, Three, Pick, Step, AddChecked, SubChecked, MulChecked, NegChecked, AbsChecked, PowChecked}
use Rattle.op_table.specs.Operators.{arity_of}
use Rattle.f77_tree.specs.declared.expressions.Access.{Access}
use Rattle.f77_tree.specs.declared.expressions.Expr.{Expr, Const, Truth as IsTruth, Apply, Read}
use Rattle.f77_tree.specs.declared.programs.NameInfo.{NameInfo}
use Rattle.f77_tree.specs.declared.statements.RawExpr.{RawExpr, Call, Call', Apply as RawApply, Apply' as RawApply', Row_of-RawExpr, end_of-RawExpr, more_of-RawExpr, items-the_row-RawExpr, items_hidden-the_row-RawExpr-0}
use Rattle.f77_tree.specs.declared.statements.RawExpr.TheVariants.{Int, Truth as RawTruth}
use Rattle.f77_tree.specs.Declarations.{NamesDiffer, index_of}
use Rattle.f77_tree.specs.Dialects.{is_of_dialect, HasDialect}
use Rattle.f77_tree.specs.Kinds.{is_written, IsProper}
use Rattle.f77_tree.specs.Value.{dims_of}
use Rattle.f77_tree.proofs.AllLemmas.{All-first, All-rest}
use Rattle.f77_tree.proofs.DialectLaws.{Apply-dialect, Read-dialect}
use Rattle.f77_tree.proofs.KindLemmas.{IsProper-operation, IsProper-element}
use Rattle.f77_expr.specs.Printing.{name_at, plain, Form, plain_form, forms_alone, operator_form, access_form, form, raw_form}
use Rattle.f77_expr.proofs.PrintedItems.{form-Apply, form-Read}
use Rattle.read_back.specs.PrintedArrays.{HasNoPrintedArrays}
use Rattle.layout_rules.specs.Types.{intrinsics, is_array_in}
use Rattle.layout_rules.specs.Resolved.{in_dialect, nested, intrinsic_call, resolved_call, resolved, resolved_row, access_of}
use Rattle.read_back.proofs.ExpressionInduction.{Holds, every_expression}
use Rattle.read_back.proofs.PrintedKinds.{index-name}
use Rattle.std.proofs.lemmas.Grind.{elements}

-- ---- rows

abbrev raw_row_of : RawExpr → (n : Count) × Row_of-RawExpr n
raw_row_of (Call' _ _ row) = (_, row)
raw_row_of (RawApply' _ _ row) = (_, row)
raw_row_of _ = (_, end_of-RawExpr)

module _ (names : List NameInfo) (checked : Bool) where
  resolved-items : (n : _) (row : Row_of-RawExpr n) → resolved_row names checked row ≡ map (resolved names checked) (items-the_row-RawExpr n row)
  resolved-items n end_of-RawExpr = refl
  resolved-items n (more_of-RawExpr e rest) = ap (λ es. resolved names checked e ∷ es) (resolved-items _ rest)

  resolved-Call : (name : List ℕ) (args : List RawExpr) → resolved names checked (Call name args) ≡ resolved_call names checked name (map (resolved names checked) args)
  resolved-Call name args =
      let row = raw_row_of (Call name args) in
      ap (resolved_call names checked name) (resolved-items row.0 row.1 ∙ ap (map (resolved names checked)) (items_hidden-the_row-RawExpr-0 args))

  access_of-Call : (name : List ℕ) (args : List RawExpr) → access_of names checked (Call name args) ≡ record { name = index_of names name; subs = map (resolved names checked) args }
  access_of-Call name args =
      let row = raw_row_of (Call name args) in
      ap (λ (es : List Expr). let made : Access = record { name = index_of names name; subs = es } in made) (resolved-items row.0 row.1 ∙ ap (map (resolved names checked)) (items_hidden-the_row-RawExpr-0 args))

  resolved-Apply : (op : Op) (args : List RawExpr) → resolved names checked (RawApply op args) ≡ Apply (in_dialect checked op) (map (resolved names checked) args)
  resolved-Apply op args =
      let row = raw_row_of (RawApply op args) in
      ap (λ (es : List Expr). Apply (in_dialect checked op) es) (resolved-items row.0 row.1 ∙ ap (map (resolved names checked)) (items_hidden-the_row-RawExpr-0 args))

-- an operator of the dialect is what its plain one is taken for
dialect_op : (checked : Bool) (op : Op) → is_of_dialect checked op ≡ true → in_dialect checked (plain op) ≡ op
dialect_op h op is = grind arith

-- ---- arguments of MAX and MIN

nested-more : (op : Op) (xs : List Expr) (x : Expr) → 2 ≤ length xs → nested op (xs ++ x ∷ []) ≡ Apply op (nested op xs ∷ x ∷ [])
nested-more op [] x two = absurd (omega (arith, two))
nested-more op (a ∷ []) x two = absurd (omega (arith, two))
nested-more op (a ∷ b ∷ more) x two = fold-append (λ e c. Apply op (e ∷ c ∷ [])) (Apply op (a ∷ b ∷ [])) more (x ∷ [])

module _ (names : List NameInfo) (checked : Bool) (differ : NamesDiffer names) (free : HasNoPrintedArrays names) where
  -- arguments that make an expression with one argument more
  record Nests (op : Op) (e : Expr) (es : List RawExpr) : Type 0 where
    some : 1 ≤ length es
    joined : (x : Expr) → nested op (map (resolved names checked) es ++ x ∷ []) ≡ Apply op (e ∷ x ∷ [])

  record IsResolved (e : Expr) (f : Form) : Type 0 where
    alone : resolved names checked f.alone ≡ e
    in_max : Nests Max e f.in_max
    in_min : Nests Min e f.in_min

  one : (op : Op) (e : Expr) (raw : RawExpr) → resolved names checked raw ≡ e → Nests op e (raw ∷ [])
  one op e raw is = record { some = omega arith; joined = λ x. ap (λ (a : Expr). Apply op (a ∷ x ∷ [])) is }

  plain_resolved : (e : Expr) (raw : RawExpr) → resolved names checked raw ≡ e → IsResolved e (plain_form raw)
  plain_resolved e raw is = record { alone = is; in_max = one Max e raw is; in_min = one Min e raw is }

  abbrev AllResolved : List Expr → List Form → Type 0
  AllResolved [] [] = Unit {0}
  AllResolved (e ∷ es) (f ∷ fs) = IsResolved e f × AllResolved es fs
  AllResolved _ _ = ⊥

  alone_resolved : (es : List Expr) (fs : List Form) → AllResolved es fs → map (resolved names checked) (forms_alone fs) ≡ es
  alone_resolved [] [] all = refl
  alone_resolved (e ∷ es) (f ∷ fs) all = ap (λ (x : Expr). x ∷ map (resolved names checked) (forms_alone fs)) all.0.alone ∙ ap (λ (xs : List Expr). e ∷ xs) (alone_resolved es fs all.1)
  alone_resolved [] (f ∷ fs) all = absurd all
  alone_resolved (e ∷ es) [] all = absurd all

  -- ---- calls of intrinsic functions

  called : (name : List ℕ) (args : List RawExpr) → is_array_in names name ≡ false → resolved names checked (Call name args) ≡ intrinsic_call checked (find (λ f. bytes_eq f.name name) intrinsics) (map (resolved names checked) args)
  called name args none = grind (arith, resolved-Call names checked name args)

  -- the arguments of one that takes a list
  arguments_resolved : (op : Op) (e : Expr) (es : List RawExpr) (b : RawExpr) (x : Expr) → Nests op e es → resolved names checked b ≡ x → nested op (map (resolved names checked) (es ++ b ∷ [])) ≡ Apply op (e ∷ x ∷ [])
  arguments_resolved op e es b x nests is = grind (arith, map-append (resolved names checked) es (b ∷ []), nests.joined x)

  nests_more : (op : Op) (e : Expr) (es : List RawExpr) (b : RawExpr) (x : Expr) → Nests op e es → resolved names checked b ≡ x → Nests op (Apply op (e ∷ x ∷ [])) (es ++ b ∷ [])
  nests_more op e es b x nests is = grind (arith, length-append es (b ∷ []), length-map, nested-more op, arguments_resolved op e es b x nests is)

  max_resolved : (ea eb : Expr) (a b : Form) → in_dialect checked Max ≡ Max → IsResolved ea a → IsResolved eb b → IsResolved (Apply Max (ea ∷ eb ∷ [])) (operator_form Max (a ∷ b ∷ []))
  max_resolved ea eb a b same ra rb =
      grind (arith, called (codes "MAX"), arguments_resolved Max ea a.in_max b.alone eb ra.in_max rb.alone, nests_more Max ea a.in_max b.alone eb ra.in_max rb.alone, one Min (Apply Max (ea ∷ eb ∷ [])))

  min_resolved : (ea eb : Expr) (a b : Form) → in_dialect checked Min ≡ Min → IsResolved ea a → IsResolved eb b → IsResolved (Apply Min (ea ∷ eb ∷ [])) (operator_form Min (a ∷ b ∷ []))
  min_resolved ea eb a b same ra rb =
      grind (arith, called (codes "MIN"), arguments_resolved Min ea a.in_min b.alone eb ra.in_min rb.alone, one Max (Apply Min (ea ∷ eb ∷ [])), nests_more Min ea a.in_min b.alone eb ra.in_min rb.alone)

  mod_resolved : (ea eb : Expr) (a b : Form) → in_dialect checked Mod ≡ Mod → IsResolved ea a → IsResolved eb b → IsResolved (Apply Mod (ea ∷ eb ∷ [])) (operator_form Mod (a ∷ b ∷ []))
  mod_resolved ea eb a b same ra rb =
      grind (arith, plain_resolved (Apply Mod (ea ∷ eb ∷ [])), called (codes "MOD"), alone_resolved (ea ∷ eb ∷ []) (a ∷ b ∷ []))

  sign_resolved : (ea eb : Expr) (a b : Form) → in_dialect checked Sign ≡ Sign → IsResolved ea a → IsResolved eb b → IsResolved (Apply Sign (ea ∷ eb ∷ [])) (operator_form Sign (a ∷ b ∷ []))
  sign_resolved ea eb a b same ra rb =
      grind (arith, plain_resolved (Apply Sign (ea ∷ eb ∷ [])), called (codes "SIGN"), alone_resolved (ea ∷ eb ∷ []) (a ∷ b ∷ []))

  abs_resolved : (op : Op) (e : Expr) (a : Form) → in_dialect checked Abs ≡ op → IsResolved e a → IsResolved (Apply op (e ∷ [])) (operator_form Abs (a ∷ []))
  abs_resolved op e a same ra = grind (arith, plain_resolved (Apply op (e ∷ [])), called (codes "ABS"), alone_resolved (e ∷ []) (a ∷ []))

  -- ---- operators

  by_one : (op : Op) → in_dialect checked Abs ≡ op → (es : List Expr) (fs : List Form) → length es ≡ 1 → AllResolved es fs → IsResolved (Apply op es) (operator_form Abs fs)
  by_one op same [] fs len all = absurd (omega (arith, len))
  by_one op same (e ∷ []) [] len all = absurd all
  by_one op same (e ∷ []) (a ∷ []) len all = abs_resolved op e a same all.0
  by_one op same (e ∷ []) (a ∷ b ∷ fs) len all = absurd all.1
  by_one op same (e ∷ g ∷ es) fs len all = absurd (omega (arith, len))

  by_two : (op : Op) → ((ea eb : Expr) (a b : Form) → IsResolved ea a → IsResolved eb b → IsResolved (Apply op (ea ∷ eb ∷ [])) (operator_form op (a ∷ b ∷ []))) → (es : List Expr) (fs : List Form) → length es ≡ 2 → AllResolved es fs → IsResolved (Apply op es) (operator_form op fs)
  by_two op keeps [] fs len all = absurd (omega (arith, len))
  by_two op keeps (e ∷ []) fs len all = absurd (omega (arith, len))
  by_two op keeps (e ∷ g ∷ []) [] len all = absurd all
  by_two op keeps (e ∷ g ∷ []) (a ∷ []) len all = absurd all.1
  by_two op keeps (e ∷ g ∷ []) (a ∷ b ∷ []) len all = keeps e g a b all.0 all.1.0
  by_two op keeps (e ∷ g ∷ []) (a ∷ b ∷ c ∷ fs) len all = absurd all.1.1
  by_two op keeps (e ∷ g ∷ h ∷ es) fs len all = absurd (omega (arith, len))

  applied : (raw op : Op) → in_dialect checked raw ≡ op → (es : List Expr) (fs : List Form) → AllResolved es fs → IsResolved (Apply op es) (plain_form (RawApply raw (forms_alone fs)))
  applied raw op same es fs all = grind (arith, elements, plain_resolved, resolved-Apply, alone_resolved)

  operator_resolved : (op : Op) → is_written op ≡ true → in_dialect checked (plain op) ≡ op → (es : List Expr) (fs : List Form) → length es ≡ arity_of op → AllResolved es fs → IsResolved (Apply op es) (operator_form (plain op) fs)
  operator_resolved Truth written same es fs len all = absurd cc
  operator_resolved Bound written same es fs len all = absurd cc
  operator_resolved Place written same es fs len all = absurd cc
  operator_resolved Three written same es fs len all = absurd cc
  operator_resolved Pick written same es fs len all = absurd cc
  operator_resolved Step written same es fs len all = absurd cc
  operator_resolved Abs written same es fs len all = by_one Abs same es fs len all
  operator_resolved AbsChecked written same es fs len all = by_one AbsChecked same es fs len all
  operator_resolved Mod written same es fs len all = by_two Mod (λ ea eb a b. mod_resolved ea eb a b same) es fs len all
  operator_resolved Sign written same es fs len all = by_two Sign (λ ea eb a b. sign_resolved ea eb a b same) es fs len all
  operator_resolved Max written same es fs len all = by_two Max (λ ea eb a b. max_resolved ea eb a b same) es fs len all
  operator_resolved Min written same es fs len all = by_two Min (λ ea eb a b. min_resolved ea eb a b same) es fs len all
  operator_resolved Neg written same es fs len all = applied Neg Neg same es fs all
  operator_resolved NegChecked written same es fs len all = applied Neg NegChecked same es fs all
  operator_resolved Not written same es fs len all = applied Not Not same es fs all
  operator_resolved Add written same es fs len all = applied Add Add same es fs all
  operator_resolved AddChecked written same es fs len all = applied Add AddChecked same es fs all
  operator_resolved Sub written same es fs len all = applied Sub Sub same es fs all
  operator_resolved SubChecked written same es fs len all = applied Sub SubChecked same es fs all
  operator_resolved Mul written same es fs len all = applied Mul Mul same es fs all
  operator_resolved MulChecked written same es fs len all = applied Mul MulChecked same es fs all
  operator_resolved Div written same es fs len all = applied Div Div same es fs all
  operator_resolved Pow written same es fs len all = applied Pow Pow same es fs all
  operator_resolved PowChecked written same es fs len all = applied Pow PowChecked same es fs all
  operator_resolved Lt written same es fs len all = applied Lt Lt same es fs all
  operator_resolved Le written same es fs len all = applied Le Le same es fs all
  operator_resolved Eq written same es fs len all = applied Eq Eq same es fs all
  operator_resolved Ne written same es fs len all = applied Ne Ne same es fs all
  operator_resolved Ge written same es fs len all = applied Ge Ge same es fs all
  operator_resolved Gt written same es fs len all = applied Gt Gt same es fs all
  operator_resolved And written same es fs len all = applied And And same es fs all
  operator_resolved Or written same es fs len all = applied Or Or same es fs all
  operator_resolved Eqv written same es fs len all = applied Eqv Eqv same es fs all
  operator_resolved Neqv written same es fs len all = applied Neqv Neqv same es fs all

  -- ---- names

  access_resolved : (k : ℕ) (subs : List Expr) (fs : List Form) → k < length names → length subs ≡ length (dims_of names k) → AllResolved subs fs → IsResolved (Read (record { name = k; subs = subs })) (access_form (name_at names k) fs)
  access_resolved k [] [] known len all = grind (arith, plain_resolved, index-name names k differ known)
  access_resolved k [] (f ∷ fs) known len all = absurd all
  access_resolved k (s ∷ subs) [] known len all = absurd all
  access_resolved k (s ∷ subs) (f ∷ fs) known len all =
      grind (arith, index-name names k differ known, lt-ltb 0 (length (s ∷ subs)), plain_resolved, resolved-Call names checked, alone_resolved (s ∷ subs) (f ∷ fs) all)

  -- ---- all expressions

  abbrev IsPrinted : Expr → Type 0
  IsPrinted e = IsProper names e → HasDialect checked e → IsResolved e (form names e)

  all_resolved : (es : List Expr) → All IsPrinted es → All (IsProper names) es → All (HasDialect checked) es → AllResolved es (map (form names) es)
  all_resolved [] all proper dialect = tt
  all_resolved (e ∷ es) all proper dialect =
      (All-first IsPrinted e es all (All-first (IsProper names) e es proper) (All-first (HasDialect checked) e es dialect), all_resolved es (All-rest IsPrinted e es all) (All-rest (IsProper names) e es proper) (All-rest (HasDialect checked) e es dialect))

  element_resolved : (access : Access) → All IsPrinted access.subs → IsPrinted (Read access)
  element_resolved access all proper dialect =
      let is = IsProper-element names access proper in
      let subs = all_resolved access.subs all (λ k d lt. (is.subscripts k d lt).proper) ((Read-dialect checked access).0 dialect) in
      subst (λ (f : Form). IsResolved (Read access) f) (sym (form-Read names access)) (access_resolved access.name access.subs (map (form names) access.subs) is.known is.as_many subs)

  operation_resolved : (op : Op) (args : List Expr) → All IsPrinted args → IsPrinted (Apply op args)
  operation_resolved op args all proper dialect =
      grind (arith, IsProper-operation names op args proper, Apply-dialect checked op args, all_resolved args all, form-Apply names op args, operator_resolved op, dialect_op checked op)

  expressions_resolved : Holds IsPrinted
  expressions_resolved = record {
    number = λ z proper dialect. plain_resolved (Const z) (Int z) refl;
    truth = λ b proper dialect. plain_resolved (IsTruth b) (RawTruth b) refl;
    input = λ proper dialect. absurd proper;
    element = element_resolved;
    operation = operation_resolved;
  }

  -- the form of an expression is resolved to the expression
  pub printed_tree : (e : Expr) → IsProper names e → HasDialect checked e → resolved names checked (raw_form names e) ≡ e
  printed_tree e proper dialect = (every_expression IsPrinted expressions_resolved e proper dialect).alone

  -- ---- what is assigned to

  access_again : (k : ℕ) (subs : List Expr) (fs : List Form) → k < length names → AllResolved subs fs → access_of names checked (access_form (name_at names k) fs).alone ≡ record { name = k; subs = subs }
  access_again k [] [] known all = ap (λ j. let made : Access = record { name = j; subs = [] } in made) (index-name names k differ known)
  access_again k [] (f ∷ fs) known all = absurd all
  access_again k (s ∷ subs) [] known all = absurd all
  access_again k (s ∷ subs) (f ∷ fs) known all =
      grind (arith, access_of-Call names checked (name_at names k), index-name names k differ known, alone_resolved (s ∷ subs) (f ∷ fs) all)

  pub printed_target : (target : Access) → IsProper names (Read target) → All (HasDialect checked) target.subs → access_of names checked (raw_form names (Read target)) ≡ target
  printed_target target proper dialect =
      let is = IsProper-element names target proper in
      let each : All IsPrinted target.subs = λ k d lt. every_expression IsPrinted expressions_resolved _ in
      let subs = all_resolved target.subs each (λ k d lt. (is.subscripts k d lt).proper) dialect in
      ap (λ (f : Form). access_of names checked f.alone) (form-Read names target) ∙ access_again target.name target.subs (map (form names) target.subs) is.known subs
