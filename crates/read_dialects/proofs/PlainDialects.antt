-- An expression with operators of the plain dialect alone is of the dialect in which it is read.
use Rattle.std.proofs.Common.{◌≡◌, ℕ, Bool, true, false, cond, if◌then◌else◌, List, [], ◌∷◌, All, Some, refl}
use Rattle.std.specs.Prelude.{bytes_eq, find}
use Rattle.std.specs.List.{fold}
use Rattle.op_table.specs.declared.Op.{Op}
use Rattle.op_table.specs.declared.Op.TheVariants.{Add, Sub, Mul, Pow, Neg, Abs}
use Rattle.f77_tree.specs.declared.expressions.Access.{Access}
use Rattle.f77_tree.specs.declared.expressions.Expr.{Expr, Apply, Read}
use Rattle.f77_tree.specs.declared.programs.NameInfo.{NameInfo}
use Rattle.f77_tree.specs.declared.statements.RawExpr.{RawExpr, Int, Truth, Named, Call', Apply' as RawApply', Row_of-RawExpr, end_of-RawExpr, more_of-RawExpr}
use Rattle.f77_tree.specs.Declarations.{index_of}
use Rattle.f77_tree.specs.Dialects.{is_of_dialect, HasDialect}
use Rattle.f77_tree.proofs.AllLemmas.{All-nil, All-cons, All-first, All-rest}
use Rattle.f77_tree.proofs.DialectLaws.{Apply-dialect, Read-dialect}
use Rattle.layout_rules.specs.Resolved.{in_dialect, nested, intrinsic_call, resolved_call, resolved, resolved_row, access_of}
use Rattle.layout_rules.specs.Types.{Intrinsic, intrinsics, is_array_in}
use Rattle.read_dialects.proofs.PlainOperators.{IsPlain, ArePlain}

-- ---- operators

op-dialect : (checked : Bool) (op : Op) → is_of_dialect false op ≡ true → is_of_dialect checked (in_dialect checked op) ≡ true
op-dialect false op of = of
op-dialect true Add of = refl
op-dialect true Sub of = refl
op-dialect true Mul of = refl
op-dialect true Neg of = refl
op-dialect true Abs of = refl
op-dialect true Pow of = refl
op-dialect true op of = refl

-- ---- intrinsic functions

abbrev IsSafe : (checked : Bool) → Intrinsic → Type 0
IsSafe checked f = is_of_dialect checked (in_dialect checked f.op) ≡ true

abbrev AreSafe : (checked : Bool) → List Intrinsic → Type 0
AreSafe checked [] = Unit {0}
AreSafe checked (f ∷ fs) = IsSafe checked f × AreSafe checked fs

intrinsics-dialect : (checked : Bool) → AreSafe checked intrinsics
intrinsics-dialect true = (refl, (refl, (refl, (refl, (refl, (refl, (refl, (refl, (refl, tt)))))))))
intrinsics-dialect false = (refl, (refl, (refl, (refl, (refl, (refl, (refl, (refl, (refl, tt)))))))))

-- ---- calls

module _ (names : List NameInfo) (checked : Bool) where
  abbrev Have : List Expr → Type 0
  Have es = All (HasDialect checked) es

  applied-dialect : (op : Op) (args : List Expr) → is_of_dialect checked op ≡ true → Have args → HasDialect checked (Apply op args)
  applied-dialect op args of have = (Apply-dialect checked op args).1 (of, have)

  two-dialect : (op : Op) (a b : Expr) → is_of_dialect checked op ≡ true → HasDialect checked a → HasDialect checked b → HasDialect checked (Apply op (a ∷ b ∷ []))
  two-dialect op a b of first second =
      applied-dialect op (a ∷ b ∷ []) of (All-cons (HasDialect checked) a (b ∷ []) first (All-cons (HasDialect checked) b [] second (All-nil (HasDialect checked))))

  folded-dialect : (op : Op) (e : Expr) (args : List Expr) → is_of_dialect checked op ≡ true → HasDialect checked e → Have args → HasDialect checked (fold (λ e c. Apply op (e ∷ c ∷ [])) e args)
  folded-dialect op e [] of first have = first
  folded-dialect op e (a ∷ args) of first have =
      folded-dialect op (Apply op (e ∷ a ∷ [])) args of (two-dialect op e a of first (All-first (HasDialect checked) a args have)) (All-rest (HasDialect checked) a args have)

  nested-dialect : (op : Op) (args : List Expr) → is_of_dialect checked op ≡ true → Have args → HasDialect checked (nested op args)
  nested-dialect op [] of have = applied-dialect op [] of have
  nested-dialect op (a ∷ []) of have = applied-dialect op (a ∷ []) of have
  nested-dialect op (a ∷ b ∷ rest) of have =
      let others = All-rest (HasDialect checked) a (b ∷ rest) have in
      folded-dialect op (Apply op (a ∷ b ∷ [])) rest of
      (two-dialect op a b of (All-first (HasDialect checked) a (b ∷ rest) have) (All-first (HasDialect checked) b rest others))
      (All-rest (HasDialect checked) b rest others)

  intrinsic-dialect : (fs : List Intrinsic) (test : Intrinsic → Bool) (args : List Expr) → AreSafe checked fs → Have args → HasDialect checked (intrinsic_call checked (find test fs) args)
  intrinsic-dialect [] test args safe have = tt
  intrinsic-dialect (f ∷ fs) test args safe have = by (test f) (intrinsic-dialect fs test args safe.1 have)
    where
      by : (b : Bool) → HasDialect checked (intrinsic_call checked (find test fs) args) → HasDialect checked (intrinsic_call checked (cond b (Some f) (find test fs)) args)
      by true later = nested-dialect (in_dialect checked f.op) args safe.0 have
      by false later = later

  call-dialect : (name : List ℕ) (args : List Expr) → Have args → HasDialect checked (resolved_call names checked name args)
  call-dialect name args have = by (is_array_in names name)
    where
      access : Access
      access = record { name = index_of names name; subs = args }

      by : (b : Bool) → HasDialect checked (if b then Read access else intrinsic_call checked (find (λ f. bytes_eq f.name name) intrinsics) args)
      by true = (Read-dialect checked access).1 have
      by false = intrinsic-dialect intrinsics (λ f. bytes_eq f.name name) args (intrinsics-dialect checked) have

  -- ---- expressions

  mutual
    pub plain-dialect : (e : RawExpr) → IsPlain e → HasDialect checked (resolved names checked e)
    plain-dialect (Int z) is = tt
    plain-dialect (Truth b) is = tt
    plain-dialect (Named name) is = (Read-dialect checked (record { name = index_of names name; subs = [] })).1 (All-nil (HasDialect checked))
    plain-dialect (Call' name shape args) is = call-dialect name (resolved_row names checked args) (row-dialect args is)
    plain-dialect (RawApply' op shape args) is = applied-dialect (in_dialect checked op) (resolved_row names checked args) (op-dialect checked op is.0) (row-dialect args is.1)

    row-dialect : {m : _} (row : Row_of-RawExpr m) → ArePlain row → All (HasDialect checked) (resolved_row names checked row)
    row-dialect end_of-RawExpr are = All-nil (HasDialect checked)
    row-dialect (more_of-RawExpr e rest) are = All-cons (HasDialect checked) (resolved names checked e) (resolved_row names checked rest) (plain-dialect e are.0) (row-dialect rest are.1)

  -- the subscripts of what a variable or an array element accesses
  pub target-dialect : (e : RawExpr) → IsPlain e → All (HasDialect checked) (access_of names checked e).subs
  target-dialect (Call' name shape args) is = row-dialect args is
  target-dialect _ is = All-nil (HasDialect checked)
