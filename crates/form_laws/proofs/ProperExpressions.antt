-- Resolved expressions are expressions of a program, of the kind that they have as they are read.
use Rattle.std.proofs.Common.{◌≡◌, ℕ, zero, suc, ◌<◌, ◌==◌, Bool, true, false, if◌then◌else◌, List, [], ◌∷◌, ◌++◌, length, All, Option, Some, None, refl, sym, ap, subst, ◌∙◌, arith}
use Rattle.std.specs.Prelude.{nat_lt, bytes_eq, find}
use Rattle.std.proofs.lemmas.Bool.{and_parts}
use Rattle.std.proofs.lemmas.Bool.Decides.{nat_tests}
use Rattle.std.proofs.lemmas.List.Elements.{All-nil, All-cons, All-head, All-tail}
use Rattle.f77_tree.specs.declared.declarations.Kind.{Kind}
use Rattle.f77_tree.specs.declared.declarations.Kind.TheVariants.{Integer, Logical}
use Rattle.f77_tree.specs.declared.expressions.Access.{Access}
use Rattle.f77_tree.specs.declared.expressions.Expr.{Expr}
use Rattle.f77_tree.specs.declared.expressions.Expr.TheVariants.{Const, Truth, Read, Apply}
use Rattle.f77_tree.specs.declared.programs.NameInfo.{NameInfo}
use Rattle.f77_tree.specs.declared.statements.RawExpr.{RawExpr, Row_of-RawExpr, end_of-RawExpr, more_of-RawExpr}
use Rattle.f77_tree.specs.declared.statements.RawExpr.TheVariants.{Int as RawInt, Truth as RawTruth, Named, Call', Apply' as RawApply'}
use Rattle.f77_tree.specs.Value.{kind_of, dims_of}
use Rattle.f77_tree.specs.Declarations.{index_of}
use Rattle.f77_tree.specs.Line.{kind_of_op}
use Rattle.f77_tree.specs.Kinds.{IsOfKind, IsProperAccess, operand_kind}
use Rattle.f77_tree.proofs.KindLemmas.{element-IsProper}
use Rattle.layout_rules.specs.Types.{intrinsics, takes, dims_named, kind_named, is_array_in, is_kind, is_of_kind, count_of_row, kind_of_call, kind_in, is_row_of, is_variable}
use Rattle.layout_rules.specs.Appearances.{called_name, names_in, names_in_row}
use Rattle.layout_rules.specs.Resolved.{in_dialect, intrinsic_call, resolved, resolved_row, resolved_call, access_of}
use Rattle.layout_rules.specs.ReadExpressions.{IsReading, AllReadings}
use Rattle.form_laws.proofs.ProperCalls.{operation, intrinsic_call-integer}

-- a name of the table
abbrev pub IsKnown : List NameInfo → List ℕ → Type 0
IsKnown names name = index_of names name < length names

-- ---- tests

only_if : {A : Type 0} (b : Bool) (x : Option A) (y : A) → (if b then x else None) ≡ Some y → (b ≡ true) × (x ≡ Some y)
only_if true x y h = (refl, h)
only_if false x y h = absurd cc

only_unless : {A : Type 0} (b : Bool) (x : Option A) (y : A) → (if b then None else x) ≡ Some y → (b ≡ false) × (x ≡ Some y)
only_unless true x y h = absurd cc
only_unless false x y h = (refl, h)

pub is_kind-some : (kind : Kind) (o : Option Kind) → is_kind kind o ≡ true → o ≡ Some kind
is_kind-some Integer (Some Integer) h = refl
is_kind-some Logical (Some Logical) h = refl
is_kind-some _ _ h = absurd cc

-- ---- names

pub known_at : (names : List NameInfo) (k : ℕ) → nat_lt 0 (length (dims_of names k)) ≡ true → k < length names
known_at [] k h = absurd cc
known_at (info ∷ names) zero h = omega arith
known_at (info ∷ names) (suc k) h = let lt = known_at names k h in omega (arith, lt)

no_dims : (names : List NameInfo) (name : List ℕ) → is_array_in names name ≡ false → 0 ≡ length (dims_named names name)
no_dims names name h = grind (arith, nat_tests)

pub prefix : {A : Type 0} (P : A → Type 0) (xs ys : List A) → All P (xs ++ ys) → All P xs
prefix P [] ys all = All-nil P
prefix P (x ∷ xs) ys all = All-cons P x xs (All-head P x (xs ++ ys) all) (prefix P xs ys (All-tail P x (xs ++ ys) all))

pub rear : {A : Type 0} (P : A → Type 0) (xs ys : List A) → All P (xs ++ ys) → All P ys
rear P [] ys all = all
rear P (x ∷ xs) ys all = rear P xs ys (All-tail P x (xs ++ ys) all)

-- ---- accesses

-- an access of the table, of a kind
pub record IsAccessOf (names : List NameInfo) (kind : Kind) (access : Access) : Type 0 where
  pub proper : IsProperAccess names access
  pub of_kind : kind_of names access.name ≡ kind

read : (names : List NameInfo) (kind : Kind) (access : Access) → IsAccessOf names kind access → IsOfKind names kind (Read access)
read names kind access is = record { proper = is.proper; of_kind = is.of_kind }

variable : (names : List NameInfo) (name : List ℕ) (kind : Kind) → IsKnown names name → (if is_array_in names name then None else Some (kind_named names name)) ≡ Some kind → IsAccessOf names kind (record { name = index_of names name; subs = [] })
variable names name kind known well =
    let parts = only_unless (is_array_in names name) (Some (kind_named names name)) kind well in
    record {
      proper = element-IsProper names (record { name = index_of names name; subs = [] }) (record { known = known; as_many = no_dims names name parts.0; subscripts = All-nil (IsOfKind names Integer) });
      of_kind = let is : kind_named names name ≡ kind = cc in is;
    }

element : (names : List NameInfo) (name : List ℕ) (subs : List Expr) (kind : Kind) → is_array_in names name ≡ true → length subs ≡ length (dims_named names name) → kind_named names name ≡ kind → All (IsOfKind names Integer) subs → IsAccessOf names kind (record { name = index_of names name; subs = subs })
element names name subs kind array as_many is all = record {
  proper = element-IsProper names (record { name = index_of names name; subs = subs }) (record { known = known_at names (index_of names name) array; as_many = as_many; subscripts = all });
  of_kind = is;
}

-- an array has as many subscripts as dimensions
subscripts : (names : List NameInfo) (name : List ℕ) (count : ℕ) (kind : Kind) → is_array_in names name ≡ true → kind_of_call names name count ≡ Some kind → (count ≡ length (dims_named names name)) × (kind_named names name ≡ kind)
subscripts names name count kind array well =
    let whole : (if length (dims_named names name) == count then Some (kind_named names name) else None) ≡ Some kind = ap (λ (b : Bool). if b then (if length (dims_named names name) == count then Some (kind_named names name) else None) else if takes name count then Some Integer else None) (sym array) ∙ well in
    let parts = only_if (length (dims_named names name) == count) (Some (kind_named names name)) kind whole in
    (let equal = parts.0 in grind (arith, nat_tests), let is : kind_named names name ≡ kind = cc in is)

call : (names : List NameInfo) (checked : Bool) (name : List ℕ) (args : List Expr) (kind : Kind) → kind_of_call names name (length args) ≡ Some kind → All (IsOfKind names Integer) args → IsOfKind names kind (resolved_call names checked name args)
call names checked name args kind well all = by (is_array_in names name) refl
  where
    access : Access
    access = record { name = index_of names name; subs = args }

    by : (b : Bool) → is_array_in names name ≡ b → IsOfKind names kind (resolved_call names checked name args)
    by true array =
        let fits = subscripts names name (length args) kind array well in
        subst (λ (b : Bool). IsOfKind names kind (if b then Read access else intrinsic_call checked (find (λ f. bytes_eq f.name name) intrinsics) args)) (sym array)
        (read names kind access (element names name args kind array fits.0 fits.1 all))
    by false scalar =
        let whole : (if takes name (length args) then Some Integer else None) ≡ Some kind = ap (λ (b : Bool). if b then (if length (dims_named names name) == length args then Some (kind_named names name) else None) else if takes name (length args) then Some Integer else None) (sym scalar) ∙ well in
        let parts = only_if (takes name (length args)) (Some Integer) kind whole in
        let is : Integer ≡ kind = cc in
        subst (λ (b : Bool). IsOfKind names kind (if b then Read access else intrinsic_call checked (find (λ f. bytes_eq f.name name) intrinsics) args)) (sym scalar)
        (subst (λ (k : Kind). IsOfKind names k (intrinsic_call checked (find (λ f. bytes_eq f.name name) intrinsics) args)) is (intrinsic_call-integer names checked name args parts.0 all))

-- ---- expressions

length-resolved_row : {m : _} (names : List NameInfo) (checked : Bool) (row : Row_of-RawExpr m) → length (resolved_row names checked row) ≡ count_of_row row
length-resolved_row names checked end_of-RawExpr = refl
length-resolved_row names checked (more_of-RawExpr e rest) = let more = length-resolved_row names checked rest in omega (arith, more)

mutual
  pub resolved-IsOfKind : (names : List NameInfo) (checked : Bool) (arrays : List ℕ → Bool) (e : RawExpr) (kind : Kind) → IsReading e → All (IsKnown names) (names_in arrays e) → kind_in names e ≡ Some kind → IsOfKind names kind (resolved names checked e)
  resolved-IsOfKind names checked arrays (RawInt z) kind is known well =
      let same : Integer ≡ kind = cc in
      subst (λ (k : Kind). IsOfKind names k (Const z)) same (record { proper = is; of_kind = refl })
  resolved-IsOfKind names checked arrays (RawTruth b) kind is known well =
      let same : Logical ≡ kind = cc in
      subst (λ (k : Kind). IsOfKind names k (Truth b)) same (record { proper = tt; of_kind = refl })
  resolved-IsOfKind names checked arrays (Named name) kind is known well =
      read names kind (record { name = index_of names name; subs = [] }) (variable names name kind (All-head (IsKnown names) name [] known) well)
  resolved-IsOfKind names checked arrays (Call' name shape args) kind is known well =
      let parts = only_if (is_row_of names Integer args) (kind_of_call names name (count_of_row args)) kind well in
      let all = resolved_row-AllOfKind names checked arrays args Integer is (rear (IsKnown names) (called_name arrays name) (names_in_row arrays args) known) parts.0 in
      call names checked name (resolved_row names checked args) kind (ap (kind_of_call names name) (length-resolved_row names checked args) ∙ parts.1) all
  resolved-IsOfKind names checked arrays (RawApply' op shape args) kind is known well =
      let parts = only_if (is_row_of names (operand_kind op) args) (Some (kind_of_op op)) kind well in
      let same : kind_of_op op ≡ kind = cc in
      subst (λ (k : Kind). IsOfKind names k (Apply (in_dialect checked op) (resolved_row names checked args))) same
      (operation names checked op (resolved_row names checked args) is.0 (length-resolved_row names checked args ∙ is.1) (resolved_row-AllOfKind names checked arrays args (operand_kind op) is.2 known parts.0))

  resolved_row-AllOfKind : {m : _} (names : List NameInfo) (checked : Bool) (arrays : List ℕ → Bool) (row : Row_of-RawExpr m) (kind : Kind) → AllReadings row → All (IsKnown names) (names_in_row arrays row) → is_row_of names kind row ≡ true → All (IsOfKind names kind) (resolved_row names checked row)
  resolved_row-AllOfKind names checked arrays end_of-RawExpr kind is known well = All-nil (IsOfKind names kind)
  resolved_row-AllOfKind names checked arrays (more_of-RawExpr e rest) kind is known well =
      let parts = and_parts (is_kind kind (kind_in names e)) (is_row_of names kind rest) well in
      All-cons (IsOfKind names kind) (resolved names checked e) (resolved_row names checked rest)
      (resolved-IsOfKind names checked arrays e kind is.0 (prefix (IsKnown names) (names_in arrays e) (names_in_row arrays rest) known) (is_kind-some kind (kind_in names e) parts.0))
      (resolved_row-AllOfKind names checked arrays rest kind is.1 (rear (IsKnown names) (names_in arrays e) (names_in_row arrays rest) known) parts.1)

-- an expression of the kind that its place asks for
pub resolved-asked : (names : List NameInfo) (checked : Bool) (arrays : List ℕ → Bool) (e : RawExpr) (kind : Kind) → IsReading e → All (IsKnown names) (names_in arrays e) → is_of_kind names kind e ≡ true → IsOfKind names kind (resolved names checked e)
resolved-asked names checked arrays e kind is known well = resolved-IsOfKind names checked arrays e kind is known (is_kind-some kind (kind_in names e) well)

-- ---- variables and array elements

pub access_of-IsAccessOf : (names : List NameInfo) (checked : Bool) (arrays : List ℕ → Bool) (e : RawExpr) (kind : Kind) → IsReading e → All (IsKnown names) (names_in arrays e) → is_variable names e ≡ true → kind_in names e ≡ Some kind → IsAccessOf names kind (access_of names checked e)
access_of-IsAccessOf names checked arrays (Named name) kind is known can well = variable names name kind (All-head (IsKnown names) name [] known) well
access_of-IsAccessOf names checked arrays (Call' name shape args) kind is known can well =
    let parts = only_if (is_row_of names Integer args) (kind_of_call names name (count_of_row args)) kind well in
    let all = resolved_row-AllOfKind names checked arrays args Integer is (rear (IsKnown names) (called_name arrays name) (names_in_row arrays args) known) parts.0 in
    let fits = subscripts names name (count_of_row args) kind can parts.1 in
    element names name (resolved_row names checked args) kind can (length-resolved_row names checked args ∙ fits.0) fits.1 all
access_of-IsAccessOf names checked arrays _ kind is known can well = absurd cc
