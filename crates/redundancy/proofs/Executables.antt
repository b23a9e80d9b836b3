-- The executables of well-formed programs fit the table of names.
use Rattle.std.proofs.Common.{◌≡◌, ℕ, zero, suc, ◌<◌, ◌≤◌, List, [], ◌∷◌, ◌++◌, length, get_or, All, refl, sym, subst, ⊎_elim, arith}
use Rattle.std.specs.Prelude.{flat_map, Some, None, slice_get}
use Rattle.op_table.specs.declared.Op.TheVariants.{Truth as ToTruth}
use Rattle.f77_tree.specs.declared.declarations.Kind.{Kind}
use Rattle.f77_tree.specs.declared.declarations.Kind.TheVariants.{Integer, Logical}
use Rattle.f77_tree.specs.declared.expressions.Access.{Access}
use Rattle.f77_tree.specs.declared.expressions.Expr.{Expr, Read, Read', Apply', Row_of-Expr, end_of-Expr, more_of-Expr}
use Rattle.f77_tree.specs.declared.expressions.Expr.TheVariants.{Const, Truth, Input}
use Rattle.f77_tree.specs.declared.programs.Exec.{Exec}
use Rattle.f77_tree.specs.declared.programs.ExecKind.{ExecKind}
use Rattle.f77_tree.specs.declared.programs.ExecKind.TheVariants.{Assign, Print, Pass, Test, Sign, Pick, DoStart, DoNext, End}
use Rattle.f77_tree.specs.declared.programs.Item.{Item}
use Rattle.f77_tree.specs.declared.programs.Item.TheVariants.{Value, Chars}
use Rattle.f77_tree.specs.declared.programs.NameInfo.{NameInfo}
use Rattle.f77_tree.specs.declared.programs.Program.{Program}
use Rattle.f77_tree.specs.Kinds.{IsProper, AllOfKind, IsOfKind, IsAssignment, taken_as}
use Rattle.f77_tree.specs.Value.{IsExpression, AllExpressions}
use Rattle.f77_tree.specs.WellFormed.{IsExecutable, IsProperItem, IsWellFormed}
use Rattle.redundancy.specs.Computed.{in_item}
use Rattle.redundancy.specs.Fitting.{ExecFits}
use Rattle.redundancy.proofs.Operands.{IsExpression-subscripts, Read-access, fits-Apply}

mutual
  pub proper_fits : (names : List NameInfo) (e : Expr) → IsProper names e → IsExpression names e
  proper_fits names (Const z) is = tt
  proper_fits names (Truth b) is = tt
  proper_fits names Input is = tt
  proper_fits names (Read' name shape subs) is = (is.0, is.1, row_fits names Integer _ subs is.2)
  proper_fits names (Apply' op shape args) is = (is.1, row_fits names _ _ args is.2)

  row_fits : (names : List NameInfo) (kind : Kind) (n : _) (row : Row_of-Expr n) → AllOfKind names kind row → AllExpressions names row
  row_fits names kind n end_of-Expr all = tt
  row_fits names kind n (more_of-Expr e rest) all = (proper_fits names e all.0, row_fits names kind _ rest all.2)

-- ---- lists

pub all-none : {X : Type 0} (P : X → Type 0) → All P []
all-none P k d lt = absurd (omega (arith, lt))

pub all-cons : {X : Type 0} (P : X → Type 0) (x : X) (xs : List X) → P x → All P xs → All P (x ∷ xs)
all-cons P x xs here all zero d lt = here
all-cons P x xs here all (suc k) d lt = all k d (omega (arith, lt))

pub all-one : {X : Type 0} (P : X → Type 0) (x : X) → P x → All P (x ∷ [])
all-one P x here = all-cons P x [] here (all-none P)

pub all-tail : {X : Type 0} (P : X → Type 0) (x : X) (xs : List X) → All P (x ∷ xs) → All P xs
all-tail P x xs all k d lt = all (suc k) d (omega (arith, lt))

pub all-append : {X : Type 0} (P : X → Type 0) (xs ys : List X) → All P xs → All P ys → All P (xs ++ ys)
all-append P [] ys a b = b
all-append P (x ∷ xs) ys a b = all-cons P x (xs ++ ys) (a 0 x (omega arith)) (all-append P xs ys (all-tail P x xs a) b)

pub all-left : {X : Type 0} (P : X → Type 0) (xs ys : List X) → All P (xs ++ ys) → All P xs
all-left P [] ys all = all-none P
all-left P (x ∷ xs) ys all = all-cons P x xs (all 0 x (omega arith)) (all-left P xs ys (all-tail P x (xs ++ ys) all))

pub all-right : {X : Type 0} (P : X → Type 0) (xs ys : List X) → All P (xs ++ ys) → All P ys
all-right P [] ys all = all
all-right P (x ∷ xs) ys all = all-right P xs ys (all-tail P x (xs ++ ys) all)

pub all-get : {X : Type 0} (P : X → Type 0) (xs : List X) (k : ℕ) (x : X) → All P xs → slice_get xs k ≡ Some x → P x
all-get P [] k x all is = absurd cc
all-get P (y ∷ xs) zero x all is = let same : y ≡ x = cc in subst P same (all 0 y (omega arith))
all-get P (y ∷ xs) (suc k) x all is = all-get P xs k x (all-tail P y xs all) is

-- ---- executables

item_fits : (names : List NameInfo) (item : Item) → IsProperItem names item → All (IsExpression names) (in_item item)
item_fits names (Value e) is = all-one (IsExpression names) e (proper_fits names e is)
item_fits names (Chars text) is = all-none (IsExpression names)

items_fit : (names : List NameInfo) (items : List Item) → All (IsProperItem names) items → All (IsExpression names) (flat_map in_item items)
items_fit names [] all = all-none (IsExpression names)
items_fit names (item ∷ items) all = all-append (IsExpression names) (in_item item) (flat_map in_item items) (item_fits names item (all 0 item (omega arith))) (items_fit names items (all-tail (IsProperItem names) item items all))

taken_fits : (names : List NameInfo) (kind : Kind) → IsExpression names (taken_as kind)
taken_fits names Integer = tt
taken_fits names Logical = fits-Apply names ToTruth (Input ∷ []) refl (all-one (IsExpression names) Input tt)

value_fits : (names : List NameInfo) (target : Access) (value : Expr) → IsAssignment names target value → IsExpression names value
value_fits names target value is = ⊎_elim
    (λ (o : IsOfKind names _ value). proper_fits names value o.proper)
    (λ same. subst (IsExpression names) (sym same) (taken_fits names _))
    is.of_kind

pub exec_fits : (names : List NameInfo) (kind : ExecKind) → IsExecutable names kind → ExecFits names kind
exec_fits names (Assign target value next) is =
    let access = proper_fits names (Read target) is.access in
    record { evaluates = all-append (IsExpression names) target.subs (value ∷ []) (IsExpression-subscripts names target access) (all-one (IsExpression names) value (value_fits names target value is)); target = Read-access names target access }
exec_fits names (Print items next) is = record { evaluates = items_fit names items is; target = tt }
exec_fits names (Pass next) is = record { evaluates = all-none (IsExpression names); target = tt }
exec_fits names (Test cond a b) is = record { evaluates = all-one (IsExpression names) cond (proper_fits names cond is.proper); target = tt }
exec_fits names (Sign value a b d) is = record { evaluates = all-one (IsExpression names) value (proper_fits names value is.proper); target = tt }
exec_fits names (Pick value targets other) is = record { evaluates = all-one (IsExpression names) value (proper_fits names value is.0.proper); target = tt }
exec_fits names (DoStart loop_no var first last step body exit) is =
    let fits = λ (k : ℕ) (d : Expr) (lt : k < 3). proper_fits names (get_or (first ∷ last ∷ step ∷ []) k d) (is.integers k d lt).proper in
    record { evaluates = fits; target = record { known = is.variable.known; scalar = is.variable.scalar } }
exec_fits names (DoNext loop_no var body exit) is = record { evaluates = all-none (IsExpression names); target = record { known = is.known; scalar = is.scalar } }
exec_fits names End is = record { evaluates = all-none (IsExpression names); target = tt }

pub program_fits : (p : Program) (k : ℕ) (exec : Exec) → IsWellFormed p → slice_get p.execs k ≡ Some exec → ExecFits p.names exec.kind
program_fits p k exec is at = exec_fits p.names exec.kind (all-get (λ (x : Exec). IsExecutable p.names x.kind) p.execs k exec is.execs.each at)

pub get_past : {X : Type 0} (xs : List X) (k : ℕ) → length xs ≤ k → slice_get xs k ≡ None
get_past [] k past = refl
get_past (x ∷ xs) zero past = absurd (omega (arith, past))
get_past (x ∷ xs) (suc k) past = get_past xs k (omega arith)
