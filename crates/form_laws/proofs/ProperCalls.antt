-- Operators of resolved expressions: those of the dialect, and those of intrinsic functions at their arguments.
use Rattle.std.proofs.Common.{◌≡◌, ℕ, ◌≤◌, ◌⊎◌, ⊎_elim, inl, inr, ◌||◌, ◌&&◌, ◌==◌, Bool, true, false, cond, List, [], ◌∷◌, length, fold, All, Option, Some, refl, sym, ap, subst, ◌∙◌, arith}
use Rattle.std.specs.Prelude.{nat_lt, bytes_eq, find}
use Rattle.std.specs.List.{list_any}
use Rattle.std.proofs.lemmas.List.Elements.{All-nil, All-cons, All-head, All-tail}
use Rattle.std.proofs.lemmas.Bool.Decides.{nat_tests}
use Rattle.op_table.specs.declared.Op.{Op}
use Rattle.op_table.specs.declared.Op.TheVariants.{Add}
use Rattle.op_table.specs.Operators.{arity_of}
use Rattle.f77_tree.specs.declared.declarations.Kind.{Kind}
use Rattle.f77_tree.specs.declared.declarations.Kind.TheVariants.{Integer}
use Rattle.f77_tree.specs.declared.expressions.Expr.{Expr}
use Rattle.f77_tree.specs.declared.expressions.Expr.TheVariants.{Apply}
use Rattle.f77_tree.specs.declared.programs.NameInfo.{NameInfo}
use Rattle.f77_tree.specs.Line.{kind_of_op}
use Rattle.f77_tree.specs.Kinds.{IsOfKind, is_written, operand_kind}
use Rattle.f77_tree.proofs.KindLemmas.{operation-IsProper}
use Rattle.f77_tree.proofs.NameLemmas.{bytes_eq-same}
use Rattle.layout_rules.specs.Types.{Intrinsic, intrinsics, takes}
use Rattle.layout_rules.specs.Resolved.{in_dialect, nested, intrinsic_call}

-- ---- the dialect

-- an operator that may stand for another: it takes and gives the same
pub record IsAlike (op other : Op) : Type 0 where
  pub written : is_written other ≡ is_written op
  pub as_many : arity_of other ≡ arity_of op
  pub operands : operand_kind other ≡ operand_kind op
  pub gives : kind_of_op other ≡ kind_of_op op

pub in_dialect-alike : (checked : Bool) (op : Op) → IsAlike op (in_dialect checked op)
in_dialect-alike false op = record { written = refl; as_many = refl; operands = refl; gives = refl }
in_dialect-alike true Add = record { written = refl; as_many = refl; operands = refl; gives = refl }
in_dialect-alike true _ = record { written = refl; as_many = refl; operands = refl; gives = refl }

-- an operator at its operands
pub operation : (names : List NameInfo) (checked : Bool) (op : Op) (args : List Expr) → is_written op ≡ true → length args ≡ arity_of op → All (IsOfKind names (operand_kind op)) args → IsOfKind names (kind_of_op op) (Apply (in_dialect checked op) args)
operation names checked op args written as_many operands =
    let alike = in_dialect-alike checked op in
    record {
      proper = operation-IsProper names (in_dialect checked op) args (record {
        written = alike.written ∙ written;
        as_many = as_many ∙ sym alike.as_many;
        operands = subst (λ (kind : Kind). All (IsOfKind names kind) args) (sym alike.operands) operands;
      });
      of_kind = alike.gives;
    }

-- ---- operands pair by pair

-- an operator of integers
pub record IsOfIntegers (op : Op) : Type 0 where
  pub written : is_written op ≡ true
  pub operands : operand_kind op ≡ Integer
  pub gives : kind_of_op op ≡ Integer

-- at as many as it takes
integers : (names : List NameInfo) (checked : Bool) (op : Op) (args : List Expr) → IsOfIntegers op → length args ≡ arity_of op → All (IsOfKind names Integer) args → IsOfKind names Integer (Apply (in_dialect checked op) args)
integers names checked op args is as_many all =
    subst (λ (kind : Kind). IsOfKind names kind (Apply (in_dialect checked op) args)) is.gives
    (operation names checked op args is.written as_many (subst (λ (kind : Kind). All (IsOfKind names kind) args) (sym is.operands) all))

pairs : (names : List NameInfo) (checked : Bool) (op : Op) (e : Expr) (rest : List Expr) → IsOfIntegers op → 2 ≡ arity_of op → IsOfKind names Integer e → All (IsOfKind names Integer) rest → IsOfKind names Integer (fold (λ e c. Apply (in_dialect checked op) (e ∷ c ∷ [])) e rest)
pairs names checked op e [] is two first all = first
pairs names checked op e (c ∷ rest) is two first all =
    let P = IsOfKind names Integer in
    pairs names checked op (Apply (in_dialect checked op) (e ∷ c ∷ [])) rest is two
    (integers names checked op (e ∷ c ∷ []) is two (All-cons P e (c ∷ []) first (All-cons P c [] (All-head P c rest all) (All-nil P))))
    (All-tail P c rest all)

-- as many operands as it takes, or two and more of an operator that takes two
abbrev pub FitsCount : Op → ℕ → Type 0
FitsCount op count = (count ≡ arity_of op) ⊎ ((2 ≡ arity_of op) × (2 ≤ count))

abbrev fitting : (names : List NameInfo) (checked : Bool) (op : Op) (args : List Expr) → Type 0
fitting names checked op args = IsOfKind names Integer (nested (in_dialect checked op) args)

nested_pairs : (names : List NameInfo) (checked : Bool) (op : Op) (args : List Expr) → IsOfIntegers op → 2 ≡ arity_of op → 2 ≤ length args → All (IsOfKind names Integer) args → fitting names checked op args
nested_pairs names checked op (a ∷ b ∷ rest) is two many all =
    let P = IsOfKind names Integer in
    let beyond = All-tail P a (b ∷ rest) all in
    pairs names checked op (Apply (in_dialect checked op) (a ∷ b ∷ [])) rest is two
    (integers names checked op (a ∷ b ∷ []) is two (All-cons P a (b ∷ []) (All-head P a (b ∷ rest) all) (All-cons P b [] (All-head P b rest beyond) (All-nil P))))
    (All-tail P b rest beyond)
nested_pairs names checked op _ is two many all = absurd (omega arith)

nested_once : (names : List NameInfo) (checked : Bool) (op : Op) (args : List Expr) → IsOfIntegers op → length args ≡ arity_of op → arity_of op ≤ 2 → All (IsOfKind names Integer) args → fitting names checked op args
nested_once names checked op (a ∷ b ∷ c ∷ rest) is as_many few all = absurd (omega arith)
nested_once names checked op _ is as_many few all = integers names checked op _ is as_many all

-- ---- intrinsic functions

-- a function that takes so many arguments
pub record Suits (f : Intrinsic) (count : ℕ) : Type 0 where
  pub integers : IsOfIntegers f.op
  pub few : arity_of f.op ≤ 2
  pub fits : FitsCount f.op count

abbrev takes_among : List Intrinsic → List ℕ → ℕ → Bool
takes_among fs name count = list_any (λ f. bytes_eq f.name name && (f.arguments == count || (f.list && nat_lt f.arguments count))) fs

record IsFound (fs : List Intrinsic) (name : List ℕ) (count : ℕ) : Type 0 where
  f : Intrinsic
  found : find (λ f. bytes_eq f.name name) fs ≡ Some f
  suits : Suits f count

first_or_later : (f : Intrinsic) (rest : List Intrinsic) (name : List ℕ) (count : ℕ) → (takes_among (f ∷ rest) f.name count ≡ true → Suits f count) → (takes_among rest name count ≡ true → IsFound rest name count) → takes_among (f ∷ rest) name count ≡ true → IsFound (f ∷ rest) name count
first_or_later f rest name count here later takes =
    by (bytes_eq f.name name) refl
  where
    by : (b : Bool) → bytes_eq f.name name ≡ b → IsFound (f ∷ rest) name count
    by true is =
        let same = bytes_eq-same f.name name is in
        record { f = f; found = ap (λ (b : Bool). cond b (Some f) (find (λ f. bytes_eq f.name name) rest)) is; suits = here (subst (λ (n : List ℕ). takes_among (f ∷ rest) n count ≡ true) (sym same) takes) }
    by false is =
        let there = later (sym (ap (λ (b : Bool). (b && (f.arguments == count || (f.list && nat_lt f.arguments count))) || takes_among rest name count) is) ∙ takes) in
        record { f = there.f; found = ap (λ (b : Bool). cond b (Some f) (find (λ f. bytes_eq f.name name) rest)) is ∙ there.found; suits = there.suits }

intrinsic_found : (name : List ℕ) (count : ℕ) → takes name count ≡ true → IsFound intrinsics name count
intrinsic_found name count =
    first_or_later _ _ name count (λ h. record { integers = record { written = refl; operands = refl; gives = refl }; few = omega arith; fits = inl (grind (arith, nat_tests)) })
    (first_or_later _ _ name count (λ h. record { integers = record { written = refl; operands = refl; gives = refl }; few = omega arith; fits = inl (grind (arith, nat_tests)) })
    (first_or_later _ _ name count (λ h. record { integers = record { written = refl; operands = refl; gives = refl }; few = omega arith; fits = inl (grind (arith, nat_tests)) })
    (first_or_later _ _ name count (λ h. record { integers = record { written = refl; operands = refl; gives = refl }; few = omega arith; fits = inl (grind (arith, nat_tests)) })
    (first_or_later _ _ name count (λ h. record { integers = record { written = refl; operands = refl; gives = refl }; few = omega arith; fits = inl (grind (arith, nat_tests)) })
    (first_or_later _ _ name count (λ h. record { integers = record { written = refl; operands = refl; gives = refl }; few = omega arith; fits = inr (refl, grind (arith, nat_tests)) })
    (first_or_later _ _ name count (λ h. record { integers = record { written = refl; operands = refl; gives = refl }; few = omega arith; fits = inr (refl, grind (arith, nat_tests)) })
    (first_or_later _ _ name count (λ h. record { integers = record { written = refl; operands = refl; gives = refl }; few = omega arith; fits = inr (refl, grind (arith, nat_tests)) })
    (first_or_later _ _ name count (λ h. record { integers = record { written = refl; operands = refl; gives = refl }; few = omega arith; fits = inr (refl, grind (arith, nat_tests)) })
    (λ none. absurd cc)))))))))

-- an intrinsic function at as many arguments as it takes is an integer
pub intrinsic_call-integer : (names : List NameInfo) (checked : Bool) (name : List ℕ) (args : List Expr) → takes name (length args) ≡ true → All (IsOfKind names Integer) args → IsOfKind names Integer (intrinsic_call checked (find (λ f. bytes_eq f.name name) intrinsics) args)
intrinsic_call-integer names checked name args suits all =
    let is = intrinsic_found name (length args) suits in
    subst (λ (o : Option Intrinsic). IsOfKind names Integer (intrinsic_call checked o args)) (sym is.found)
    (⊎_elim (λ once. nested_once names checked is.f.op args is.suits.integers once is.suits.few all)
    (λ (more : (2 ≡ arity_of is.f.op) × (2 ≤ length args)). nested_pairs names checked is.f.op args is.suits.integers more.0 more.1 all) is.suits.fits)
