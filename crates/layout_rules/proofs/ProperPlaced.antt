-- The places of names don't tell whether an executable is one by itself.
use Rattle.std.proofs.Common.{◌≡◌, ℕ, zero, suc, ◌+◌, ◌<◌, ⊎_elim, inl, inr, List, [], ◌∷◌, length, refl, sym, ap, subst, ◌∙◌, arith}
use Rattle.std.proofs.lemmas.List.Elements.{All-weaker}
use Rattle.f77_tree.specs.declared.declarations.Kind.{Kind}
use Rattle.f77_tree.specs.declared.declarations.Kind.TheVariants.{Integer, Logical}
use Rattle.f77_tree.specs.declared.expressions.Access.{Access}
use Rattle.f77_tree.specs.declared.expressions.Expr.{Expr, Row_of-Expr, end_of-Expr, more_of-Expr}
use Rattle.f77_tree.specs.declared.expressions.Expr.TheVariants.{Const, Truth, Input, Read, Read', Apply'}
use Rattle.f77_tree.specs.declared.programs.NameInfo.{NameInfo}
use Rattle.f77_tree.specs.declared.programs.Item.{Item}
use Rattle.f77_tree.specs.declared.programs.Item.TheVariants.{Value, Chars}
use Rattle.f77_tree.specs.declared.programs.ExecKind.{ExecKind}
use Rattle.f77_tree.specs.declared.programs.ExecKind.TheVariants.{Assign, Print, Pass, Test, Sign, Pick, DoStart, DoNext, End}
use Rattle.f77_tree.specs.declared.statements.Labelled.{Labelled}
use Rattle.f77_tree.specs.Value.{kind_of, dims_of}
use Rattle.f77_tree.specs.Line.{kind_of_expression}
use Rattle.f77_tree.specs.Declarations.{IsIntegerScalar}
use Rattle.f77_tree.specs.Kinds.{IsProper, AllOfKind, IsOfKind, IsAssignment, operand_kind, taken_as}
use Rattle.f77_tree.specs.WellFormed.{IsProperItem, IsExecutable}
use Rattle.layout_rules.specs.Storage.{Spot}
use Rattle.layout_rules.specs.Layout.{names_of, spots_of, placed_from, placed_names}

-- the same names, but for their places
pub record AgreesButPlaces (names placed : List NameInfo) : Type 0 where
  pub as_many : length placed ≡ length names
  pub kinds : (k : ℕ) → kind_of placed k ≡ kind_of names k
  pub dims : (k : ℕ) → dims_of placed k ≡ dims_of names k

pub placed_from-agrees : (names : List NameInfo) (spots : List Spot) (k : ℕ) (rest : List NameInfo) → AgreesButPlaces rest (placed_from names spots k rest)
placed_from-agrees names spots k [] = record { as_many = refl; kinds = λ j. refl; dims = λ j. refl }
placed_from-agrees names spots k (info ∷ rest) =
    let more = placed_from-agrees names spots (k + 1) rest in
    record { as_many = ap suc more.as_many; kinds = kinds more; dims = dims more }
  where
    kinds : AgreesButPlaces rest (placed_from names spots (k + 1) rest) → (j : ℕ) → kind_of (placed_from names spots k (info ∷ rest)) j ≡ kind_of (info ∷ rest) j
    kinds more zero = refl
    kinds more (suc j) = more.kinds j

    dims : AgreesButPlaces rest (placed_from names spots (k + 1) rest) → (j : ℕ) → dims_of (placed_from names spots k (info ∷ rest)) j ≡ dims_of (info ∷ rest) j
    dims more zero = refl
    dims more (suc j) = more.dims j

pub placed_names-agrees : (whole : List Labelled) → AgreesButPlaces (names_of whole) (placed_names whole)
placed_names-agrees whole = placed_from-agrees (names_of whole) (spots_of whole) 0 (names_of whole)

module _ (names placed : List NameInfo) (same : AgreesButPlaces names placed) where
  known : (k : ℕ) → k < length names → k < length placed
  known k lt = let as_many = same.as_many in omega (arith, as_many, lt)

  same_kind : (e : Expr) → kind_of_expression placed e ≡ kind_of_expression names e
  same_kind (Const z) = refl
  same_kind (Truth b) = refl
  same_kind Input = refl
  same_kind (Read' name shape subs) = same.kinds name
  same_kind (Apply' op shape args) = refl

  mutual
    proper : (e : Expr) → IsProper names e → IsProper placed e
    proper (Const z) is = is
    proper (Truth b) is = tt
    proper Input is = is
    proper (Read' name shape subs) is = (known name is.0, is.1 ∙ ap length (sym (same.dims name)), all_proper Integer subs is.2)
    proper (Apply' op shape args) is = (is.0, is.1, all_proper (operand_kind op) args is.2)

    all_proper : {m : _} (kind : Kind) (row : Row_of-Expr m) → AllOfKind names kind row → AllOfKind placed kind row
    all_proper kind end_of-Expr all = tt
    all_proper kind (more_of-Expr e rest) all = (proper e all.0, same_kind e ∙ all.1, all_proper kind rest all.2)

  of_kind : (kind : Kind) (e : Expr) → IsOfKind names kind e → IsOfKind placed kind e
  of_kind kind e is = record { proper = proper e is.proper; of_kind = same_kind e ∙ is.of_kind }

  assignment : (target : Access) (value : Expr) → IsAssignment names target value → IsAssignment placed target value
  assignment target value is = record {
    access = proper (Read target) is.access;
    of_kind = ⊎_elim (λ (fits : IsOfKind names (kind_of names target.name) value). inl (subst (λ (kind : Kind). IsOfKind placed kind value) (sym (same.kinds target.name)) (of_kind (kind_of names target.name) value fits)))
        (λ (taken : value ≡ taken_as (kind_of names target.name)). inr (taken ∙ ap taken_as (sym (same.kinds target.name)))) is.of_kind;
  }

  item : (i : Item) → IsProperItem names i → IsProperItem placed i
  item (Value e) is = proper e is
  item (Chars text) is = is

  integer_scalar : (k : ℕ) → IsIntegerScalar names k → IsIntegerScalar placed k
  integer_scalar k is = record { known = known k is.known; integer = same.kinds k ∙ is.integer; scalar = same.dims k ∙ is.scalar }

  pub IsExecutable-placed : (kind : ExecKind) → IsExecutable names kind → IsExecutable placed kind
  IsExecutable-placed (Assign target value next) is = assignment target value is
  IsExecutable-placed (Print items next) is = All-weaker (IsProperItem names) (IsProperItem placed) item items is
  IsExecutable-placed (Pass next) is = tt
  IsExecutable-placed (Test cond if_true if_false) is = of_kind Logical cond is
  IsExecutable-placed (Sign value neg null pos) is = of_kind Integer value is
  IsExecutable-placed (Pick value targets other) is = (of_kind Integer value is.0, is.1)
  IsExecutable-placed (DoStart loop_no var first last step body exit) is = record {
    variable = integer_scalar var is.variable;
    integers = All-weaker (IsOfKind names Integer) (IsOfKind placed Integer) (of_kind Integer) (first ∷ last ∷ step ∷ []) is.integers;
  }
  IsExecutable-placed (DoNext loop_no var body exit) is = integer_scalar var is
  IsExecutable-placed End is = tt
