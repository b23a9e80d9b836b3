-- Folded expressions have the kinds and the values of the expressions, and take at most twice the operations.
use Rattle.std.proofs.Common.{◌≡◌, ℕ, suc, ◌+◌, ◌*◌, ◌≤◌, ℤ, Bool, List, ◌∷◌, length, map, Option, Some, None, Ok, All, refl, sym, ap, ◌∙◌, arith}
use Rattle.std.specs.Prelude.{sum_by}
use Rattle.std.proofs.lemmas.List.Sums.{sum_by-cons}
use Rattle.op_table.specs.Operators.{applied}
use Rattle.op_table.specs.Words.{IsWord}
use Rattle.f77_tree.specs.declared.declarations.Kind.{Kind}
use Rattle.f77_tree.specs.declared.expressions.Access.{Access}
use Rattle.f77_tree.specs.declared.expressions.Expr.{Expr, Const, Truth, Input, Read, Read', Apply, Apply', Row_of-Expr, end_of-Expr, more_of-Expr}
use Rattle.f77_tree.specs.declared.programs.NameInfo.{NameInfo}
use Rattle.f77_tree.specs.Kinds.{IsProper, AllOfKind}
use Rattle.f77_tree.specs.KnownWith.{known_with, AreRight}
use Rattle.f77_tree.specs.Line.{kind_of_expression}
use Rattle.f77_tree.specs.Operations.{operations, row_operations}
use Rattle.f77_tree.specs.Value.{value, row_values, row_length, all_values, and_then, read_of, word_of}
use Rattle.f77_tree.proofs.ExpressionLemmas.{value-Apply, value-Read}
use Rattle.f77_tree.proofs.KnownValues.{known_with-is}
use Rattle.f77_tree.proofs.LogicalValues.{value-truth}
use Rattle.f77_tree.proofs.OperationLaws.{operations-Apply, operations-Read}
use Rattle.f77_tree.proofs.WordValues.{value-is_word}
use Rattle.simplified_forms.specs.Literals.{literal_or}
use Rattle.simplified_forms.specs.Folding.{folded, row_folded}
use Rattle.simplified_laws.proofs.LiteralLaws.{literal-kind, literal-operations, literal-value}

module _ (names : List NameInfo) (checked : Bool) (words : ℕ → Option ℤ) where
  -- ---- kinds

  literal_or-kind : (kind : Kind) (told : Option ℤ) (e : Expr) → kind_of_expression names e ≡ kind → kind_of_expression names (literal_or checked kind told e) ≡ kind
  literal_or-kind kind None e is = is
  literal_or-kind kind (Some z) e is = literal-kind names checked kind z

  pub folded-kind : (e : Expr) → kind_of_expression names (folded names checked words e) ≡ kind_of_expression names e
  folded-kind (Const z) = refl
  folded-kind (Truth b) = refl
  folded-kind Input = refl
  folded-kind (Read' name shape subs) = literal_or-kind (kind_of_expression names (Read' name shape subs)) (known_with names words (Read' name shape subs)) (Read (record { name = name; subs = row_folded names checked words subs })) refl
  folded-kind (Apply' op shape args) = literal_or-kind (kind_of_expression names (Apply' op shape args)) (known_with names words (Apply' op shape args)) (Apply op (row_folded names checked words args)) refl

  pub row_folded-length : (m : _) (row : Row_of-Expr m) → length (row_folded names checked words row) ≡ row_length row
  row_folded-length m end_of-Expr = refl
  row_folded-length m (more_of-Expr e rest) = ap suc (row_folded-length _ rest)

  -- ---- operations

  literal_or-operations : (kind : Kind) (told : Option ℤ) (e : Expr) (n : ℕ) → 1 ≤ n → operations e ≤ 2 * n → operations (literal_or checked kind told e) ≤ 2 * n
  literal_or-operations kind None e n some few = few
  literal_or-operations kind (Some z) e n some few = let two = literal-operations checked kind z in omega (arith, two, some)

  mutual
    -- a folded expression takes at most twice the operations
    pub folded-operations : (e : Expr) → operations (folded names checked words e) ≤ 2 * operations e
    folded-operations (Const z) = omega arith
    folded-operations (Truth b) = omega arith
    folded-operations Input = omega arith
    folded-operations (Read' name shape subs) =
        let access : Access = record { name = name; subs = row_folded names checked words subs } in
        let here = operations-Read access in
        let few = subscripts-operations _ subs in
        literal_or-operations (kind_of_expression names (Read' name shape subs)) (known_with names words (Read' name shape subs)) (Read access) (operations (Read' name shape subs)) (omega arith) (omega (arith, here, few))
    folded-operations (Apply' op shape args) =
        let here = operations-Apply op (row_folded names checked words args) in
        let few = operands-operations _ args in
        literal_or-operations (kind_of_expression names (Apply' op shape args)) (known_with names words (Apply' op shape args)) (Apply op (row_folded names checked words args)) (operations (Apply' op shape args)) (omega arith) (omega (arith, here, few))

    operands-operations : (m : _) (row : Row_of-Expr m) → sum_by operations (row_folded names checked words row) ≤ 2 * row_operations row
    operands-operations m end_of-Expr = omega arith
    operands-operations m (more_of-Expr e rest) =
        let here = folded-operations e in
        let more = operands-operations _ rest in
        let sum = sum_by-cons operations (folded names checked words e) (row_folded names checked words rest) in
        omega (arith, here, more, sum)

    subscripts-operations : (m : _) (row : Row_of-Expr m) → sum_by (λ e. 2 + operations e) (row_folded names checked words row) ≤ 2 * (2 * row_length row + row_operations row)
    subscripts-operations m end_of-Expr = omega arith
    subscripts-operations m (more_of-Expr e rest) =
        let here = folded-operations e in
        let more = subscripts-operations _ rest in
        let sum = sum_by-cons (λ e. 2 + operations e) (folded names checked words e) (row_folded names checked words rest) in
        omega (arith, here, more, sum)

  -- ---- values

  module _ (store : List ℤ) (next : Option ℤ) (right : AreRight words store) (are_words : All IsWord store) where
    -- a literal for what is known has its value
    known-value : (e other : Expr) (told : Option ℤ) → IsProper names e → known_with names words e ≡ told → value names store next other ≡ value names store next e → value names store next (literal_or checked (kind_of_expression names e) told other) ≡ value names store next e
    known-value e other None proper is same = same
    known-value e other (Some z) proper is same =
        let has : value names store next e ≡ Ok z = known_with-is names words store next right e z is in
        literal-value names store next checked (kind_of_expression names e) z (value-is_word names store next are_words e z proper has) (λ logical. value-truth names store next e z logical has) ∙ sym has

    mutual
      -- a folded expression has the same value over each store of words in which what is told of words is right
      pub folded-value : (e : Expr) → IsProper names e → value names store next (folded names checked words e) ≡ value names store next e
      folded-value (Const z) proper = refl
      folded-value (Truth b) proper = refl
      folded-value Input proper = refl
      folded-value (Read' name shape subs) proper =
          let access : Access = record { name = name; subs = row_folded names checked words subs } in
          known-value (Read' name shape subs) (Read access) (known_with names words (Read' name shape subs)) proper refl (value-Read names store next access ∙ ap (λ rs. read_of names store name (word_of names name rs)) (row_folded-values _ subs _ proper.2))
      folded-value (Apply' op shape args) proper =
          known-value (Apply' op shape args) (Apply op (row_folded names checked words args)) (known_with names words (Apply' op shape args)) proper refl (value-Apply names store next op (row_folded names checked words args) ∙ ap (λ rs. and_then (applied op) (all_values rs)) (row_folded-values _ args _ proper.2))

      pub row_folded-values : (m : _) (row : Row_of-Expr m) (kind : Kind) → AllOfKind names kind row → map (value names store next) (row_folded names checked words row) ≡ row_values names store next row
      row_folded-values m end_of-Expr kind all = refl
      row_folded-values m (more_of-Expr e rest) kind all =
          ap (λ r. r ∷ map (value names store next) (row_folded names checked words rest)) (folded-value e all.0)
          ∙ ap (λ rs. value names store next e ∷ rs) (row_folded-values _ rest kind all.2)
