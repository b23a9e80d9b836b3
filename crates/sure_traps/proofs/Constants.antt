-- An expression of constants alone has a value that is known, or a cause.
use Rattle.std.proofs.Common.{◌≡◌, ℤ, true, false, List, [], Option, Some, None, IsErr, ⊎_elim, refl, subst}
use Rattle.std.specs.Prelude.{◌⊎◌, IsSome, is_some}
use Rattle.std.specs.List.{list_all}
use Rattle.std.specs.Option.{option_or}
use Rattle.std.proofs.lemmas.Bool.{and_from}
use mathlib.Core.Logic.{inl, inr}
use Rattle.op_table.specs.declared.Op.{Op}
use Rattle.op_table.specs.Known.{folded}
use Rattle.f77_tree.specs.declared.expressions.Expr.{Expr, Const, Truth, Input, Read', Apply', Row_of-Expr, end_of-Expr, more_of-Expr}
use Rattle.f77_tree.specs.declared.programs.NameInfo.{NameInfo}
use Rattle.f77_tree.specs.Known.{known, row_known}
use Rattle.f77_tree.proofs.Safety.{known-is}
use Rattle.sure_traps.specs.Causes.{cause_in, operator_cause, row_cause}
use Rattle.sure_traps.specs.SureTraps.{AreConstant, ExpressionTraps, IsConstant}

some-left : {A : Type 0} (a b : Option A) → IsSome a → IsSome (option_or a b)
some-left (Some x) b h = refl
some-left None b h = absurd cc

some-right : {A : Type 0} (a b : Option A) → IsSome b → IsSome (option_or a b)
some-right (Some x) b h = refl
some-right None b h = h

-- where all operands are known the operator has a value or a cause
operator-seen : (op : Op) (ks : List (Option ℤ)) → list_all is_some ks ≡ true → IsSome (operator_cause op ks) ⊎ IsSome (folded op ks)
operator-seen op ks all = by_value (folded op ks) refl
  where
    by_value : (v : Option ℤ) → folded op ks ≡ v → IsSome (operator_cause op ks) ⊎ IsSome (folded op ks)
    by_value (Some z) is = inr (rw is refl)
    by_value None is = inl (rw (all, is) refl)

module _ (names : List NameInfo) where
  mutual
    seen : (e : Expr) → IsConstant e → IsSome (cause_in names e) ⊎ IsSome (known e)
    seen (Const z) c = inr refl
    seen (Truth b) c = inr refl
    seen Input c = absurd c
    seen (Read' name shape subs) c = absurd c
    seen (Apply' op shape args) c = ⊎_elim
        (λ here. inl (some-left (row_cause names args) (operator_cause op (row_known args)) here))
        (λ all. ⊎_elim
        (λ there. inl (some-right (row_cause names args) (operator_cause op (row_known args)) there))
        (λ has. inr has)
        (operator-seen op (row_known args) all))
        (row-seen _ args c)

    row-seen : (n : _) (row : Row_of-Expr n) → AreConstant row → IsSome (row_cause names row) ⊎ (list_all is_some (row_known row) ≡ true)
    row-seen n end_of-Expr c = inr refl
    row-seen n (more_of-Expr e rest) c = ⊎_elim
        (λ here. inl (some-left (cause_in names e) (row_cause names rest) here))
        (λ (has : is_some (known e) ≡ true). ⊎_elim
        (λ later. inl (some-right (cause_in names e) (row_cause names rest) later))
        (λ (all : list_all is_some (row_known rest) ≡ true). inr (and_from (is_some (known e)) (list_all is_some (row_known rest)) has all))
        (row-seen _ rest c.1))
        (seen e c.0)

  has-value : (e : Expr) (k : Option ℤ) → known e ≡ k → IsSome k → ExpressionTraps names e → ⊥
  has-value e None is h traps = absurd cc
  has-value e (Some z) is h traps = let no : false ≡ true = subst (λ r. IsErr r) (known-is names [] None e z is) (traps [] None) in absurd cc

  pub shown : (e : Expr) → IsConstant e → ExpressionTraps names e → IsSome (cause_in names e)
  shown e c traps = ⊎_elim (λ here. here) (λ has. absurd (has-value e (known e) refl has traps)) (seen e c)
