-- Induction over expressions whose operands and subscripts are lists.
use Rattle.std.proofs.Common.{zero, suc, ℤ, Bool, List, [], ◌∷◌, map, sym, subst, arith}
use Rattle.std.specs.Prelude.{All}
use Rattle.op_table.specs.declared.Op.{Op}
use Rattle.f77_tree.specs.declared.expressions.Access.{Access}
use Rattle.f77_tree.specs.declared.expressions.Expr.{Expr, Const, Truth, Input, Apply, Read, Expr-F, map-Expr, roll-Expr}
use Rattle.f77_tree.specs.declared.expressions.Expr.TheFolds.{ind-Expr}
use Rattle.f77_tree.specs.declared.expressions.Expr.TheVariants.{rolls-Const, rolls-Truth, rolls-Input, rolls-Apply, rolls-Read}

-- what is so of an expression where it is so of its parts
pub record Holds (P : Expr → Type 0) : Type 0 where
  pub number : (z : ℤ) → P (Const z)
  pub truth : (b : Bool) → P (Truth b)
  pub input : P Input
  pub element : (access : Access) → All P access.subs → P (Read access)
  pub operation : (op : Op) (args : List Expr) → All P args → P (Apply op args)

all_mapped : {A : Type 0} (P : Expr → Type 0) (f : A → Expr) → ((a : A) → P (f a)) → (xs : List A) → All P (map f xs)
all_mapped P f each [] k d lt = absurd (omega (arith, lt))
all_mapped P f each (x ∷ xs) zero d lt = each x
all_mapped P f each (x ∷ xs) (suc k) d lt = all_mapped P f each xs k d (omega (arith, lt))

step : {A B : Type 0} (P : Expr → Type 0) → Holds P → (f : A → Expr) (g : B → Access) → ((a : A) → P (f a)) → ((b : B) → All P (g b).subs) → (y : Expr-F A B) → P (roll-Expr (map-Expr A B Expr Access f g y))
step P holds f g each subs (Expr-F.Const z) = subst P (sym (rolls-Const z)) (holds.number z)
step P holds f g each subs (Expr-F.Truth b) = subst P (sym (rolls-Truth b)) (holds.truth b)
step P holds f g each subs Expr-F.Input = subst P (sym rolls-Input) holds.input
step P holds f g each subs (Expr-F.Read b) = subst P (sym (rolls-Read (g b))) (holds.element (g b) (subs b))
step P holds f g each subs (Expr-F.Apply op args) = subst P (sym (rolls-Apply op (map f args))) (holds.operation op (map f args) (all_mapped P f each args))

pub every_expression : (P : Expr → Type 0) → Holds P → (e : Expr) → P e
every_expression P holds =
    ind-Expr P (λ a. All P a.subs)
    (λ x y is. subst (λ z. P (roll-Expr z)) is (step P holds (λ e. e.0) (λ e. e.0) (λ e. e.1) (λ e. e.1) y))
    (λ x y is. subst (λ z. All P z.subs) is (all_mapped P (λ e. e.0) (λ e. e.1) y.subs))
