-- The statements that stand in for a unit's, one after another.
use Rattle.std.proofs.Common.{◌≡◌, ℕ, suc, ◌≤◌, List, [], ◌∷◌, length, take, refl, ap, arith, length-take}
use Rattle.f77_tree.specs.declared.statements.Labelled.{Labelled}
use Rattle.f77_tree.specs.declared.statements.RawExpr.{RawExpr}
use Rattle.f77_tree.specs.declared.statements.Stmt.{Stmt}
use Rattle.f77_tree.specs.declared.statements.Stmt.TheVariants.{ThenIf}
use Rattle.program_units.specs.Units.{inner, stand_in, stand_in_alone, standing_in}

pub stand_in-ThenIf : (condition : RawExpr) (stmt : Stmt) → stand_in (ThenIf condition stmt) ≡ ThenIf condition (stand_in_alone stmt)
unfolding Rattle.f77_tree.specs.declared.statements.Stmt.TheBlock.hidden-the_row-Stmt-0 denote.Hole.Carrier.hidden
stand_in-ThenIf condition stmt = refl

pub inner-ThenIf : (condition : RawExpr) (stmt : Stmt) → inner (ThenIf condition stmt) ≡ stmt
unfolding Rattle.f77_tree.specs.declared.statements.Stmt.TheBlock.hidden-the_row-Stmt-0 denote.Hole.Carrier.hidden
inner-ThenIf condition stmt = refl

pub standing-length : (xs : List Labelled) → length (standing_in xs) ≡ length xs
standing-length [] = refl
standing-length (x ∷ xs) = ap suc (standing-length xs)

pub standing-few : (unit : List Labelled) (i : ℕ) → length (standing_in (take i unit)) ≤ i
standing-few unit i = let a = standing-length (take i unit) in let b = length-take i unit in omega (arith, a, b)
