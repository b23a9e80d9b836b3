-- Units come one after another.
use Rattle.std.proofs.Common.{◌≡◌, ◌<◌, ◌+◌, List, [], ◌∷◌, length, take, drop, arith, add-one, length-drop, refl, suc, ℕ, not, cond, true, false, if◌then◌else◌}
use Rattle.f77_tree.specs.declared.statements.Labelled.{Labelled}
use Rattle.f77_tree.specs.declared.statements.RawExpr.{RawExpr}
use Rattle.f77_tree.specs.declared.statements.Stmt.{Stmt}
use Rattle.f77_tree.specs.declared.statements.Stmt.TheVariants.{ThenIf}
use Rattle.unit_statements.specs.Units.{before_end, first_unit, after_unit, in_first, inner, is_end, units}

in_first_split : (s : Labelled) (rest : List Labelled) (n : ℕ) → units rest ≡ take (suc n) rest ∷ units (drop (suc n) rest) → in_first s (units rest) ≡ (s ∷ take (1 + n) rest) ∷ units (drop (1 + n) rest)
in_first_split s rest n e = let one : 1 + n ≡ suc n = omega arith in rw (one, e) refl

split : (stmts : List Labelled) → 0 < length stmts → units stmts ≡ take (suc (before_end stmts)) stmts ∷ units (drop (suc (before_end stmts)) stmts)
split [] some = absurd (omega (arith, some))
split (s ∷ []) some =
    elim (is_end s.stmt) as (λ b. (if b then (s ∷ []) ∷ [] else in_first s []) ≡ take (suc (cond (not b) (1 + 0) 0)) (s ∷ []) ∷ units (drop (suc (cond (not b) (1 + 0) 0)) (s ∷ []))) [ true ↦ refl | false ↦ refl ]
split (s ∷ t ∷ more) some =
    elim (is_end s.stmt) as (λ b. (if b then (s ∷ []) ∷ units (t ∷ more) else in_first s (units (t ∷ more))) ≡ take (suc (cond (not b) (1 + before_end (t ∷ more)) 0)) (s ∷ t ∷ more) ∷ units (drop (suc (cond (not b) (1 + before_end (t ∷ more)) 0)) (s ∷ t ∷ more))) [
      | true ↦ refl
      | false ↦ in_first_split s (t ∷ more) (before_end (t ∷ more)) (split (t ∷ more) (omega arith))
    ]

-- the first unit comes first
pub units_split : (stmts : List Labelled) → 0 < length stmts → units stmts ≡ first_unit stmts ∷ units (after_unit stmts)
units_split stmts some = rw add-one (split stmts some)

-- and fewer statements are left
pub after_unit_is_shorter : (stmts : List Labelled) → 0 < length stmts → length (after_unit stmts) < length stmts
after_unit_is_shorter stmts some = rw length-drop (omega (arith, some))

pub inner-ThenIf : (condition : RawExpr) (stmt : Stmt) → inner (ThenIf condition stmt) ≡ stmt
unfolding Rattle.f77_tree.specs.declared.statements.Stmt.TheBlock.hidden-the_row-Stmt-0 denote.Hole.Carrier.hidden
inner-ThenIf condition stmt = refl
