-- Parts of statements whose names are tied and whose kinds are right.
use Rattle.std.proofs.Common.{◌≡◌, ℕ, true, ◌&&◌, List, ◌++◌, Some, None, subst}
use Rattle.std.proofs.lemmas.Bool.{and_parts}
use Rattle.std.proofs.lemmas.List.Elements.{Contains-append_left, Contains-append_right}
use Rattle.f77_tree.specs.declared.declarations.Kind.TheVariants.{Logical}
use Rattle.f77_tree.specs.declared.programs.NameInfo.{NameInfo}
use Rattle.f77_tree.specs.declared.statements.RawExpr.{RawExpr}
use Rattle.f77_tree.specs.declared.statements.Stmt.{Stmt, more_of-Stmt}
use Rattle.f77_tree.specs.declared.statements.Stmt.TheVariants.{ThenIf', BlockIf, ElseIf}
use Rattle.layout_rules.specs.Appearances.{appearing, names_in}
use Rattle.layout_rules.specs.Types.{is_of_kind, is_well_kinded}
use Rattle.program_units.specs.Copies.{Change}
use Rattle.program_units.specs.Units.{guard_of, inner}
use Rattle.copied_values.specs.SideBySide.{AreTied}
use Rattle.called_runs.specs.CopiedKinds.{condition_of}
use Rattle.called_runs.proofs.CopiedOutcomes.{IsTiedStatement, IsTiedTest}

module _ (R : ℕ → ℕ → Type 0) (names others : List NameInfo) (c : Change) where
  first-tied : (xs ys : List (List ℕ)) → AreTied R names others c (xs ++ ys) → AreTied R names others c xs
  first-tied xs ys tied = record { known = λ x at. tied.known x (Contains-append_left xs ys x at); paired = λ x at. tied.paired x (Contains-append_left xs ys x at) }

  second-tied : (xs ys : List (List ℕ)) → AreTied R names others c (xs ++ ys) → AreTied R names others c ys
  second-tied xs ys tied = record { known = λ x at. tied.known x (Contains-append_right xs ys x at); paired = λ x at. tied.paired x (Contains-append_right xs ys x at) }

  guard-tied : (condition : RawExpr) (stmt : Stmt) → AreTied R names others c (names_in c.arrays condition ++ appearing c.arrays stmt) → (is_of_kind names Logical condition && is_well_kinded names stmt) ≡ true → IsTiedTest R names others c condition × IsTiedStatement R names others c stmt
  guard-tied condition stmt tied kinded =
      let both = and_parts (is_of_kind names Logical condition) (is_well_kinded names stmt) kinded in
      let xs = names_in c.arrays condition in
      let ys = appearing c.arrays stmt in
      (record { tied = first-tied xs ys tied; kinded = both.0 }, record { tied = second-tied xs ys tied; kinded = both.1 })

  -- the statement after a condition
  pub inner-tied : (t : Stmt) → IsTiedStatement R names others c t → IsTiedStatement R names others c (inner t)
  inner-tied (ThenIf' condition shape (more_of-Stmt stmt rest)) t = (guard-tied condition stmt t.tied t.kinded).1
  inner-tied _ t = t

  -- the condition of an IF
  pub test-tied : (t : Stmt) (e : RawExpr) → condition_of t ≡ Some e → IsTiedStatement R names others c t → IsTiedTest R names others c e
  test-tied (ThenIf' condition shape (more_of-Stmt stmt rest)) e is t = let h : Some condition ≡ Some e = is in let same : condition ≡ e = cc in subst (IsTiedTest R names others c) same (guard-tied condition stmt t.tied t.kinded).0
  test-tied (BlockIf condition) e is t = let h : Some condition ≡ Some e = is in let same : condition ≡ e = cc in subst (IsTiedTest R names others c) same (record { tied = t.tied; kinded = t.kinded })
  test-tied (ElseIf condition) e is t = let h : Some condition ≡ Some e = is in let same : condition ≡ e = cc in subst (IsTiedTest R names others c) same (record { tied = t.tied; kinded = t.kinded })
  test-tied _ e is t = let h : None ≡ Some e = is in absurd cc

pub guard-condition : (t : Stmt) (e : RawExpr) → guard_of t ≡ Some e → condition_of t ≡ Some e
guard-condition (ThenIf' condition shape row) e is = is
guard-condition _ e is = let h : None ≡ Some e = is in absurd cc
