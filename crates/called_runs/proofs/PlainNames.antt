-- What stands in for a statement has names of the statement alone, and the same kinds.
use Rattle.std.proofs.Common.{◌≡◌, ℕ, Bool, ◌&&◌, List, ◌++◌, refl, ap, subst, ◌∙◌}
use Rattle.list_laws.specs.Member.{Member}
use Rattle.f77_tree.specs.declared.declarations.Kind.TheVariants.{Logical}
use Rattle.f77_tree.specs.declared.programs.NameInfo.{NameInfo}
use Rattle.f77_tree.specs.declared.statements.Stmt.{Stmt, more_of-Stmt}
use Rattle.f77_tree.specs.declared.statements.Stmt.TheVariants.{Sub, CallTo, Back, ThenIf'}
use Rattle.layout_rules.proofs.NamesOf.{appearing-ThenIf}
use Rattle.layout_rules.specs.Appearances.{appearing, names_in}
use Rattle.layout_rules.specs.Types.{is_of_kind, is_well_kinded}
use Rattle.program_units.specs.Units.{stand_in, stand_in_alone}

module _ (arrays : List ℕ → Bool) where
  alone-same : (s : Stmt) → appearing arrays (stand_in_alone s) ≡ appearing arrays s
  alone-same (Sub a b) = refl
  alone-same (CallTo a b) = refl
  alone-same Back = refl
  alone-same s = refl

  pub plain-appearing : (s : Stmt) → appearing arrays (stand_in s) ≡ appearing arrays s
  plain-appearing (ThenIf' condition shape (more_of-Stmt stmt rest)) = appearing-ThenIf arrays condition (stand_in_alone stmt) ∙ ap (λ (xs : List (List ℕ)). names_in arrays condition ++ xs) (alone-same stmt)
  plain-appearing s = alone-same s

  pub plain-names : (x : List ℕ) (s : Stmt) → Member (appearing arrays (stand_in s)) x → Member (appearing arrays s) x
  plain-names x s m = subst (λ (xs : List (List ℕ)). Member xs x) (plain-appearing s) m

module _ (names : List NameInfo) where
  kinds-alone : (s : Stmt) → is_well_kinded names (stand_in_alone s) ≡ is_well_kinded names s
  kinds-alone (Sub a b) = refl
  kinds-alone (CallTo a b) = refl
  kinds-alone Back = refl
  kinds-alone s = refl

  pub plain-kinds : (s : Stmt) → is_well_kinded names (stand_in s) ≡ is_well_kinded names s
  unfolding Rattle.f77_tree.specs.declared.statements.Stmt.TheBlock.hidden-the_row-Stmt-0 denote.Hole.Carrier.hidden
  plain-kinds (ThenIf' condition shape (more_of-Stmt stmt rest)) = ap (λ (b : Bool). is_of_kind names Logical condition && b) (kinds-alone stmt)
  plain-kinds s = kinds-alone s
